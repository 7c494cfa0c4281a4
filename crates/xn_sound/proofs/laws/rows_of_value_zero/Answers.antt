use Rattle.xn_sound.proofs.Rows.{zero_means_the_rows_orders}
use Rattle.xn_sound.proofs.laws.rows_of_value_zero.Goals as goal

pub returns : goal.returns
returns c = zero_means_the_rows_orders
