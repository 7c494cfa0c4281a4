use Rattle.std.proofs.Common.{◌≡◌, ℕ, ◌<◌, true}
use Rattle.xn_model.specs.Lists.{has}
use Rattle.xn_insert.specs.ListedLoose.{IsLooseOf, edges_in}
use Rattle.xn_insert.proofs.tests.all_come_in.Given as goal

-- the edges so far are in
abbrev pub invariant-loop-e : goal.invariant-loop-e
invariant-loop-e g l = record { loose : IsLooseOf l.graph l.loose; before : (x : ℕ) → has (edges_in l.loose) x ≡ true → x < l.e }
