-- Rounds, proofs and their beginnings stand while the rows grow.
use Rattle.std.proofs.Common.{[], ◌∷◌, ◌++◌}
use Rattle.xn_kinds.specs.State.{empty_state}
use Rattle.xn_kinds.specs.Tree.{MayOpen}
use Rattle.xn_effort.specs.Laws.{MoreRowsKeepBeginnings, MoreRowsKeepProofs, MoreRowsKeepRounds}
use Rattle.xn_effort.specs.Leads.{Searches}
use Rattle.xn_effort.proofs.Bounds.{keeps_more, searches_more}
use Rattle.xn_effort.proofs.Rounds.{trees_weaker, leads_weaker, beginnings_weaker}

pub more_rows_keep_rounds : MoreRowsKeepRounds
more_rows_keep_rounds g t rows more nodes left leads =
    leads_weaker (Searches g t rows) (Searches g t (rows ++ more)) (searches_more g rows more t) nodes (empty_state ∷ []) left leads

pub more_rows_keep_proofs : MoreRowsKeepProofs
more_rows_keep_proofs g k rows more nodes s proves =
    trees_weaker (MayOpen g k rows) (MayOpen g k (rows ++ more)) (keeps_more g rows more k) nodes (s ∷ []) proves

pub more_rows_keep_beginnings : MoreRowsKeepBeginnings
more_rows_keep_beginnings g k rows more nodes begins =
    beginnings_weaker (MayOpen g k rows) (MayOpen g k (rows ++ more)) (keeps_more g rows more k) nodes (empty_state ∷ []) begins
