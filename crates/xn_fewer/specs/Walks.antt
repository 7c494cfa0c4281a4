-- Walks of one web that are walks of another.
use Rattle.std.specs.Prelude.{ℕ, ◌<◌, List, length}
use Rattle.xn_model.specs.Graph.{ends_at}
use Rattle.xn_model.specs.Map.{Joined}

-- a web that joins the ends of each segment of another joins all nodes that the other joins
abbrev pub WalksGoOver : Type 0
WalksGoOver =
    (xs ys : List (ℕ × ℕ)) → ((s : ℕ) → s < length xs → Joined ys (ends_at xs s).0 (ends_at xs s).1) →
    (u v : ℕ) → Joined xs u v → Joined ys u v
