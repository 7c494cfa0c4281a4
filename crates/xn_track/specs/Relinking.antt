-- A node with four darts that is passed twice comes apart into two with two darts each, so that each pass goes on where the other did.
use Rattle.std.specs.Prelude.{◌≡◌, ◌≢◌, ◌⊎◌, ℕ, suc, ◌*◌, ◌<◌, ◌≤◌, ◌==◌, ◌&&◌, Bool, true, not, List, length}
use Rattle.xn_model.specs.Graph.{Graph}
use Rattle.xn_model.specs.Map.{tail_of}
use Rattle.xn_model.specs.Permutation.{count_below}
use Rattle.xn_surgery.specs.Splitting.{IsSplit}
use Rattle.xn_track.specs.Track.{IsGround, straight_on}

-- a walk that comes by the reverse of x goes on by y, over a further node
pub record PassesTo (nodes : ℕ) (web : Graph) (next : ℕ → ℕ) (four : ℕ → Bool) (x y : ℕ) : Type 0 where
  pub x_in : x < 2 * length web.ends
  pub y_in : y < 2 * length web.ends
  pub high : nodes ≤ tail_of web.ends x
  pub one_node : tail_of web.ends y ≡ tail_of web.ends x
  pub goes : straight_on web.ends four next x ≡ y

-- two passes of one node, which has four darts
pub record MayBeRelinked (web : Graph) (next : ℕ → ℕ) (four : ℕ → Bool) (a b : ℕ) : Type 0 where
  pub a_in : a < 2 * length web.ends
  pub b_in : b < 2 * length web.ends
  pub one_node : tail_of web.ends a ≡ tail_of web.ends b
  pub holds : four (tail_of web.ends a) ≡ true
  pub differ : a ≢ b
  pub other : next (next a) ≢ b

-- the node of a and b, whose passes are from a and from b, is split: a now leads where b did, and b where a did
pub record IsRelinked (nodes : ℕ) (web : Graph) (next : ℕ → ℕ) (four : ℕ → Bool) (a b : ℕ) (more : Graph) (after : ℕ → ℕ)
    (fewer : ℕ → Bool) : Type 0 where
  pub x : ℕ
  pub y : ℕ
  pub split : IsSplit web.nodes web.ends next x y more.ends after
  pub one_more : more.nodes ≡ suc web.nodes
  pub but_this : (v : ℕ) → fewer v ≡ (four v && not (v == tail_of web.ends a))
  pub ground : IsGround nodes more after fewer
  pub from_a : PassesTo nodes more after fewer a (next (next b))
  pub from_b : PassesTo nodes more after fewer b (next (next a))
  pub others : (c d : ℕ) → PassesTo nodes web next four c d → tail_of web.ends c ≢ tail_of web.ends a → PassesTo nodes more after fewer c d
  pub tails : (d : ℕ) → d < 2 * length web.ends → tail_of web.ends d ≢ tail_of web.ends a → tail_of more.ends d ≡ tail_of web.ends d
  pub count : count_below web.nodes four ≡ suc (count_below more.nodes fewer)

-- one of the two comes next after the other, and is the first dart of those that come apart
abbrev pub ComesApartAt : (ℕ → ℕ) → ℕ → ℕ → ℕ → Type 0
ComesApartAt next a b x = ((x ≡ a) × (next b ≡ a)) ⊎ ((x ≡ b) × (next a ≡ b))

-- each split of the node there relinks them
abbrev pub EverySplitRelinks : Type 0
EverySplitRelinks =
    (nodes : ℕ) (web : Graph) (next : ℕ → ℕ) (four : ℕ → Bool) → IsGround nodes web next four → (a b : ℕ) → MayBeRelinked web next four a b →
    (x : ℕ) → ComesApartAt next a b x → (ends : List (ℕ × ℕ)) (after : ℕ → ℕ) → IsSplit web.nodes web.ends next x (next (next x)) ends after →
    IsRelinked nodes web next four a b (record { nodes = suc web.nodes; ends = ends }) after (λ v. four v && not (v == tail_of web.ends a))

-- and there is one
abbrev pub PassesCanBeRelinked : Type 0
PassesCanBeRelinked =
    (nodes : ℕ) (web : Graph) (next : ℕ → ℕ) (four : ℕ → Bool) → IsGround nodes web next four → (a b : ℕ) → MayBeRelinked web next four a b →
    (more : Graph) × (after : ℕ → ℕ) × (fewer : ℕ → Bool) × IsRelinked nodes web next four a b more after fewer
