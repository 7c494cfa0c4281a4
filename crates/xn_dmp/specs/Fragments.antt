-- Fragments: free segments that hang together at nodes that no placed segment meets.
use Rattle.std.specs.Prelude.{◌≡◌, ℕ, ◌<◌, true, false, List, [], ◌∷◌, length}
use Rattle.xn_model.specs.Graph.{ends_at}
use Rattle.xn_model.specs.Insertion.{is_old}
use Rattle.xn_model.specs.Lists.{at}
use Rattle.xn_model.specs.Orders.{IsEdgeList}
use Rattle.xn_dmp.specs.Growing.{Grown}
use Rattle.xn_dmp.specs.Jams.{IsContact, IsFragment, NoFaceTakes}
use Rattle.xn_dmp.specs.Sharing.{NoFaceFrom}

-- a fragment, and nodes at which placed segments meet it
pub record IsFound (g : Grown) (segments contacts : List ℕ) : Type 0 where
  pub fragment : IsFragment g.web.ends g.placed segments
  pub are_contacts : (i : ℕ) → i < length contacts → IsContact g.web.ends g.placed segments (at contacts i)

-- a fragment was found, of what was found before and more
pub record FindsMore (g : Grown) (segments segments_new contacts_new : List ℕ) : Type 0 where
  pub found : IsFound g segments_new contacts_new
  pub kept : (v : ℕ) → is_old g.web.ends segments v ≡ true → is_old g.web.ends segments_new v ≡ true

-- of any fragment with these segments more was found
abbrev pub Gathers : Grown → List ℕ → List ℕ → Type 0
Gathers g segments segments_new = (contacts : List ℕ) → IsFound g segments contacts → FindsMore g segments segments_new contacts

-- both ends of s have darts in the map, and no face has a corner at both
pub record IsCutOff (g : Grown) (s : ℕ) : Type 0 where
  pub first_old : is_old g.web.ends g.placed (ends_at g.web.ends s).0 ≡ true
  pub second_old : is_old g.web.ends g.placed (ends_at g.web.ends s).1 ≡ true
  pub no_face : NoFaceFrom g.map (ends_at g.web.ends s).0 ((ends_at g.web.ends s).1 ∷ [])

-- the placed segments rise, and no face takes the fragment
pub record IsStuckAt (g : Grown) (fragment : List ℕ) : Type 0 where
  pub rises : IsEdgeList (length g.web.ends) g.placed
  pub is_fragment : IsFragment g.web.ends g.placed fragment
  pub contact : (v : ℕ) × IsContact g.web.ends g.placed fragment v
  pub no_face : NoFaceTakes g.web.ends g.placed fragment (at g.map.next)
