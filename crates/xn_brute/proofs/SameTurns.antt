-- Flat insertions depend on no more than what follows each dart of the web.
use Rattle.std.proofs.Common.{◌≡◌, ℕ, zero, suc, ◌+◌, ◌*◌, ◌/◌, ◌<◌, inl, inr, List, [], ◌∷◌, length, refl, sym, ap, ◌∙◌, arith}
use Rattle.std.proofs.lemmas.Bool.{cases_eq}
use Rattle.xn_model.specs.Graph.{Graph}
use Rattle.xn_model.specs.Insertion.{CutsFace, FlatInsertion, HangsAt, IsOldCorner, StandsAfter}
use Rattle.xn_model.specs.Lists.{at}
use Rattle.xn_model.specs.Map.{face_step, reverse_of}
use Rattle.xn_model.specs.Permutation.{Reaches, iterate}
use Rattle.xn_model.proofs.Darts.{reverse_below}
use Rattle.xn_model.proofs.Has.{has-all}
use Rattle.xn_brute.specs.Growth.{CanExtend}
use Rattle.xn_brute.specs.Insertions.{AreSegments, IsListing}
use Rattle.xn_brute.proofs.Walks.{iterate_below}

-- a corner is after a dart of the web
pub corner_below : (web : Graph) (done : List ℕ) → AreSegments web done → (d c : ℕ) → IsOldCorner web.ends done d c → c < 2 * length web.ends
corner_below web done segments d c corner =
    let low = has-all (λ s. s < length web.ends) done segments (c / 2) corner.in_map in omega (arith, low)

-- two rotations in which d stands after c are the same
pub stands_same : (n d c : ℕ) (before one other : ℕ → ℕ) → StandsAfter n d c before one → StandsAfter n d c before other → (x : ℕ) → x < n → one x ≡ other x
stands_same n d c before one other first second x low = elim (cases_eq x c) [
  | inl at_c ↦ ap one at_c ∙ first.follows ∙ sym second.follows ∙ ap other (sym at_c)
  | inr not_c ↦ elim (cases_eq x d) [
    | inl at_d ↦ ap one at_d ∙ first.leads_on ∙ sym second.leads_on ∙ ap other (sym at_d)
    | inr not_d ↦ first.others x low not_c not_d ∙ sym (second.others x low not_c not_d)
  ]
]

-- f and g are the same below n, and stay below it
pub record AreSame (n : ℕ) (f g : ℕ → ℕ) : Type 0 where
  pub same : (x : ℕ) → x < n → f x ≡ g x
  pub closed : (x : ℕ) → x < n → g x < n

pub stands_from_same : (n d c : ℕ) (f g after : ℕ → ℕ) → AreSame n f g → c < n → StandsAfter n d c f after → StandsAfter n d c g after
stands_from_same n d c f g after are c_low stands = record {
  follows = stands.follows;
  leads_on = stands.leads_on ∙ are.same c c_low;
  others = λ x low not_c not_d. stands.others x low not_c not_d ∙ are.same x low;
}

module _ (m : ℕ) (f g : ℕ → ℕ) (are : AreSame (2 * m) f g) where
  closed_step : (d : ℕ) → d < 2 * m → face_step g d < 2 * m
  closed_step d low = are.closed (reverse_of d) (reverse_below m d low)

  steps_same : (k d : ℕ) → d < 2 * m → iterate (face_step f) k d ≡ iterate (face_step g) k d
  steps_same zero d low = refl
  steps_same (suc k) d low =
      let y = iterate (face_step g) k d in
      ap (face_step f) (steps_same k d low) ∙ are.same (reverse_of y) (reverse_below m y (iterate_below (2 * m) (face_step g) closed_step k d low))

  reaches_same : (a b : ℕ) → a < 2 * m → b < 2 * m → Reaches (face_step f) (f a) (f b) → Reaches (face_step g) (g a) (g b)
  reaches_same a b a_low b_low there = (
    there.0,
    sym (steps_same there.0 (g a) (are.closed a a_low)) ∙ ap (iterate (face_step f) there.0) (sym (are.same a a_low)) ∙ there.1 ∙ are.same b b_low,
  )

module _ (web : Graph) (done : List ℕ) (segments : AreSegments web done) (f g : ℕ → ℕ) (are : AreSame (2 * length web.ends) f g) where
  hangs_same : (d e : ℕ) (after : ℕ → ℕ) → HangsAt web.ends done d e f after → HangsAt web.ends done d e g after
  hangs_same d e after hangs = record {
    corner = hangs.corner;
    is_corner = hangs.is_corner;
    new_end = hangs.new_end;
    stands = stands_from_same _ d hangs.corner f g after are (corner_below web done segments d hangs.corner hangs.is_corner) hangs.stands;
  }

  cuts_same : (s : ℕ) (after : ℕ → ℕ) → CutsFace web.ends done s f after → CutsFace web.ends done s g after
  cuts_same s after cuts =
      let first_low = corner_below web done segments (2 * s) cuts.first cuts.is_first in
      let second_low = corner_below web done segments (2 * s + 1) cuts.second cuts.is_second in
      record {
        first = cuts.first;
        second = cuts.second;
        is_first = cuts.is_first;
        is_second = cuts.is_second;
        one_face = reaches_same (length web.ends) f g are cuts.first cuts.second first_low second_low cuts.one_face;
        between = cuts.between;
        first_stands = stands_from_same _ (2 * s) cuts.first f g cuts.between are first_low cuts.first_stands;
        second_stands = cuts.second_stands;
      }

  insertion_same : (s : ℕ) (after : ℕ → ℕ) → FlatInsertion web.ends done s f after → FlatInsertion web.ends done s g after
  insertion_same s after insertion = elim insertion [
    | inl first ↦ inl (hangs_same (2 * s) (2 * s + 1) after first)
    | inr rest ↦ elim rest [
      | inl second ↦ inr (inl (hangs_same (2 * s + 1) (2 * s) after second))
      | inr cuts ↦ inr (inr (cuts_same s after cuts))
    ]
  ]

  pub extends_same : (rest : List ℕ) → CanExtend web done rest f → CanExtend web done rest g
  extends_same [] can = (can.0, λ d low. can.1 d low ∙ are.same d low)
  extends_same (s ∷ rest) can = (can.0, (can.1.0, insertion_same s can.1.0 can.1.1, can.1.2))

-- ---- what is tried

closed_list : (web : Graph) (next : List ℕ) → IsListing web next → (x : ℕ) → x < 2 * length web.ends → at next x < 2 * length web.ends
closed_list web next listing x low = let x_in : x < length next = omega (arith, low, listing.long) in listing.darts x 0 x_in

same_list : (web : Graph) (next : List ℕ) (f : ℕ → ℕ) → IsListing web next → ((x : ℕ) → x < 2 * length web.ends → f x ≡ at next x) → AreSame (2 * length web.ends) f (at next)
same_list web next f listing same = record { same = same; closed = closed_list web next listing }
