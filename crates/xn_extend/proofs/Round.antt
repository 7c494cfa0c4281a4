-- A dart comes into the ring of a node.
use Rattle.std.proofs.Common.{◌≡◌, ◌≢◌, ℕ, ◌*◌, ◌/◌, ◌<◌, inl, inr, Bool, true, false, ◌||◌, eqb, List, ◌∷◌, length, sym, ◌∙◌, ap}
use Rattle.std.proofs.lemmas.Bool.{both_ways, cases_eq, eq-eqb, eqb-true, false_from_ne_true, or_cases, or_left, or_right}
use Rattle.xn_model.proofs.Tests.{same_tests}
use Rattle.xn_extend.proofs.Pair.{ArePair}
use Rattle.xn_genus.proofs.Counts.{stays_alone}
use Rattle.xn_genus.specs.Live.{IsMapOn}
use Rattle.xn_model.specs.Insertion.{StandsAfter}
use Rattle.xn_model.specs.Lists.{has}
use Rattle.xn_model.specs.Map.{tail_of}
use Rattle.xn_model.specs.Permutation.{IsSplice, Permutes, Reaches, iterate}
use Rattle.xn_ring.proofs.Orbits.{reaches_back, reaches_trans}
use Rattle.xn_ring.proofs.Splice.{JoinsCycles-splice, Permutes-splice}
use Rattle.xn_ring.specs.Swaps.{JoinsCycles}

-- next turns round each node through the darts that pass, and every other dart is alone
pub record IsRoundOn (ends : List (ℕ × ℕ)) (passes : ℕ → Bool) (next : ℕ → ℕ) : Type 0 where
  pub permutes : Permutes (2 * length ends) next
  pub same_node : (x : ℕ) → x < 2 * length ends → tail_of ends (next x) ≡ tail_of ends x
  pub dead : (x : ℕ) → x < 2 * length ends → passes x ≡ false → next x ≡ x
  pub one_ring : (x y : ℕ) → x < 2 * length ends → y < 2 * length ends → passes x ≡ true → passes y ≡ true → tail_of ends x ≡ tail_of ends y → Reaches next x y

-- d passes too
abbrev pub and_dart : ℕ → (ℕ → Bool) → ℕ → Bool
and_dart d passes x = eqb x d || passes x

not_dart : (d : ℕ) (passes : ℕ → Bool) (x : ℕ) → and_dart d passes x ≡ false → (x ≢ d) × (passes x ≡ false)
not_dart d passes x h = (
  λ same. both_ways (and_dart d passes x) h (or_left (eqb x d) (passes x) (eq-eqb x d same)),
  false_from_ne_true (passes x) (λ t. both_ways (and_dart d passes x) h (or_right (eqb x d) (passes x) t)),
)

-- d comes to stand after c
module _ (ends : List (ℕ × ℕ)) (passes : ℕ → Bool) (before after : ℕ → ℕ) (map : IsRoundOn ends passes before) (d c : ℕ) (d_in : d < 2 * length ends)
    (c_in : c < 2 * length ends) (d_out : passes d ≡ false) (c_there : passes c ≡ true) (one_node : tail_of ends c ≡ tail_of ends d)
    (stands : StandsAfter (2 * length ends) d c before after) where
  abbrev n : ℕ
  n = 2 * length ends

  abbrev tail : ℕ → ℕ
  tail = tail_of ends

  alone : before d ≡ d
  alone = map.dead d d_in d_out

  apart : c ≢ d
  apart same = both_ways (passes d) d_out (ap passes (sym same) ∙ c_there)

  splice : IsSplice n c d before after
  splice = record {
    first = stands.follows ∙ sym alone;
    second = stands.leads_on;
    others = λ x x_in not_c not_d. stands.others x x_in not_c not_d;
  }

  permutes : Permutes n after
  permutes = Permutes-splice n c d before after map.permutes splice c_in d_in

  joins : JoinsCycles n c d before after
  joins = JoinsCycles-splice n c d before after map.permutes splice c_in d_in (λ there.
      let back = reaches_back n before map.permutes c d c_in there in
      apart (sym back.1 ∙ stays_alone before d alone back.0))

  walks : (x y : ℕ) → x < n → y < n → Reaches before x y → Reaches after x y
  walks x y x_in y_in there = (joins.walks x y x_in y_in).1 (inl there)

  to_corner : (x : ℕ) → x < n → and_dart d passes x ≡ true → tail x ≡ tail d → Reaches after x c
  to_corner x x_in h at_d = elim (or_cases (eqb x d) (passes x) h) [
    | inl here ↦
        let back = reaches_back n after permutes c d c_in joins.one in
        (back.0, ap (iterate after back.0) (eqb-true x d here) ∙ back.1)
    | inr there ↦ walks x c x_in c_in (map.one_ring x c x_in c_in there c_there (at_d ∙ sym one_node))
  ]

  through : (x y : ℕ) → x < n → y < n → and_dart d passes x ≡ true → and_dart d passes y ≡ true → tail x ≡ tail d → tail y ≡ tail d → Reaches after x y
  through x y x_in y_in x_there y_there x_at y_at =
      reaches_trans after x c y (to_corner x x_in x_there x_at) (reaches_back n after permutes y c y_in (to_corner y y_in y_there y_at))

  pub IsRoundOn-stands : IsRoundOn ends (and_dart d passes) after
  IsRoundOn-stands = record {
    permutes = permutes;
    same_node = λ x x_in. elim (cases_eq x c) [
      | inl at_c ↦ ap (λ y. tail (after y)) at_c ∙ ap tail stands.follows ∙ sym one_node ∙ ap tail (sym at_c)
      | inr not_c ↦ elim (cases_eq x d) [
        | inl at_d ↦ ap (λ y. tail (after y)) at_d ∙ ap tail stands.leads_on ∙ map.same_node c c_in ∙ one_node ∙ ap tail (sym at_d)
        | inr not_d ↦ ap tail (stands.others x x_in not_c not_d) ∙ map.same_node x x_in
      ]
    ];
    dead = λ x x_in h.
        let out = not_dart d passes x h in
        stands.others x x_in (λ same. both_ways (passes x) out.1 (ap passes same ∙ c_there)) out.0 ∙ map.dead x x_in out.1;
    one_ring = λ x y x_in y_in x_there y_there same. elim (or_cases (eqb x d) (passes x) x_there) [
      | inl here ↦ let at_d = ap tail (eqb-true x d here) in through x y x_in y_in x_there y_there at_d (sym same ∙ at_d)
      | inr x_passes ↦ elim (or_cases (eqb y d) (passes y) y_there) [
        | inl here ↦ let at_d = ap tail (eqb-true y d here) in through x y x_in y_in x_there y_there (same ∙ at_d) at_d
        | inr y_passes ↦ walks x y x_in y_in (map.one_ring x y x_in y_in x_passes y_passes same)
      ]
    ];
  }

-- e is alone at its node
pub IsRoundOn-new : (ends : List (ℕ × ℕ)) (passes : ℕ → Bool) (next : ℕ → ℕ) → IsRoundOn ends passes next → (e : ℕ) →
    ((x : ℕ) → passes x ≡ true → tail_of ends x ≢ tail_of ends e) → IsRoundOn ends (and_dart e passes) next
IsRoundOn-new ends passes next map e is_new = record {
  permutes = map.permutes;
  same_node = map.same_node;
  dead = λ x x_in h. map.dead x x_in (not_dart e passes x h).1;
  one_ring = λ x y x_in y_in x_there y_there same. elim (or_cases (eqb x e) (passes x) x_there) [
    | inl x_here ↦ elim (or_cases (eqb y e) (passes y) y_there) [
      | inl y_here ↦ (0, eqb-true x e x_here ∙ sym (eqb-true y e y_here))
      | inr y_passes ↦ absurd (is_new y y_passes (sym same ∙ ap (tail_of ends) (eqb-true x e x_here)))
    ]
    | inr x_passes ↦ elim (or_cases (eqb y e) (passes y) y_there) [
      | inl y_here ↦ absurd (is_new x x_passes (same ∙ ap (tail_of ends) (eqb-true y e y_here)))
      | inr y_passes ↦ map.one_ring x y x_in y_in x_passes y_passes same
    ]
  ];
}

-- the darts of the segments that are in
abbrev pub dart_of : List ℕ → ℕ → Bool
dart_of done x = has done (x / 2)

pub IsRoundOn-map : (ends : List (ℕ × ℕ)) (live : ℕ → Bool) (done : List ℕ) (next : ℕ → ℕ) → IsMapOn ends live next → ((i : ℕ) → live i ≡ has done i) →
    IsRoundOn ends (dart_of done) next
IsRoundOn-map ends live done next map same = record {
  permutes = map.permutes;
  same_node = map.same_node;
  dead = λ x x_in h. map.dead x x_in (same (x / 2) ∙ h);
  one_ring = λ x y x_in y_in x_there y_there tails. map.one_ring x y x_in y_in (same (x / 2) ∙ x_there) (same (y / 2) ∙ y_there) tails;
}

pair_tests : (ends : List (ℕ × ℕ)) (done : List ℕ) (s d e : ℕ) → ArePair ends s d e → (x : ℕ) → and_dart e (and_dart d (dart_of done)) x ≡ has (s ∷ done) (x / 2)
pair_tests ends done s d e pair x = same_tests _ _
    (λ t. elim (or_cases (eqb x e) (and_dart d (dart_of done) x) t) [
      | inl at_e ↦ of_s (ap (λ z. z / 2) (eqb-true x e at_e) ∙ pair.second_half)
      | inr more ↦ elim (or_cases (eqb x d) (dart_of done x) more) [
        | inl at_d ↦ of_s (ap (λ z. z / 2) (eqb-true x d at_d) ∙ pair.first_half)
        | inr old ↦ or_right (eqb s (x / 2)) (dart_of done x) old
      ]
    ])
    (λ t. elim (or_cases (eqb s (x / 2)) (dart_of done x) t) [
      | inl here ↦ elim (pair.only x (sym (eqb-true s (x / 2) here))) [
        | inl at_d ↦ or_right (eqb x e) (and_dart d (dart_of done) x) (or_left (eqb x d) (dart_of done x) (eq-eqb x d at_d))
        | inr at_e ↦ or_left (eqb x e) (and_dart d (dart_of done) x) (eq-eqb x e at_e)
      ]
      | inr old ↦ or_right (eqb x e) (and_dart d (dart_of done) x) (or_right (eqb x d) (dart_of done x) old)
    ])
  where
    of_s : x / 2 ≡ s → has (s ∷ done) (x / 2) ≡ true
    of_s half = or_left (eqb s (x / 2)) (dart_of done x) (eq-eqb s (x / 2) (sym half))

-- with both darts of s in, it is a map of one segment more
pub IsMapOn-pair : (ends : List (ℕ × ℕ)) (done : List ℕ) (s d e : ℕ) (next : ℕ → ℕ) → ArePair ends s d e →
    IsRoundOn ends (and_dart e (and_dart d (dart_of done))) next → IsMapOn ends (has (s ∷ done)) next
IsMapOn-pair ends done s d e next pair map =
    let same = pair_tests ends done s d e pair in
    record {
      permutes = map.permutes;
      same_node = map.same_node;
      dead = λ x x_in h. map.dead x x_in (same x ∙ h);
      one_ring = λ x y x_in y_in x_there y_there tails. map.one_ring x y x_in y_in (same x ∙ x_there) (same y ∙ y_there) tails;
    }
