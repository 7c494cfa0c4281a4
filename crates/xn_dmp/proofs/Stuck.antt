-- Fragments that no face takes.
use Rattle.std.proofs.Common.{◌≡◌, ℕ, ◌*◌, ◌<◌, true, eqb, List, [], ◌∷◌, length, refl, sym, ap, subst, ◌∙◌, arith}
use Rattle.std.specs.List.Sorted.{IsStrictlyIncreasing}
use Rattle.std.proofs.lemmas.Bool.{eq-eqb, or_left, or_right}
use Rattle.std.proofs.lemmas.List.{length-map}
use Rattle.xn_model.specs.Graph.{ends_at, touches}
use Rattle.xn_model.specs.Insertion.{is_old}
use Rattle.xn_model.specs.Lists.{at, has}
use Rattle.xn_model.specs.Map.{face_step, tail_of}
use Rattle.xn_model.specs.Permutation.{Permutes, Reaches}
use Rattle.xn_ring.proofs.Orbits.{reaches_back, reaches_trans, source_of}
use Rattle.xn_genus.specs.Part.{ends_listed}
use Rattle.xn_genus.proofs.Counts.{Permutes-face}
use Rattle.xn_map.specs.Anchored.{IsDartOf}
use Rattle.xn_map.specs.Marks.{is_marked}
use Rattle.xn_dmp.specs.Fragments.{IsCutOff, IsFound, IsStuckAt}
use Rattle.xn_dmp.specs.Growing.{Grown, IsGrown}
use Rattle.xn_dmp.specs.Jams.{IsContact, IsJam, NoFaceTakes}
use Rattle.xn_dmp.specs.Sharing.{HasCorners, NoFaceFrom}
use Rattle.xn_dmp.proofs.Finding.{fragment_one}
use Rattle.xn_dmp.proofs.Parts.{old_by}
use Rattle.xn_dmp.proofs.Placing.{ends_are}
use Rattle.xn_dmp.proofs.Reordered.{edge_list}

module _ (g : Grown) (grown : IsGrown g) where
  abbrev ends : List (ℕ × ℕ)
  ends = g.web.ends

  abbrev listed : List (ℕ × ℕ)
  listed = ends_listed g.web.ends g.placed

  abbrev n : ℕ
  n = 2 * length listed

  abbrev next : ℕ → ℕ
  next = at g.map.next

  size : length listed ≡ length g.placed
  size = length-map g.placed (ends_at ends)

  permutes : Permutes n next
  permutes = grown.flat.flat.is_map.permutes

  -- the corner before a dart
  before_it : (v e : ℕ) → e < n → tail_of listed e ≡ v → (d : ℕ) × (next d ≡ e) × IsDartOf g.map.web.ends v d
  before_it v e e_in at_v =
      let source = source_of n next permutes e e_in in
      let P : List (ℕ × ℕ) → Type 0 = λ xs. IsDartOf xs v source.0 in
      let there : tail_of listed source.0 ≡ v = sym (grown.flat.flat.is_map.same_node source.0 source.1) ∙ ap (tail_of listed) source.2 ∙ at_v in
      (source.0, source.2, subst P (sym (ends_are g grown)) (source.1, there))

  module _ (fragment contacts : List ℕ) (u : ℕ) (first : IsContact ends g.placed fragment u)
      (each : (i : ℕ) → i < length contacts → IsContact ends g.placed fragment (at contacts i)) (none : NoFaceFrom g.map u contacts) where
    pub no_face_takes : NoFaceTakes ends g.placed fragment next
    no_face_takes d d_low all =
        let f : ℕ → ℕ = face_step next in
        let d_in : d < n = omega (arith, d_low, size) in
        let corner = all u first in
        let a = before_it u corner.0 corner.1 corner.2 in
        let back = reaches_back n f (Permutes-face (length listed) next permutes) d corner.0 d_in corner.3 in
        none a.0 a.2 (λ i i_in.
        let other = all (at contacts i) (each i i_in) in
        let b = before_it (at contacts i) other.0 other.1 other.2 in
        let walk : Reaches f corner.0 other.0 = reaches_trans f corner.0 d other.0 back other.3 in
        let P : ℕ → Type 0 = λ x. Reaches f x other.0 in
        let Q : ℕ → Type 0 = λ x. Reaches f (next a.0) x in
        (b.0, (b.2, subst Q (sym b.1) (subst P (sym a.1) walk))))

  module _ (rise : IsStrictlyIncreasing g.placed) where
    -- what was found
    pub stuck_found : (fragment contacts : List ℕ) → IsFound g fragment contacts → 0 < length contacts → NoFaceFrom g.map (at contacts 0) contacts → IsStuckAt g fragment
    stuck_found fragment contacts found some none = record {
      rises = edge_list ends g.placed grown.apart rise;
      is_fragment = found.fragment;
      contact = (at contacts 0, found.are_contacts 0 some);
      no_face = no_face_takes fragment contacts (at contacts 0) (found.are_contacts 0 some) found.are_contacts none;
    }

    -- a segment alone
    pub stuck_alone : (s : ℕ) → is_marked g.free s ≡ true → IsCutOff g s → IsStuckAt g (s ∷ [])
    stuck_alone s free cut =
        let p = ends_at ends s in
        let itself : has (s ∷ []) s ≡ true = or_left (eqb s s) _ (eq-eqb s s refl) in
        let at_first : touches p p.0 ≡ true = or_left (eqb p.0 p.0) (eqb p.1 p.0) (eq-eqb p.0 p.0 refl) in
        let at_second : touches p p.1 ≡ true = or_right (eqb p.0 p.1) (eqb p.1 p.1) (eq-eqb p.1 p.1 refl) in
        let first : IsContact ends g.placed (s ∷ []) p.0 = (cut.first_old, old_by ends (s ∷ []) s p.0 itself at_first) in
        let second : IsContact ends g.placed (s ∷ []) p.1 = (cut.second_old, old_by ends (s ∷ []) s p.1 itself at_second) in
        let each : (i : ℕ) → i < 1 → IsContact ends g.placed (s ∷ []) (at (p.1 ∷ []) i) = λ i low.
        let is : i ≡ 0 = omega (arith, low) in
        subst (IsContact ends g.placed (s ∷ [])) (sym (ap (at (p.1 ∷ [])) is)) second in
        record {
          rises = edge_list ends g.placed grown.apart rise;
          is_fragment = fragment_one g grown s free;
          contact = (p.0, first);
          no_face = no_face_takes (s ∷ []) (p.1 ∷ []) p.0 first each cut.no_face;
        }

-- what is stuck is a jam
pub jam_here : (g : Grown) → IsGrown g → (fragment : List ℕ) → IsStuckAt g fragment → IsJam g.web (record { kept = g.placed; map = g.map; fragment = fragment })
jam_here g grown fragment stuck = record {
  kept_rises = stuck.rises;
  one_part = grown.one_part;
  map = grown.flat;
  fragment = stuck.is_fragment;
  contact = stuck.contact;
  no_face = stuck.no_face;
}
