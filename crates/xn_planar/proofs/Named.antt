-- Evidence for listed segments of a web is evidence for the web.
use Rattle.std.proofs.Common.{◌≡◌, ℕ, zero, suc, ◌<◌, inl, inr, false, true, eqb, map, List, [], ◌∷◌, ◌++◌, length, refl, sym, ◌∙◌, ap, subst, arith}
use Rattle.std.specs.List.{AllByRecursion, IsDistinct, concat}
use Rattle.std.proofs.lemmas.Bool.{both_ways, eq-eqb, eqb-false, eqb-true, ne_eqb, or_cases, or_left, or_right}
use Rattle.std.proofs.lemmas.List.{get_or_default, length-map}
use Rattle.std.proofs.lemmas.List.{map-append}
use Rattle.std.proofs.Math.ListN.{get_or-map}
use Rattle.xn_model.specs.Evidence.{IsPathSystem, LeadAll, LeadsTo, all_inner, far_end, five_pairs, inner_nodes, three_pairs}
use Rattle.xn_model.specs.Graph.{Graph, ends_at, touches}
use Rattle.xn_model.specs.Lists.{at, has}
use Rattle.xn_kinds.specs.Row.{EvidenceHolds}
use Rattle.xn_kinds.specs.declared.rows.Evidence.{Evidence}
use Rattle.xn_kinds.specs.declared.rows.Evidence.TheVariants.{Five, ThreeThree, Extension}
use Rattle.xn_genus.specs.Part.{AreSegmentsApart, ends_listed}
use Rattle.xn_extend.specs.Extended.{listed_web}
use Rattle.xn_extend.proofs.Corners.{size_listed}
use Rattle.xn_components.proofs.Flooding.{has_append, has_at}
use Rattle.xn_kura.specs.Flaws.{HasAKind}
use Rattle.xn_planar.specs.Named.{AreAllPlaces, NamesPlaces, named, named_path, named_paths}

-- ---- names

module _ (f : ℕ → ℕ) where
  concat_map : (lists : List (List ℕ)) → concat (map (map f) lists) ≡ map f (concat lists)
  concat_map [] = refl
  concat_map (xs ∷ lists) = ap (λ ys. map f xs ++ ys) (concat_map lists) ∙ sym (map-append f xs (concat lists))

  away_map : (n x : ℕ) → ((a b : ℕ) → a < n → b < n → f a ≡ f b → a ≡ b) → x < n → (xs : List ℕ) → ((y : ℕ) → has xs y ≡ true → y < n) →
      AllByRecursion (λ y. eqb x y ≡ false) xs → AllByRecursion (λ y. eqb (f x) y ≡ false) (map f xs)
  away_map n x apart x_in [] within away = tt
  away_map n x apart x_in (y ∷ xs) within away = (
    ne_eqb (f x) (f y) (λ same. eqb-false x y away.0 (apart x y x_in (within y (or_left (eqb y y) (has xs y) (eq-eqb y y refl))) same)),
    away_map n x apart x_in xs (λ z h. within z (or_right (eqb y z) (has xs z) h)) away.1,
  )

  distinct_map : (n : ℕ) → ((a b : ℕ) → a < n → b < n → f a ≡ f b → a ≡ b) → (xs : List ℕ) → ((y : ℕ) → has xs y ≡ true → y < n) →
      IsDistinct eqb xs → IsDistinct eqb (map f xs)
  unfolding IsDistinct
  distinct_map n apart [] within once = tt
  distinct_map n apart (x ∷ xs) within once = (
    away_map n x apart (within x (or_left (eqb x x) (has xs x) (eq-eqb x x refl))) xs (λ y h. within y (or_right (eqb x y) (has xs y) h)) once.0,
    distinct_map n apart xs (λ y h. within y (or_right (eqb x y) (has xs y) h)) once.1,
  )

module _ (web : Graph) (list : List ℕ) (apart : AreSegmentsApart web.ends list) where
  abbrev listed : List (ℕ × ℕ)
  listed = ends_listed web.ends list

  abbrev name : ℕ → ℕ
  name = at list

  size : length listed ≡ length list
  size = size_listed web.ends list apart

  ends_are : (i : ℕ) → i < length listed → ends_at listed i ≡ ends_at web.ends (name i)
  ends_are i i_in = get_or_default listed i (0, 0) (ends_at web.ends 0) i_in ∙ get_or-map (ends_at web.ends) list i 0

  leads : (u : ℕ) (path : List ℕ) (v : ℕ) → LeadsTo listed u path v → LeadsTo web.ends u (named_path list path) v
  leads u [] v h = h
  leads u (s ∷ path) v h =
      let is = ends_are s h.0 in
      let P : ℕ × ℕ → Type 0 = λ p. touches p u ≡ true in
      let Q : ℕ × ℕ → Type 0 = λ p. LeadsTo web.ends (far_end p u) (named_path list path) v in
      (apart.segments_in s (omega (arith, h.0, size)), subst P is h.1, subst Q is (leads (far_end (ends_at listed s) u) path v h.2))

  inner : (u : ℕ) (path : List ℕ) (v : ℕ) → LeadsTo listed u path v → inner_nodes listed u path ≡ inner_nodes web.ends u (named_path list path)
  inner u [] v h = refl
  inner u (s ∷ []) v h = refl
  inner u (s ∷ t ∷ path) v h =
      let w = far_end (ends_at listed s) u in
      let rest = inner w (t ∷ path) v h.2 in
      ap (λ xs. w ∷ xs) rest ∙ ap (λ p. far_end p u ∷ inner_nodes web.ends (far_end p u) (named_path list (t ∷ path))) (ends_are s h.0)

  lead_all : (branch : List ℕ) (pairs : List (ℕ × ℕ)) (paths : List (List ℕ)) → LeadAll listed branch pairs paths → LeadAll web.ends branch pairs (named_paths list paths)
  lead_all branch [] [] h = tt
  lead_all branch [] (l ∷ ls) h = absurd h
  lead_all branch (p ∷ ps) [] h = absurd h
  lead_all branch (p ∷ ps) (path ∷ paths) h = (leads _ path _ h.0, lead_all branch ps paths h.1)

  inner_all : (branch : List ℕ) (pairs : List (ℕ × ℕ)) (paths : List (List ℕ)) → LeadAll listed branch pairs paths →
      all_inner listed branch pairs paths ≡ all_inner web.ends branch pairs (named_paths list paths)
  inner_all branch [] paths h = refl
  inner_all branch (p ∷ ps) [] h = absurd h
  inner_all branch (p ∷ ps) (path ∷ paths) h =
      ap (λ xs. xs ++ all_inner listed branch ps paths) (inner (at branch p.0) path (at branch p.1) h.0)
      ∙ ap (λ ys. inner_nodes web.ends (at branch p.0) (named_path list path) ++ ys) (inner_all branch ps paths h.1)

  -- the paths name places of the list
  within_path : (u : ℕ) (path : List ℕ) (v : ℕ) → LeadsTo listed u path v → (s : ℕ) → has path s ≡ true → s < length list
  within_path u [] v h s met = absurd (both_ways false refl met)
  within_path u (t ∷ path) v h s met = elim (or_cases (eqb t s) (has path s) met) [
    | inl here ↦ omega (arith, eqb-true t s here, h.0, size)
    | inr later ↦ within_path (far_end (ends_at listed t) u) path v h.2 s later
  ]

  within_all : (branch : List ℕ) (pairs : List (ℕ × ℕ)) (paths : List (List ℕ)) → LeadAll listed branch pairs paths → (s : ℕ) → has (concat paths) s ≡ true → s < length list
  within_all branch [] [] h s met = absurd (both_ways false refl met)
  within_all branch [] (l ∷ ls) h s met = absurd h
  within_all branch (p ∷ ps) [] h s met = absurd h
  within_all branch (p ∷ ps) (path ∷ paths) h s met = elim (or_cases (has path s) (has (concat paths) s) (sym (has_append path (concat paths) s) ∙ met)) [
    | inl here ↦ within_path _ path _ h.0 s here
    | inr later ↦ within_all branch ps paths h.1 s later
  ]

  places : (branch : List ℕ) (pairs : List (ℕ × ℕ)) (paths : List (List ℕ)) → LeadAll listed branch pairs paths → AreAllPlaces list paths
  places branch [] [] h q q_in k k_in = absurd (omega (arith, q_in))
  places branch [] (l ∷ ls) h q q_in k k_in = absurd h
  places branch (p ∷ ps) [] h q q_in k k_in = absurd h
  places branch (p ∷ ps) (path ∷ paths) h zero q_in k k_in = within_path _ path _ h.0 (at path k) (has_at path k k_in)
  places branch (p ∷ ps) (path ∷ paths) h (suc q) q_in k k_in = places branch ps paths h.1 q (omega (arith, q_in)) k k_in

  subdivision : (pairs : List (ℕ × ℕ)) (branch : List ℕ) (paths : List (List ℕ)) → IsPathSystem (listed_web web list) pairs branch paths →
      IsPathSystem web pairs branch (named_paths list paths)
  subdivision pairs branch paths is =
      let injects : (a b : ℕ) → a < length list → b < length list → name a ≡ name b → a ≡ b = apart.apart in
      let once = distinct_map name (length list) injects (concat paths) (within_all branch pairs paths is.lead) is.once in
      record {
        below = is.below;
        lead = lead_all branch pairs paths is.lead;
        once = subst (IsDistinct eqb) (sym (concat_map name paths)) once;
        no_node_twice = subst (λ xs. IsDistinct eqb (branch ++ xs)) (inner_all branch pairs paths is.lead) is.no_node_twice;
      }

  pub names_places : (evidence : Evidence) → HasAKind evidence → EvidenceHolds (listed_web web list) evidence → NamesPlaces list evidence
  names_places (Five branch paths) kind holds = places branch five_pairs paths holds.1.lead
  names_places (ThreeThree branch paths) kind holds = places branch three_pairs paths holds.1.lead
  names_places (Extension other) kind holds = absurd kind

  -- of the same kind
  pub named_kind : (evidence : Evidence) → HasAKind evidence → HasAKind (named list evidence)
  named_kind (Five branch paths) kind = (kind.0, length-map paths (named_path list) ∙ kind.1)
  named_kind (ThreeThree branch paths) kind = (kind.0, length-map paths (named_path list) ∙ kind.1)
  named_kind (Extension other) kind = absurd kind

  -- and holds for the web
  pub named_holds : (evidence : Evidence) → HasAKind evidence → EvidenceHolds (listed_web web list) evidence → EvidenceHolds web (named list evidence)
  named_holds (Five branch paths) kind holds = (holds.0, subdivision five_pairs branch paths holds.1)
  named_holds (ThreeThree branch paths) kind holds = (holds.0, subdivision three_pairs branch paths holds.1)
  named_holds (Extension other) kind holds = absurd kind
