-- Where a segment is divided the faces keep their names.
use Rattle.std.proofs.Common.{◌≡◌, ◌≢◌, ℕ, zero, suc, ◌+◌, ◌*◌, ◌<◌, ◌⊎◌, inl, inr, Bool, cond, eqb, List, length, refl, sym, ◌∙◌, ap, subst, arith}
use Rattle.std.proofs.lemmas.Bool.{cases_eq, cond-true, cond-false, eq-eqb, ne_eqb}
use Rattle.xn_model.specs.Graph.{ends_at}
use Rattle.xn_model.specs.Map.{MeetsEuler, IsMap, face_step, reverse_of, tail_of}
use Rattle.xn_model.specs.Permutation.{Reaches, iterate}
use Rattle.xn_surgery.specs.Subdivision.{IsSubdivision, dart_now}
use Rattle.xn_model.proofs.Darts.{cases_dart, reverse-even, reverse-odd, reverse_below, tail-even, tail-odd}
use Rattle.xn_ring.proofs.Orbits.{iterate_below, reaches_trans}
use Rattle.xn_genus.proofs.Counts.{Permutes-face}
use Rattle.xn_surgery.proofs.Subdivide.{components_more, faces_more, map_more}
use Rattle.xn_loose.specs.Routes.{AreFaceNames}

module _ (nodes : ℕ) (ends : List (ℕ × ℕ)) (next name : ℕ → ℕ) (whole : ℕ → Bool) (map : IsMap nodes ends next) (flat : MeetsEuler nodes ends next)
    (faces : AreFaceNames ends next name whole) (s : ℕ) (s_in : s < length ends) (more : List (ℕ × ℕ)) (after : ℕ → ℕ) (divides : IsSubdivision nodes ends next s more after) where
  abbrev last : ℕ
  last = length ends

  abbrev n : ℕ
  n = 2 * length ends

  abbrev pub now : ℕ → ℕ
  now = dart_now s (length ends)

  now_here : (x : ℕ) → x ≡ 2 * s + 1 → now x ≡ 2 * last + 1
  now_here x e = cond-true _ _ _ (eq-eqb x (2 * s + 1) e)

  pub now_there : (x : ℕ) → x ≢ 2 * s + 1 → now x ≡ x
  now_there x e = cond-false _ _ _ (ne_eqb x (2 * s + 1) e)

  pub now_cases : (x : ℕ) → ((x ≡ 2 * s + 1) × (now x ≡ 2 * last + 1)) ⊎ ((x ≢ 2 * s + 1) × (now x ≡ x))
  now_cases x = elim (cases_eq x (2 * s + 1)) [ inl e ↦ inl (e, now_here x e) | inr e ↦ inr (e, now_there x e) ]

  -- the tails
  pub size : length more ≡ suc last
  size = divides.longer

  pub tail_mid : tail_of more (2 * s + 1) ≡ nodes
  tail_mid = tail-odd more s ∙ ap (λ p. p.1) divides.first_part

  pub tail_last : tail_of more (2 * last) ≡ nodes
  tail_last = tail-even more last ∙ ap (λ p. p.0) divides.last_part

  tail_old : (x : ℕ) → x < n → x ≢ 2 * s + 1 → tail_of more x ≡ tail_of ends x
  tail_old x x_in other =
      let c = cases_dart x in
      let k_in : c.0 < length ends = omega (arith, x_in, c.1) in
      elim c.1 [
        | inl even ↦
            let first : (ends_at more c.0).0 ≡ (ends_at ends c.0).0 = elim (cases_eq c.0 s) [
              | inl same ↦ ap (λ k. (ends_at more k).0) same ∙ ap (λ p. p.0) divides.first_part ∙ ap (λ k. (ends_at ends k).0) (sym same)
              | inr far ↦ ap (λ p. p.0) (divides.ends_kept c.0 k_in far)
            ] in
            ap (tail_of more) even ∙ tail-even more c.0 ∙ first ∙ sym (tail-even ends c.0) ∙ ap (tail_of ends) (sym even)
        | inr odd ↦
            let far : c.0 ≢ s = λ same. other (omega (arith, odd, same)) in
            ap (tail_of more) odd ∙ tail-odd more c.0 ∙ ap (λ p. p.1) (divides.ends_kept c.0 k_in far) ∙ sym (tail-odd ends c.0) ∙ ap (tail_of ends) (sym odd)
      ]

  pub tails : (x : ℕ) → x < n → tail_of more (now x) ≡ tail_of ends x
  tails x x_in = elim (now_cases x) [
    | inl here ↦ ap (tail_of more) here.1 ∙ tail-odd more last ∙ ap (λ p. p.1) divides.last_part ∙ sym (tail-odd ends s) ∙ ap (tail_of ends) (sym here.0)
    | inr there ↦ ap (tail_of more) there.1 ∙ tail_old x x_in there.0
  ]

  -- the turns
  pub after_mid : after (2 * s + 1) ≡ 2 * last
  after_mid = divides.turns_new

  pub after_last : after (2 * last) ≡ 2 * s + 1
  after_last = divides.turns_back

  pub after_now : (x : ℕ) → x < n → after (now x) ≡ now (next x)
  after_now = divides.turns

  pub divided_map : IsMap (suc nodes) more after
  divided_map = map_more nodes s ends more next after map divides

  pub divided_flat : MeetsEuler (suc nodes) more after
  divided_flat =
      let f = faces_more nodes s ends more next after map divides in
      let c = components_more nodes s ends more next after map divides in
      omega (arith, flat, f, c, size)

  -- ---- the names of the faces

  abbrev pub names : ℕ → ℕ
  names x = cond (eqb x (2 * last)) (name (2 * s)) (cond (eqb x (2 * last + 1)) (name (2 * s + 1)) (name x))

  pub names_old : (x : ℕ) → x < n → names x ≡ name x
  names_old x x_in = cond-false _ _ _ (ne_eqb x (2 * last) (λ e. omega (arith, e, x_in))) ∙ cond-false _ _ _ (ne_eqb x (2 * last + 1) (λ e. omega (arith, e, x_in)))

  pub names_last : names (2 * last) ≡ name (2 * s)
  names_last = cond-true _ _ _ (eq-eqb (2 * last) (2 * last) refl)

  names_end : names (2 * last + 1) ≡ name (2 * s + 1)
  names_end = cond-false _ _ _ (ne_eqb (2 * last + 1) (2 * last) (λ e. omega (arith, e))) ∙ cond-true _ _ _ (eq-eqb (2 * last + 1) (2 * last + 1) refl)

  pub names_now : (x : ℕ) → x < n → names (now x) ≡ name x
  names_now x x_in = elim (now_cases x) [
    | inl here ↦ ap names here.1 ∙ names_end ∙ ap name (sym here.0)
    | inr there ↦ ap names there.1 ∙ names_old x x_in
  ]

  abbrev old_face : ℕ → ℕ
  old_face = face_step next

  abbrev new_face : ℕ → ℕ
  new_face = face_step after

  -- the face from the new place of a dart: over the new node for the two darts of s, and directly else
  face_first : new_face (2 * s) ≡ 2 * last
  face_first = ap after (reverse-even s) ∙ after_mid

  face_last : new_face (2 * last) ≡ now (old_face (2 * s))
  face_last =
      ap after (reverse-even last) ∙ ap after (sym (now_here (2 * s + 1) refl)) ∙ after_now (2 * s + 1) (omega (arith, s_in)) ∙ ap (λ k. now (next k)) (sym (reverse-even s))

  face_end : new_face (2 * last + 1) ≡ 2 * s + 1
  face_end = ap after (reverse-odd last) ∙ after_last

  face_mid : new_face (2 * s + 1) ≡ now (old_face (2 * s + 1))
  face_mid =
      ap after (reverse-odd s) ∙ ap after (sym (now_there (2 * s) (λ e. omega (arith, e)))) ∙ after_now (2 * s) (omega (arith, s_in)) ∙ ap (λ k. now (next k)) (sym (reverse-odd s))

  face_else : (x : ℕ) → x < n → x ≢ 2 * s → x ≢ 2 * s + 1 → new_face x ≡ now (old_face x)
  face_else x x_in not_first not_second =
      let other : reverse_of x ≢ 2 * s + 1 = λ e. let c = cases_dart x in elim c.1 [
        | inl even ↦ omega (arith, ap reverse_of even, reverse-even c.0, e, even, not_first)
        | inr odd ↦ omega (arith, ap reverse_of odd, reverse-odd c.0, e)
      ] in
      ap after (sym (now_there (reverse_of x) other)) ∙ after_now (reverse_of x) (reverse_below last x x_in)

  old_low : (x : ℕ) → x < n → old_face x < n
  old_low x x_in = (Permutes-face last next map.permutes).below x x_in

  -- a dart of the divided web is in its old place or at the new node
  place : (x : ℕ) → x < 2 * suc last → ((x < n) × (x ≢ 2 * s) × (x ≢ 2 * s + 1)) ⊎ (((x ≡ 2 * s) ⊎ (x ≡ 2 * s + 1)) ⊎ ((x ≡ 2 * last) ⊎ (x ≡ 2 * last + 1)))
  place x x_in = elim (cases_eq x (2 * s)) [
    | inl e ↦ inr (inl (inl e))
    | inr not_first ↦ elim (cases_eq x (2 * s + 1)) [
      | inl e ↦ inr (inl (inr e))
      | inr not_second ↦ elim (cases_eq x (2 * last)) [
        | inl e ↦ inr (inr (inl e))
        | inr not_last ↦ elim (cases_eq x (2 * last + 1)) [
          | inl e ↦ inr (inr (inr e))
          | inr not_end ↦ inl (omega (arith, x_in, not_last, not_end), not_first, not_second)
        ]
      ]
    ]
  ]

  s_low : 2 * s < n
  s_low = omega (arith, s_in)

  m_low : 2 * s + 1 < n
  m_low = omega (arith, s_in)

  names_keep : (x : ℕ) → x < 2 * length more → names (new_face x) ≡ names x
  names_keep x x_in = elim (place x (omega (arith, x_in, size))) [
    | inl old ↦ ap names (face_else x old.0 old.1 old.2) ∙ names_now (old_face x) (old_low x old.0) ∙ faces.keeps x old.0 ∙ sym (names_old x old.0)
    | inr (inl (inl e)) ↦ ap (λ k. names (new_face k)) e ∙ ap names face_first ∙ names_last ∙ sym (names_old (2 * s) s_low) ∙ ap names (sym e)
    | inr (inl (inr e)) ↦
        ap (λ k. names (new_face k)) e ∙ ap names face_mid ∙ names_now (old_face (2 * s + 1)) (old_low (2 * s + 1) m_low) ∙ faces.keeps (2 * s + 1) m_low
        ∙ sym (names_old (2 * s + 1) m_low) ∙ ap names (sym e)
    | inr (inr (inl e)) ↦
        ap (λ k. names (new_face k)) e ∙ ap names face_last ∙ names_now (old_face (2 * s)) (old_low (2 * s) s_low) ∙ faces.keeps (2 * s) s_low ∙ sym names_last ∙ ap names (sym e)
    | inr (inr (inr e)) ↦ ap (λ k. names (new_face k)) e ∙ ap names face_end ∙ names_old (2 * s + 1) m_low ∙ sym names_end ∙ ap names (sym e)
  ]

  -- the walk from the new place of a dart comes to that of the next one
  now_step : (x : ℕ) → x < n → Reaches new_face (now x) (now (old_face x))
  now_step x x_in = elim (cases_eq x (2 * s)) [
    | inl e ↦
        let at : now x ≡ 2 * s = ap now e ∙ now_there (2 * s) (λ f. omega (arith, f)) in
        (2, ap (λ k. new_face (new_face k)) at ∙ ap new_face face_first ∙ face_last ∙ ap (λ k. now (old_face k)) (sym e))
    | inr not_first ↦ elim (cases_eq x (2 * s + 1)) [
      | inl e ↦ (2, ap (λ k. new_face (new_face k)) (now_here x e) ∙ ap new_face face_end ∙ face_mid ∙ ap (λ k. now (old_face k)) (sym e))
      | inr not_second ↦ (1, ap new_face (now_there x not_second) ∙ face_else x x_in not_first not_second)
    ]
  ]

  now_walk : (k x : ℕ) → x < n → Reaches new_face (now x) (now (iterate old_face k x))
  now_walk zero x x_in = (0, refl)
  now_walk (suc k) x x_in =
      let z = iterate old_face k x in
      reaches_trans new_face (now x) (now z) (now (old_face z)) (now_walk k x x_in) (now_step z (iterate_below n old_face (Permutes-face last next map.permutes) k x x_in))

  -- each dart leads to the new place of one with its name, and is led to from one
  ahead : (x : ℕ) → x < 2 * suc last → (z : ℕ) × (z < n) × Reaches new_face x (now z) × (name z ≡ names x)
  ahead x x_in = elim (place x x_in) [
    | inl old ↦ (x, old.0, (0, sym (now_there x old.2)), sym (names_old x old.0))
    | inr (inl (inl e)) ↦ (2 * s, s_low, (0, e ∙ sym (now_there (2 * s) (λ f. omega (arith, f)))), sym (names_old (2 * s) s_low) ∙ ap names (sym e))
    | inr (inl (inr e)) ↦ (old_face (2 * s + 1), old_low (2 * s + 1) m_low, (1, ap new_face e ∙ face_mid), faces.keeps (2 * s + 1) m_low ∙ sym (names_old (2 * s + 1) m_low) ∙ ap names (sym e))
    | inr (inr (inl e)) ↦ (old_face (2 * s), old_low (2 * s) s_low, (1, ap new_face e ∙ face_last), faces.keeps (2 * s) s_low ∙ sym names_last ∙ ap names (sym e))
    | inr (inr (inr e)) ↦ (2 * s + 1, m_low, (0, e ∙ sym (now_here (2 * s + 1) refl)), sym names_end ∙ ap names (sym e))
  ]

  behind : (x : ℕ) → x < 2 * suc last → (z : ℕ) × (z < n) × Reaches new_face (now z) x × (name z ≡ names x)
  behind x x_in = elim (place x x_in) [
    | inl old ↦ (x, old.0, (0, now_there x old.2), sym (names_old x old.0))
    | inr (inl (inl e)) ↦ (2 * s, s_low, (0, now_there (2 * s) (λ f. omega (arith, f)) ∙ sym e), sym (names_old (2 * s) s_low) ∙ ap names (sym e))
    | inr (inl (inr e)) ↦ (2 * s + 1, m_low, (1, ap new_face (now_here (2 * s + 1) refl) ∙ face_end ∙ sym e), sym (names_old (2 * s + 1) m_low) ∙ ap names (sym e))
    | inr (inr (inl e)) ↦ (2 * s, s_low, (1, ap new_face (now_there (2 * s) (λ f. omega (arith, f))) ∙ face_first ∙ sym e), sym names_last ∙ ap names (sym e))
    | inr (inr (inr e)) ↦ (2 * s + 1, m_low, (0, now_here (2 * s + 1) refl ∙ sym e), sym names_end ∙ ap names (sym e))
  ]

  pub divided_faces : AreFaceNames more after names whole
  divided_faces = record {
    keeps = names_keep;
    one = λ d e d_in e_in is_whole same.
        let a = ahead d (omega (arith, d_in, size)) in
        let b = behind e (omega (arith, e_in, size)) in
        let there = faces.one a.0 b.0 a.1 b.1 (ap whole a.3 ∙ is_whole) (a.3 ∙ same ∙ sym b.3) in
        let P : ℕ → Type 0 = λ z. Reaches new_face (now a.0) (now z) in
        reaches_trans new_face d (now a.0) e a.2 (reaches_trans new_face (now a.0) (now b.0) e (subst P there.1 (now_walk there.0 a.0 a.1)) b.2);
  }
