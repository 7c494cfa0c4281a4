-- Names that are given along a face.
use Rattle.std.proofs.Common.{◌≡◌, ◌≢◌, ℕ, zero, suc, ◌+◌, ◌-◌, ◌<◌, ◌⊎◌, inl, inr, eqb, List, length, replicate, set, refl, sym, ◌∙◌, ap, subst, arith}
use Rattle.std.proofs.lemmas.Bool.{cases_eq, eq-eqb, ne_eqb}
use Rattle.std.proofs.lemmas.List.{get_or-replicate, get_or-set_other, get_or-set_same, length-replicate, length-set}
use Rattle.xn_model.specs.Lists.{at, one_if}
use Rattle.xn_model.specs.Map.{face_step}
use Rattle.xn_model.specs.Permutation.{Permutes, Reaches, iterate}
use Rattle.xn_ring.proofs.Orbits.{iterate_below, reaches_back, reaches_trans}
use Rattle.xn_genus.proofs.Counts.{Permutes-face}
use Rattle.xn_map.specs.Listed.{IsListedMap, ListedMap}
use Rattle.xn_insert.specs.Routed.{AreClosed, NamesFace, NamesFaces}
use Rattle.xn_insert.specs.Search.{unmet}
use Rattle.xn_insert.proofs.Rounds.{total-set}

-- the first k darts of the face of d are named by it, and no other
pub record IsNamed (m : ListedMap) (d : ℕ) (old : List ℕ) (k e : ℕ) (names : List ℕ) : Type 0 where
  pub size : length names ≡ length m.next
  pub dart : e < length m.next
  pub at_e : e ≡ iterate (face_step (at m.next)) k d
  pub mine : (j : ℕ) → j < k → at names (iterate (face_step (at m.next)) j d) ≡ d
  pub other : (x : ℕ) → x < length m.next → ((j : ℕ) × (j < k) × (iterate (face_step (at m.next)) j d ≡ x)) ⊎ (at names x ≡ at old x)

module _ (m : ListedMap) (is : IsListedMap m) where
  abbrev n : ℕ
  n = length m.next

  abbrev f : ℕ → ℕ
  f = face_step (at m.next)

  permutes : Permutes (length m.next) f
  permutes = subst (λ k. Permutes k f) (sym is.fits) (Permutes-face (length m.web.ends) (at m.next) is.is_map.permutes)

  pub step_in : (x : ℕ) → x < n → f x < n
  step_in = permutes.below

  pub none_named : AreClosed m (replicate (length m.next) (length m.next))
  none_named =
      let all : (x : ℕ) → x < n → at (replicate n n) x ≡ n = λ x x_in. get_or-replicate n x n 0 x_in in
      record {
        size = length-replicate n n;
        bound = λ x x_in. let e = all x x_in in omega (arith, e);
        keeps = λ x x_in. all (f x) (step_in x x_in) ∙ sym (all x x_in);
        own = λ x x_in low. let e = all x x_in in absurd (omega (arith, e, low));
      }

  module _ (d : ℕ) (d_in : d < n) (old : List ℕ) (closed : AreClosed m old) (fresh : at old d ≡ n) where
    pub named_begun : IsNamed m d old 0 d old
    named_begun = record { size = closed.size; dart = d_in; at_e = refl; mine = λ j low. absurd (omega (arith, low)); other = λ x x_in. inr refl }

    pub named_more : (k e : ℕ) (names : List ℕ) → IsNamed m d old k e names → IsNamed m d old (suc k) (f e) (set names e d)
    named_more k e names now =
        let e_in = now.dart in
        let size = now.size in
        let here : at (set names e d) e ≡ d = get_or-set_same names e d 0 (omega (arith, e_in, size)) in
        record {
          size = length-set names e d ∙ size;
          dart = step_in e e_in;
          at_e = ap f now.at_e;
          mine = λ j low. elim (cases_eq (iterate f j d) e) [
            | inl same ↦ ap (at (set names e d)) same ∙ here
            | inr far ↦
                let before : j < k = elim (cases_eq j k) [ inl last ↦ absurd (far (ap (λ i. iterate f i d) last ∙ sym now.at_e)) | inr earlier ↦ omega (arith, low, earlier) ] in
                get_or-set_other names e (iterate f j d) d 0 far ∙ now.mine j before
          ];
          other = λ x x_in. elim (cases_eq x e) [
            | inl same ↦ inl (k, omega arith, sym (same ∙ now.at_e))
            | inr far ↦ elim (now.other x x_in) [
              | inl walked ↦ inl (walked.0, let low = walked.1 in omega (arith, low), walked.2)
              | inr as_before ↦ inr (get_or-set_other names e x d 0 far ∙ as_before)
            ]
          ];
        }

    pub fewer_left : (names : List ℕ) (e : ℕ) → e < length names → at names e ≡ n → unmet n (set names e d) < unmet n names
    fewer_left names e e_in new =
        let sum = total-set (λ c. one_if (eqb c n)) names e d e_in in
        let one : one_if (eqb (at names e) n) ≡ 1 = ap one_if (eq-eqb (at names e) n new) in
        let none : one_if (eqb d n) ≡ 0 = ap one_if (ne_eqb d n (λ same. omega (arith, same, d_in))) in
        omega (arith, sum, one, none)

    fresh_along : (j : ℕ) → at old (iterate f j d) ≡ n
    fresh_along zero = fresh
    fresh_along (suc j) = closed.keeps (iterate f j d) (iterate_below n f permutes j d d_in) ∙ fresh_along j

    strip : (j i k : ℕ) → k ≡ j + i → iterate f j d ≡ iterate f k d → d ≡ iterate f i d
    strip zero i k sum same = same ∙ ap (λ t. iterate f t d) (let e : k ≡ i = omega (arith, sum) in e)
    strip (suc j) i zero sum same = absurd (omega (arith, sum))
    strip (suc j) i (suc k) sum same =
        strip j i k (omega (arith, sum)) (permutes.apart (iterate f j d) (iterate f k d) (iterate_below n f permutes j d d_in) (iterate_below n f permutes k d d_in) same)

    module _ (k e : ℕ) (names : List ℕ) (now : IsNamed m d old k e names) (met : at names e ≢ n) where
      -- the walk has come round
      round : (j : ℕ) × (j < k) × (iterate f j d ≡ iterate f k d)
      round = elim (now.other e now.dart) [
        | inl walked ↦ (walked.0, walked.1, walked.2 ∙ now.at_e)
        | inr as_before ↦ absurd (met (as_before ∙ ap (at old) now.at_e ∙ fresh_along k))
      ]

      -- so the dart before d is on it
      before_first : (x : ℕ) → x < n → f x ≡ d → at names x ≡ d
      before_first x x_in to_d = of_gap (k - round.0) refl
        where
          of_gap : (gap : ℕ) → gap ≡ k - round.0 → at names x ≡ d
          of_gap zero is_gap = let low = round.1 in absurd (omega (arith, is_gap, low))
          of_gap (suc i) is_gap =
              let low = round.1 in
              let back = strip round.0 (suc i) k (omega (arith, is_gap, low)) round.2 in
              let same : iterate f i d ≡ x = permutes.apart (iterate f i d) x (iterate_below n f permutes i d d_in) x_in (sym back ∙ sym to_d) in
              ap (at names) (sym same) ∙ now.mine i (omega (arith, is_gap, low))

      step_named : (j : ℕ) → j < k → at names (f (iterate f j d)) ≡ d
      step_named j low = elim (cases_eq (suc j) k) [
        | inl last ↦ ap (at names) (ap (λ i. iterate f i d) last ∙ sym round.2) ∙ now.mine round.0 round.1
        | inr more ↦ now.mine (suc j) (omega (arith, low, more))
      ]

      named_keeps : (x : ℕ) → x < n → at names (f x) ≡ at names x
      named_keeps x x_in = elim (now.other x x_in) [
        | inl walked ↦ ap (λ z. at names (f z)) (sym walked.2) ∙ step_named walked.0 walked.1 ∙ sym (now.mine walked.0 walked.1) ∙ ap (at names) walked.2
        | inr as_before ↦ elim (now.other (f x) (step_in x x_in)) [
          | inr also ↦ also ∙ closed.keeps x x_in ∙ sym as_before
          | inl walked ↦ of_place walked.0 walked.1 walked.2
        ]
      ]
        where
          of_place : (j : ℕ) → j < k → iterate f j d ≡ f x → at names (f x) ≡ at names x
          of_place zero low same = ap (at names) (sym same) ∙ now.mine 0 low ∙ sym (before_first x x_in (sym same))
          of_place (suc j) low same =
              let there : iterate f j d ≡ x = permutes.apart (iterate f j d) x (iterate_below n f permutes j d d_in) x_in same in
              ap (at names) (sym same) ∙ now.mine (suc j) low ∙ sym (now.mine j (omega (arith, low))) ∙ ap (at names) there

      pub named_done : NamesFace m d old names
      named_done = record {
        closed = record {
          size = now.size;
          bound = λ x x_in. elim (now.other x x_in) [
            | inl walked ↦ let is_d = ap (at names) (sym walked.2) ∙ now.mine walked.0 walked.1 in omega (arith, is_d, d_in)
            | inr as_before ↦ let most = closed.bound x x_in in omega (arith, as_before, most)
          ];
          keeps = named_keeps;
          own = λ x x_in low. elim (now.other x x_in) [
            | inl walked ↦ subst (λ r. Reaches f r x) (sym (ap (at names) (sym walked.2) ∙ now.mine walked.0 walked.1)) (walked.0, walked.2)
            | inr as_before ↦ subst (λ r. Reaches f r x) (sym as_before) (closed.own x x_in (omega (arith, as_before, low)))
          ];
        };
        named = let first = now.mine 0 (let low = round.1 in omega (arith, low)) in omega (arith, first, d_in);
        kept = λ x x_in low. elim (now.other x x_in) [
          | inl walked ↦ let is_d = ap (at names) (sym walked.2) ∙ now.mine walked.0 walked.1 in omega (arith, is_d, d_in)
          | inr as_before ↦ omega (arith, as_before, low)
        ];
      }

  pub all_named : (names : List ℕ) → AreClosed m names → ((x : ℕ) → x < n → at names x < n) → NamesFaces m names
  all_named names closed named =
      let fits = is.fits in
      record {
        size = closed.size;
        below = named;
        faces = record {
          keeps = λ d d_in. closed.keeps d (omega (arith, d_in, fits));
          one = λ d e d_in e_in h same.
              let d_low : d < n = omega (arith, d_in, fits) in
              let e_low : e < n = omega (arith, e_in, fits) in
              let to_d = closed.own d d_low (named d d_low) in
              let to_e = subst (λ r. Reaches f r e) (sym same) (closed.own e e_low (named e e_low)) in
              reaches_trans f d (at names d) e (reaches_back n f permutes (at names d) d (named d d_low) to_d) to_e;
        };
      }
