-- Cut nodes, by the keys of the darts at a node; and lists of all numbers of which something is so.
use Rattle.std.proofs.Common.{◌≡◌, ◌≢◌, ℕ, ◌+◌, ◌*◌, ◌/◌, ◌<◌, ◌⊎◌, inl, inr, true, eqb, List, [], ◌∷◌, ◌++◌, length, sym, ◌∙◌, ap, subst, arith}
use Rattle.std.proofs.lemmas.Bool.{cases_eq, eqb-true, or_cases}
use Rattle.xn_model.specs.Cycles.{IsCut}
use Rattle.xn_model.specs.Graph.{Graph, ends_at, touches}
use Rattle.xn_model.specs.Lists.{at}
use Rattle.xn_model.specs.Map.{tail_of}
use Rattle.xn_model.proofs.Darts.{tail-even, tail-odd, touches_tail}
use Rattle.xn_graph.specs.Stars.{darts_of}
use Rattle.xn_graph.proofs.DartsOf.{darts_of-at, darts_of-place}
use Rattle.xn_blocks.specs.Blocks.{ListsAll}
use Rattle.xn_blocks.specs.Lows.{NameBlocks}
use Rattle.xn_blocks.proofs.Members.{In, in_back, in_cases, in_front, in_here, in_none, in_parts}
use Rattle.xn_blocks.proofs.Parting.{rise_more}

-- a segment that meets v has a dart there
dart_there : (ends : List (ℕ × ℕ)) (s v : ℕ) → s < length ends → touches (ends_at ends s) v ≡ true → (d : ℕ) × (d < 2 * length ends) × (tail_of ends d ≡ v) × (d / 2 ≡ s)
dart_there ends s v s_in meets =
    let p = ends_at ends s in
    elim (or_cases (eqb p.0 v) (eqb p.1 v) meets) [
      | inl first ↦ (2 * s, omega arith, tail-even ends s ∙ eqb-true p.0 v first, omega arith)
      | inr second ↦ (2 * s + 1, omega arith, tail-odd ends s ∙ eqb-true p.1 v second, omega arith)
    ]

module _ (web : Graph) (keys : List ℕ) (names : NameBlocks web keys) (v : ℕ) where
  abbrev darts : List ℕ
  darts = darts_of web.ends v

  abbrev key : ℕ → ℕ
  key j = at keys (at darts j / 2)

  -- two darts of two keys
  pub cut_from : (i j : ℕ) → i < length darts → j < length darts → key i ≢ key j → IsCut web.ends v
  cut_from i j i_in j_in other =
      let d = darts_of-at web.ends v i i_in in
      let e = darts_of-at web.ends v j j_in in
      let s = at darts i / 2 in
      let t = at darts j / 2 in
      let s_in : s < length web.ends = omega (arith, d.0) in
      let t_in : t < length web.ends = omega (arith, e.0) in
      record {
        first = s;
        second = t;
        first_in = s_in;
        second_in = t_in;
        meets_first = subst (λ z. touches (ends_at web.ends s) z ≡ true) d.1 (touches_tail web.ends (at darts i));
        meets_second = subst (λ z. touches (ends_at web.ends t) z ≡ true) e.1 (touches_tail web.ends (at darts j));
        two_blocks = λ one. other ((names.one_block s t s_in t_in).1 one);
      }

  -- all darts of one key
  pub no_cut : ((j : ℕ) → j < length darts → key j ≡ key 0) → IsCut web.ends v → ⊥
  no_cut same cut =
      let k : (s : ℕ) → s < length web.ends → touches (ends_at web.ends s) v ≡ true → at keys s ≡ key 0 = λ s s_in meets.
      let d = dart_there web.ends s v s_in meets in
      let place = darts_of-place web.ends v d.0 d.1 d.2 in
      ap (at keys) (sym d.3 ∙ ap (λ z. z / 2) (sym place.2)) ∙ same place.0 place.1 in
      cut.two_blocks ((names.one_block cut.first cut.second cut.first_in cut.second_in).0 (k cut.first cut.first_in cut.meets_first ∙ sym (k cut.second cut.second_in cut.meets_second)))

-- ---- all numbers of which something is so

module _ (P : ℕ → Type 0) where
  pub lists_none : (list : List ℕ) → list ≡ [] → ListsAll 0 P list
  lists_none list empty = record {
    rise = λ k k_in. absurd (omega (arith, k_in, ap length empty));
    within = λ v there. absurd (in_none v (subst (λ l. In v l) empty there));
    exactly = λ v v_in. absurd (omega (arith, v_in));
  }

  pub lists_yes : (n : ℕ) (list : List ℕ) → ListsAll n P list → P n → ListsAll (n + 1) P (list ++ n ∷ [])
  lists_yes n list all holds =
      let old_or_new : (v : ℕ) → In v (list ++ n ∷ []) → In v list ⊎ (v ≡ n) = λ v there. elim (in_parts v list (n ∷ []) there) [
        | inl front ↦ inl front
        | inr back ↦ elim (in_cases v n [] back) [ inl here ↦ inr here | inr none ↦ absurd (in_none v none) ]
      ] in
      record {
        rise = rise_more list n all.rise all.within;
        within = λ v there. elim (old_or_new v there) [ inl old ↦ omega (arith, all.within v old) | inr new ↦ omega (arith, new) ];
        exactly = λ v v_in. elim (cases_eq v n) [
          | inl same ↦ ((λ there. subst P (sym same) holds), (λ so. in_back v list (n ∷ []) (in_here v n [] same)))
          | inr apart ↦
              let old = all.exactly v (omega (arith, v_in, apart)) in
              ((λ there. elim (old_or_new v there) [ inl front ↦ old.0 front | inr new ↦ absurd (apart new) ]), (λ so. in_front v list (n ∷ []) (old.1 so)))
        ];
      }

  pub lists_no : (n : ℕ) (list : List ℕ) → ListsAll n P list → (P n → ⊥) → ListsAll (n + 1) P list
  lists_no n list all fails = record {
    rise = all.rise;
    within = λ v there. omega (arith, all.within v there);
    exactly = λ v v_in. elim (cases_eq v n) [
      | inl same ↦ ((λ there. absurd (omega (arith, all.within v there, same))), (λ so. absurd (fails (subst P same so))))
      | inr apart ↦ all.exactly v (omega (arith, v_in, apart))
    ];
  }
