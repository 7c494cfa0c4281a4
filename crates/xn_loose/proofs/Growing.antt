-- A track in which an edge grows: a step across a segment.
use Rattle.std.proofs.Common.{◌≡◌, ◌≢◌, ℕ, suc, ◌+◌, ◌*◌, ◌/◌, ◌%◌, ◌<◌, ◌≤◌, ◌⊎◌, inl, inr, Bool, true, false, not, ◌&&◌, cond, eqb, List, [], ◌∷◌, ◌++◌, length, refl, sym, ◌∙◌, ap, subst, arith}
use Rattle.std.specs.List.{flat_map}
use Rattle.std.proofs.lemmas.Bool.{cases_Bool, cases_eq, cond-true, cond-false, eq-eqb, ne_eqb}
use Rattle.xn_model.specs.Graph.{Graph, ends_at}
use Rattle.xn_model.specs.Lists.{has, one_if, total}
use Rattle.xn_model.specs.Loose.{times_walked}
use Rattle.xn_model.specs.Map.{IsFlat, reverse_of, tail_of}
use Rattle.xn_model.proofs.Darts.{reverse-even, reverse-odd}
use Rattle.xn_model.proofs.Darts.{cases_dart}
use Rattle.xn_surgery.specs.Subdivision.{dart_now}
use Rattle.xn_genus.proofs.Compress.{tail_in}
use Rattle.xn_track.specs.Relinking.{PassesTo}
use Rattle.xn_loose.specs.Routes.{AreFaceNames, IsAcross, dart_back, dart_on}
use Rattle.xn_track.proofs.Exchange.{move}
use Rattle.xn_loose.proofs.Land.{At, Fine, Landing, Seam, also, also_here, also_other, also_parts, new_fine, old_fine, old_seam, own_seam}
use Rattle.xn_track.proofs.Paths.{Path, path_append, path_ends_in, times-append}
use Rattle.xn_track.proofs.Tally.{same_total, times-flat_map}

-- ---- walks over a divided segment

abbrev pub ex_one : ℕ → ℕ → ℕ → List ℕ
ex_one s last d = cond (eqb d (2 * s)) (2 * s ∷ 2 * last ∷ []) (cond (eqb d (2 * s + 1)) ((2 * last + 1) ∷ (2 * s + 1) ∷ []) (d ∷ []))

abbrev pub ex : ℕ → ℕ → List ℕ → List ℕ
ex s last [] = []
ex s last (d ∷ []) = ex_one s last d
ex s last (d ∷ e ∷ ds) = ex_one s last d ++ ex s last (e ∷ ds)

pub now_cases : (s last x : ℕ) → ((x ≡ 2 * s + 1) × (dart_now s last x ≡ 2 * last + 1)) ⊎ ((x ≢ 2 * s + 1) × (dart_now s last x ≡ x))
now_cases s last x = elim (cases_eq x (2 * s + 1)) [
  | inl e ↦ inl (e, cond-true _ _ _ (eq-eqb x (2 * s + 1) e))
  | inr e ↦ inr (e, cond-false _ _ _ (ne_eqb x (2 * s + 1) e))
]

pub now_here : (s last x : ℕ) → x ≡ 2 * s + 1 → dart_now s last x ≡ 2 * last + 1
now_here s last x e = cond-true _ _ _ (eq-eqb x (2 * s + 1) e)

pub now_there : (s last x : ℕ) → x ≢ 2 * s + 1 → dart_now s last x ≡ x
now_there s last x e = cond-false _ _ _ (ne_eqb x (2 * s + 1) e)

-- what becomes of one dart
pub ex_cases : (s last d : ℕ) → ((d ≡ 2 * s) × (ex_one s last d ≡ 2 * s ∷ 2 * last ∷ [])) ⊎ (((d ≡ 2 * s + 1) × (ex_one s last d ≡ (2 * last + 1) ∷ (2 * s + 1) ∷ []))
    ⊎ ((d ≢ 2 * s) × (d ≢ 2 * s + 1) × (ex_one s last d ≡ d ∷ [])))
ex_cases s last d = elim (cases_eq d (2 * s)) [
  | inl e ↦ inl (e, cond-true _ _ _ (eq-eqb d (2 * s) e))
  | inr not_first ↦ elim (cases_eq d (2 * s + 1)) [
    | inl e ↦ inr (inl (e, cond-false _ _ _ (ne_eqb d (2 * s) not_first) ∙ cond-true _ _ _ (eq-eqb d (2 * s + 1) e)))
    | inr not_second ↦ inr (inr (not_first, not_second, cond-false _ _ _ (ne_eqb d (2 * s) not_first) ∙ cond-false _ _ _ (ne_eqb d (2 * s + 1) not_second)))
  ]
]

module _ (s last count : ℕ) (s_in : s < last) (size : count ≡ suc (suc last)) (N : ℕ → ℕ → Type 0) (on : N (2 * s + 1) (2 * last)) (back : N (2 * last) (2 * s + 1)) where
  abbrev now : ℕ → ℕ
  now = dart_now s last

  one_path : (d : ℕ) → d < 2 * last → Path count N (now d) (ex_one s last d) (now (reverse_of d))
  one_path d d_in = elim (ex_cases s last d) [
    | inl e ↦
        let start : 2 * s ≡ now d = sym (now_there s last (2 * s) (λ f. omega (arith, f))) ∙ ap now (sym e.0) in
        let end : 2 * last + 1 ≡ now (reverse_of d) = sym (now_here s last (2 * s + 1) refl) ∙ ap now (sym (reverse-even s) ∙ ap reverse_of (sym e.0)) in
        let P : List ℕ → Type 0 = λ l. Path count N (now d) l (now (reverse_of d)) in
        let K : ℕ → Type 0 = λ x. N x (2 * last) in
        subst P (sym e.1) (omega (arith, s_in, size), start, subst K (sym (reverse-even s)) on, (omega (arith, size), refl, reverse-even last ∙ end))
    | inr (inl e) ↦
        let start : 2 * last + 1 ≡ now d = sym (now_here s last d e.0) in
        let end : 2 * s ≡ now (reverse_of d) = sym (now_there s last (2 * s) (λ f. omega (arith, f))) ∙ ap now (sym (reverse-odd s) ∙ ap reverse_of (sym e.0)) in
        let P : List ℕ → Type 0 = λ l. Path count N (now d) l (now (reverse_of d)) in
        let K : ℕ → Type 0 = λ x. N x (2 * s + 1) in
        subst P (sym e.1) (omega (arith, size), start, subst K (sym (reverse-odd last)) back, (omega (arith, s_in, size), refl, reverse-odd s ∙ end))
    | inr (inr e) ↦
        let other : reverse_of d ≢ 2 * s + 1 = λ f. let c = cases_dart d in elim c.1 [
          | inl even ↦ omega (arith, ap reverse_of even, reverse-even c.0, f, even, e.0)
          | inr odd ↦ omega (arith, ap reverse_of odd, reverse-odd c.0, f)
        ] in
        let P : List ℕ → Type 0 = λ l. Path count N (now d) l (now (reverse_of d)) in
        subst P (sym e.2) (omega (arith, d_in, size), sym (now_there s last d e.1), sym (now_there s last (reverse_of d) other))
  ]

  pub ex_path : (L : ℕ → ℕ → Type 0) → ((x z : ℕ) → L x z → N (now x) (now z)) → (a z : ℕ) (ds : List ℕ) → Path last L a ds z → Path count N (now a) (ex s last ds) (now z)
  ex_path L each a z [] p = absurd p
  ex_path L each a z (d ∷ []) p = move (λ x y. Path count N x (ex_one s last d) y) _ _ _ _ (ap now p.1) (ap now p.2) (one_path d p.0)
  ex_path L each a z (d ∷ e ∷ ds) p =
      let first = one_path d p.0 in
      let P : ℕ → Type 0 = λ x. Path count N x (ex_one s last d) (now (reverse_of d)) in
      path_append count N (now a) (now (reverse_of d)) (now e) (now z) (ex_one s last d) (ex s last (e ∷ ds)) (subst P (ap now p.1) first) (each (reverse_of d) e p.2)
      (ex_path L each e z (e ∷ ds) p.3)

-- how often segments are walked then
one_times : (s last t d : ℕ) → s < last → d < 2 * last → (t ≢ last → times_walked t (ex_one s last d) ≡ times_walked t (d ∷ [])) × (times_walked last (ex_one s last d) ≡ times_walked s (d ∷ []))
one_times s last t d s_in d_in =
    let bit : (x k : ℕ) → ((x ≡ k) × (one_if (eqb x k) ≡ 1)) ⊎ ((x ≢ k) × (one_if (eqb x k) ≡ 0)) = λ x k. elim (cases_eq x k) [
      | inl e ↦ inl (e, ap one_if (eq-eqb x k e))
      | inr e ↦ inr (e, ap one_if (ne_eqb x k e))
    ] in
    elim (ex_cases s last d) [
      | inl e ↦
          let a = ap (times_walked t) e.1 in
          let b = ap (times_walked last) e.1 in (
            λ other. omega (arith, a, bit ((2 * s) / 2) t, bit ((2 * last) / 2) t, bit (d / 2) t, e.0, other),
            omega (arith, b, bit ((2 * s) / 2) last, bit ((2 * last) / 2) last, bit (d / 2) s, e.0, s_in),
          )
      | inr (inl e) ↦
          let a = ap (times_walked t) e.1 in
          let b = ap (times_walked last) e.1 in (
            λ other. omega (arith, a, bit ((2 * s + 1) / 2) t, bit ((2 * last + 1) / 2) t, bit (d / 2) t, e.0, other),
            omega (arith, b, bit ((2 * s + 1) / 2) last, bit ((2 * last + 1) / 2) last, bit (d / 2) s, e.0, s_in),
          )
      | inr (inr e) ↦
          let b = ap (times_walked last) e.2 in (
            λ other. ap (times_walked t) e.2,
            omega (arith, b, bit (d / 2) last, bit (d / 2) s, e.0, e.1, d_in),
          )
    ]

pub ex_times : (s last t : ℕ) → s < last → (L : ℕ → ℕ → Type 0) (a z : ℕ) (ds : List ℕ) → Path last L a ds z →
    (t ≢ last → times_walked t (ex s last ds) ≡ times_walked t ds) × (times_walked last (ex s last ds) ≡ times_walked s ds)
ex_times s last t s_in L a z [] p = absurd p
ex_times s last t s_in L a z (d ∷ []) p = one_times s last t d s_in p.0
ex_times s last t s_in L a z (d ∷ e ∷ ds) p =
    let one = one_times s last t d s_in p.0 in
    let rest = ex_times s last t s_in L e z (e ∷ ds) p.3 in
    let sum = times-append t (ex_one s last d) (ex s last (e ∷ ds)) in
    let sum_last = times-append last (ex_one s last d) (ex s last (e ∷ ds)) in
    (λ other. let x = one.0 other in let y = rest.0 other in omega (arith, sum, x, y), let x = one.1 in let y = rest.1 in omega (arith, sum_last, x, y))

pub path_times : (last : ℕ) (L : ℕ → ℕ → Type 0) (a z : ℕ) (ds : List ℕ) → Path last L a ds z → (t : ℕ) → last ≤ t → times_walked t ds ≡ 0
path_times last L a z [] p t past = absurd p
path_times last L a z (d ∷ []) p t past = let low = p.0 in let none : one_if (eqb (d / 2) t) ≡ 0 = ap one_if (ne_eqb (d / 2) t (λ e. omega (arith, e, low, past))) in omega (arith, none)
path_times last L a z (d ∷ e ∷ ds) p t past =
    let low = p.0 in
    let none : one_if (eqb (d / 2) t) ≡ 0 = ap one_if (ne_eqb (d / 2) t (λ f. omega (arith, f, low, past))) in
    let rest = path_times last L e z (e ∷ ds) p.3 t past in
    omega (arith, none, rest)

-- ---- the state

pub record Strand (g : Graph) (web : Graph) (next : ℕ → ℕ) (four : ℕ → Bool) (y q x : ℕ) (ds : List ℕ) : Type 0 where
  pub from : ℕ
  pub to : ℕ
  pub path : Path (length web.ends) (Seam g.nodes web next four y q) from ds to
  pub at_from : tail_of web.ends from ≡ (ends_at g.ends x).0
  pub at_to : tail_of web.ends to ≡ (ends_at g.ends x).1

-- the walk that grows has come by b
pub record Grown (g : Graph) (web : Graph) (next : ℕ → ℕ) (four : ℕ → Bool) (y b q u : ℕ) (own : List ℕ) : Type 0 where
  pub at : At g.nodes web next y b q
  pub from : ℕ
  pub path : Path (length web.ends) (Seam g.nodes web next four y q) from own b
  pub at_from : tail_of web.ends from ≡ u

pub record State (g : Graph) (edges : List ℕ) (u : ℕ) (web : Graph) (next : ℕ → ℕ) (four : ℕ → Bool) (name : ℕ → ℕ) (whole : ℕ → Bool) (y b q : ℕ) (walks : ℕ → List ℕ) (own : List ℕ) : Type 0 where
  pub is_flat_map : IsFlat web next
  pub nodes_in : g.nodes ≤ web.nodes
  pub further : (v : ℕ) → four v ≡ true → (g.nodes ≤ v) × (v < web.nodes)
  pub here : four (tail_of web.ends y) ≡ false
  pub fine : (x : ℕ) → x < 2 * length web.ends → tail_of web.ends x ≢ tail_of web.ends y → Fine g.nodes web next four x
  pub faces : AreFaceNames web.ends next name whole
  pub y_in : y < 2 * length web.ends
  pub cursor : ((tail_of web.ends y ≡ u) × (u < g.nodes) × (own ≡ [])) ⊎ Grown g web next four y b q u own
  pub strands : (x : ℕ) → has edges x ≡ true → Strand g web next four y q x (walks x)
  pub once : (t : ℕ) → times_walked t (flat_map walks edges) + times_walked t own ≤ 1

-- all further nodes but the cursor's are crossed, and all segments are walked
pub record Exact (n : ℕ) (edges : List ℕ) (web : Graph) (four : ℕ → Bool) (y : ℕ) (walks : ℕ → List ℕ) (own : List ℕ) : Type 0 where
  pub all_four : (v : ℕ) → n ≤ v → v < web.nodes → v ≢ tail_of web.ends y → four v ≡ true
  pub have_darts : (v : ℕ) → n ≤ v → v < web.nodes → (d : ℕ) × (d < 2 * length web.ends) × (tail_of web.ends d ≡ v)
  pub all_walked : (t : ℕ) → t < length web.ends → 1 ≤ times_walked t (flat_map walks edges) + times_walked t own

pub also_of_four : (four : ℕ → Bool) (n w v : ℕ) → four v ≡ true → also four n w v ≡ true
also_of_four four n w v h = rw h refl

pub cursor_of : (g : Graph) (edges : List ℕ) (u : ℕ) (web : Graph) (next : ℕ → ℕ) (four : ℕ → Bool) (name : ℕ → ℕ) (whole : ℕ → Bool) (y b q : ℕ) (walks : ℕ → List ℕ) (own : List ℕ) →
    State g edges u web next four name whole y b q walks own → (tail_of web.ends y < g.nodes) ⊎ At g.nodes web next y b q
cursor_of g edges u web next four name whole y b q walks own st = elim st.cursor [ inl start ↦ inl (omega (arith, start.0, start.1)) | inr grown ↦ inr grown.at ]

module _ (g : Graph) (edges : List ℕ) (u : ℕ) (web : Graph) (next : ℕ → ℕ) (four : ℕ → Bool) (name : ℕ → ℕ) (whole : ℕ → Bool) (y b q : ℕ) (walks : ℕ → List ℕ) (own : List ℕ)
    (st : State g edges u web next four name whole y b q walks own) (d : ℕ) (d_in : d < 2 * length web.ends) (ends' : List (ℕ × ℕ)) (after names : ℕ → ℕ)
    (A : IsAcross web.nodes web.ends next name whole y d ends' after names) where
  abbrev n : ℕ
  n = g.nodes

  abbrev last : ℕ
  last = length web.ends

  abbrev s : ℕ
  s = d / 2

  abbrev web' : Graph
  web' = record { nodes = suc web.nodes; ends = ends' }

  abbrev now' : ℕ → ℕ
  now' = dart_now (d / 2) (length web.ends)

  abbrev a : ℕ
  a = 2 * suc (length web.ends)

  abbrev four' : ℕ → Bool
  four' = also four g.nodes (tail_of web.ends y)

  abbrev p' : ℕ
  p' = dart_back (length web.ends) d

  abbrev q' : ℕ
  q' = dart_on (length web.ends) d

  abbrev b' : ℕ
  b' = 2 * suc (length web.ends) + 1

  sides : ((q' ≡ 2 * last) × (p' ≡ 2 * s + 1)) ⊎ ((q' ≡ 2 * s + 1) × (p' ≡ 2 * last))
  sides = elim (cases_eq (d % 2) 0) [
    | inl even ↦ inl (cond-true _ _ _ (eq-eqb _ _ even), cond-true _ _ _ (eq-eqb _ _ even))
    | inr odd ↦ inr (cond-false _ _ _ (ne_eqb _ _ odd), cond-false _ _ _ (ne_eqb _ _ odd))
  ]

  s_low : s < last
  s_low = omega (arith, d_in)

  size' : length ends' ≡ suc (suc last)
  size' = A.size

  pub landing : Landing n web next y web' after now' a
  landing = record {
    now_in = λ x x_in. let c = now_cases s last x in omega (arith, c, x_in, size');
    now_apart = λ x z x_in z_in same. let c = now_cases s last x in let e = now_cases s last z in omega (arith, c, e, same, x_in, z_in);
    a_in = omega (arith, size');
    a_new = λ x x_in same. let c = now_cases s last x in omega (arith, c, same, x_in);
    tails = A.tails;
    tail_a = A.tail_from;
    turns = λ x x_in high other. A.turns x x_in other;
    turns_in = A.turns_in;
    turns_from = A.turns_from;
  }

  low_tail : (x : ℕ) → x < 2 * last → tail_of web.ends x < web.nodes
  low_tail x x_in = tail_in web.nodes web.ends st.is_flat_map.is_map.ends_in x x_in

  cursor : (tail_of web.ends y < n) ⊎ At n web next y b q
  cursor = cursor_of g edges u web next four name whole y b q walks own st

  pub tail_mid : tail_of ends' (2 * s + 1) ≡ web.nodes
  tail_mid = elim sides [ inl e ↦ ap (tail_of ends') (sym e.1) ∙ A.tail_back | inr e ↦ ap (tail_of ends') (sym e.0) ∙ A.tail_on ]

  pub tail_last : tail_of ends' (2 * last) ≡ web.nodes
  tail_last = elim sides [ inl e ↦ ap (tail_of ends') (sym e.0) ∙ A.tail_on | inr e ↦ ap (tail_of ends') (sym e.1) ∙ A.tail_back ]

  not_further : four web.nodes ≡ false
  not_further = elim (cases_Bool (four web.nodes)) [ inr fails ↦ fails | inl h ↦ let f = st.further web.nodes h in absurd (omega (arith, f.1)) ]

  pub four_new : four' web.nodes ≡ false
  four_new = also_other four n (tail_of web.ends y) web.nodes (λ e. let low = low_tail y st.y_in in omega (arith, low, e)) ∙ not_further

  fine_old : (x : ℕ) → x < 2 * last → Fine n web' after four' (now' x)
  fine_old = old_fine n web next four y b q web' after now' a st.is_flat_map.is_map landing st.y_in (λ v h. (st.further v h).0) st.here st.fine cursor

  fine_a : Fine n web' after four' a
  fine_a = new_fine n web next four y b q web' after now' a st.is_flat_map.is_map landing st.y_in (λ v h. (st.further v h).0) st.here st.fine cursor

  fine' : (x : ℕ) → x < 2 * length ends' → tail_of ends' x ≢ tail_of ends' p' → Fine n web' after four' x
  fine' x x_in far =
      let P : ℕ → Type 0 = λ z. Fine n web' after four' z in
      elim (cases_eq x (2 * s + 1)) [
        | inl e ↦ absurd (far (ap (tail_of ends') e ∙ tail_mid ∙ sym A.tail_back))
        | inr not_mid ↦ elim (cases_eq x (2 * last)) [
          | inl e ↦ absurd (far (ap (tail_of ends') e ∙ tail_last ∙ sym A.tail_back))
          | inr not_last ↦ elim (cases_eq x (2 * last + 1)) [
            | inl e ↦ subst P (now_here s last (2 * s + 1) refl ∙ sym e) (fine_old (2 * s + 1) (omega (arith, s_low)))
            | inr not_end ↦ elim (cases_eq x a) [
              | inl e ↦ subst P (sym e) fine_a
              | inr not_a ↦ elim (cases_eq x b') [
                | inl e ↦ absurd (far (ap (tail_of ends') e ∙ A.tail_to ∙ sym A.tail_back))
                | inr not_b ↦ subst P (now_there s last x not_mid) (fine_old x (omega (arith, x_in, size', not_last, not_end, not_a, not_b)))
              ]
            ]
          ]
        ]
      ]

  abbrev New : ℕ → ℕ → Type 0
  New = Seam n web' after four' p' q'

  from_leads : (x z : ℕ) → PassesTo n web' after four' x z → tail_of ends' x ≢ web.nodes → New x z
  from_leads x z l far = record {
    x_in = l.x_in;
    z_in = l.y_in;
    high = l.high;
    one_node = l.one_node;
    how = inl (λ same. far (same ∙ A.tail_back), l.goes);
  }

  carried : (x z : ℕ) → Seam n web next four y q x z → New (now' x) (now' z)
  carried x z m =
      from_leads (now' x) (now' z) (old_seam n web next four y b q web' after now' a st.is_flat_map.is_map landing st.y_in (λ v h. (st.further v h).0) st.here st.fine cursor x z m)
      (λ same. let low = low_tail x m.x_in in let t = A.tails x m.x_in in omega (arith, low, t, same))

  p_in : p' < 2 * length ends'
  p_in = omega (arith, sides, size', s_low)

  q_in : q' < 2 * length ends'
  q_in = omega (arith, sides, size', s_low)

  high_new : n ≤ tail_of ends' p'
  high_new = let low = st.nodes_in in let t = A.tail_back in omega (arith, low, t)

  p_q : New p' q'
  p_q = record { x_in = p_in; z_in = q_in; high = high_new; one_node = A.tail_on ∙ sym A.tail_back; how = inr (inl (refl, refl)) }

  q_p : New q' p'
  q_p = record { x_in = q_in; z_in = p_in; high = let t = A.tail_on in let low = st.nodes_in in omega (arith, t, low); one_node = A.tail_back ∙ sym A.tail_on; how = inr (inr (refl, refl)) }

  on : New (2 * s + 1) (2 * last)
  on = elim sides [ inl e ↦ move New _ _ _ _ e.1 e.0 p_q | inr e ↦ move New _ _ _ _ e.0 e.1 q_p ]

  back : New (2 * last) (2 * s + 1)
  back = elim sides [ inl e ↦ move New _ _ _ _ e.0 e.1 q_p | inr e ↦ move New _ _ _ _ e.1 e.0 p_q ]

  carry : (f t : ℕ) (ds : List ℕ) → Path last (Seam n web next four y q) f ds t → Path (length ends') New (now' f) (ex s last ds) (now' t)
  carry f t ds path = ex_path s last (length ends') s_low size' New on back (Seam n web next four y q) carried f t ds path

  abbrev pub own' : List ℕ
  own' = ex (d / 2) (length web.ends) own ++ (2 * suc (length web.ends)) ∷ []

  abbrev pub walks' : ℕ → List ℕ
  walks' x = ex (d / 2) (length web.ends) (walks x)

  tip : Path (length ends') New a (a ∷ []) b'
  tip = (omega (arith, size'), refl, reverse-even (suc last))

  at_new : At n web' after p' b' q'
  at_new = record {
    high = high_new;
    b_in = omega (arith, size');
    q_in = q_in;
    to_b = A.turns_back;
    to_q = A.turns_to;
    to_y = A.turns_on;
    by = λ e. omega (arith, e, sides, s_low);
    qy = λ e. omega (arith, e, sides, s_low);
    bq = λ e. omega (arith, e, sides, s_low);
  }

  grown : Grown g web' after four' p' b' q' u own'
  grown = elim st.cursor [
    | inl start ↦
        let P : List ℕ → Type 0 = λ l. Path (length ends') New a (ex s last l ++ a ∷ []) b' in
        record { at = at_new; from = a; path = subst P (sym start.2) tip; at_from = A.tail_from ∙ start.0 }
    | inr old ↦
        let seam = own_seam n web next four y b q web' after now' a st.is_flat_map.is_map landing st.y_in (λ v h. (st.further v h).0) st.here st.fine cursor old.at in
        let b_low = low_tail b old.at.b_in in
        let t = A.tails b old.at.b_in in
        let ends_in = path_ends_in last (Seam n web next four y q) old.from b own old.path in
        record {
          at = at_new;
          from = now' old.from;
          path = path_append (length ends') New (now' old.from) (now' b) a b' (ex s last own) (a ∷ []) (carry old.from b own old.path)
              (from_leads (now' b) a seam (λ same. omega (arith, b_low, t, same))) tip;
          at_from = A.tails old.from ends_in.0 ∙ old.at_from;
        }
  ]

  pub own_times : (t : ℕ) → (t ≢ last → times_walked t (ex s last own) ≡ times_walked t own) × (times_walked last (ex s last own) ≡ times_walked s own) × (last ≤ t → times_walked t own ≡ 0)
  own_times t = elim st.cursor [
    | inl start ↦
        let P : List ℕ → Type 0 = λ l. (t ≢ last → times_walked t (ex s last l) ≡ times_walked t l) × (times_walked last (ex s last l) ≡ times_walked s l) × (last ≤ t → times_walked t l ≡ 0) in
        subst P (sym start.2) (λ other. refl, refl, λ past. refl)
    | inr old ↦
        let e = ex_times s last t s_low (Seam n web next four y q) old.from b own old.path in
        (e.0, e.1, path_times last (Seam n web next four y q) old.from b own old.path t)
  ]

  all_times : (t : ℕ) → (t ≢ last → times_walked t (flat_map walks' edges) ≡ times_walked t (flat_map walks edges))
      × (times_walked last (flat_map walks' edges) ≡ times_walked s (flat_map walks edges)) × (last ≤ t → times_walked t (flat_map walks edges) ≡ 0)
  all_times t =
      let one = λ (x : ℕ) (x_in : has edges x ≡ true).
      let r = st.strands x x_in in
      ex_times s last t s_low (Seam n web next four y q) r.from r.to (walks x) r.path in (
        λ other. times-flat_map t walks' edges ∙ same_total (λ x. times_walked t (walks' x)) (λ x. times_walked t (walks x)) edges (λ x x_in. (one x x_in).0 other) ∙ sym (times-flat_map t walks edges),
        times-flat_map last walks' edges ∙ same_total (λ x. times_walked last (walks' x)) (λ x. times_walked s (walks x)) edges (λ x x_in. (one x x_in).1) ∙ sym (times-flat_map s walks edges),
        λ past. times-flat_map t walks edges ∙ same_total (λ x. times_walked t (walks x)) (λ x. 0) edges (λ x x_in.
            let r = st.strands x x_in in path_times last (Seam n web next four y q) r.from r.to (walks x) r.path t past) ∙ no_terms edges,
      )
    where
      no_terms : (es : List ℕ) → total (λ e. 0) es ≡ 0
      no_terms [] = refl
      no_terms (e ∷ es) = let rest = no_terms es in omega (arith, rest)

  once' : (t : ℕ) → times_walked t (flat_map walks' edges) + times_walked t own' ≤ 1
  once' t =
      let sum = times-append t (ex s last own) (a ∷ []) in
      let half : a / 2 ≡ suc last = omega arith in
      let one = own_times t in
      let all = all_times t in
      let was = st.once t in
      let was_s = st.once s in
      elim (cases_eq t last) [
        | inl e ↦
            let none : one_if (eqb (a / 2) t) ≡ 0 = ap one_if (ne_eqb (a / 2) t (λ f. omega (arith, f, half, e))) in
            let x : times_walked t (flat_map walks' edges) ≡ times_walked s (flat_map walks edges) = ap (λ k. times_walked k (flat_map walks' edges)) e ∙ all.1 in
            let z : times_walked t (ex s last own) ≡ times_walked s own = ap (λ k. times_walked k (ex s last own)) e ∙ one.1 in
            omega (arith, sum, none, x, z, was_s)
        | inr other ↦
            let x = all.0 other in
            let z = one.0 other in
            elim (cases_eq t (suc last)) [
              | inl e ↦
                  let past : last ≤ t = omega (arith, e) in
                  let x0 = all.2 past in
                  let z0 = one.2 past in
                  let some : one_if (eqb (a / 2) t) ≡ 1 = ap one_if (eq-eqb (a / 2) t (half ∙ sym e)) in
                  omega (arith, sum, some, x, z, x0, z0)
              | inr not_new ↦
                  let none : one_if (eqb (a / 2) t) ≡ 0 = ap one_if (ne_eqb (a / 2) t (λ f. not_new (sym f ∙ half))) in
                  omega (arith, sum, none, x, z, was)
            ]
      ]

  pub stepped : State g edges u web' after four' names (λ k. whole k && not (eqb k (name y))) p' b' q' walks' own'
  stepped = record {
    is_flat_map = record { is_map = A.is_map; flat = A.flat };
    nodes_in = let low = st.nodes_in in omega (arith, low);
    further = λ v h. elim (also_parts four n (tail_of web.ends y) v h) [
      | inl old ↦ let f = st.further v old in (f.0, omega (arith, f.1))
      | inr now_it ↦ let low = low_tail y st.y_in in (omega (arith, now_it), omega (arith, now_it, low))
    ];
    here = ap four' A.tail_back ∙ four_new;
    fine = fine';
    faces = A.faces;
    y_in = p_in;
    cursor = inr grown;
    strands = λ x x_in.
        let r = st.strands x x_in in
        let ends_in = path_ends_in last (Seam n web next four y q) r.from r.to (walks x) r.path in
        record {
          from = now' r.from;
          to = now' r.to;
          path = carry r.from r.to (walks x) r.path;
          at_from = A.tails r.from ends_in.0 ∙ r.at_from;
          at_to = A.tails r.to ends_in.1 ∙ r.at_to;
        };
    once = once';
  }

  pub exact_stepped : Exact n edges web four y walks own → Exact n edges web' four' p' walks' own'
  exact_stepped e = record {
    all_four = λ v high v_in far.
        let v_low : v < web.nodes = let t = A.tail_back in let other : v ≢ web.nodes = λ same. far (same ∙ sym t) in omega (arith, v_in, other) in
        elim (cases_eq v (tail_of web.ends y)) [
          | inl same ↦ let w_high : n ≤ tail_of web.ends y = omega (arith, high, same) in ap four' same ∙ also_here four n (tail_of web.ends y) w_high
          | inr other ↦ also_of_four four n (tail_of web.ends y) v (e.all_four v high v_low other)
        ];
    have_darts = λ v high v_in. elim (cases_eq v web.nodes) [
      | inl same ↦ (p', p_in, A.tail_back ∙ sym same)
      | inr other ↦
          let d = e.have_darts v high (omega (arith, v_in, other)) in
          (now' d.0, landing.now_in d.0 d.1, A.tails d.0 d.1 ∙ d.2)
    ];
    all_walked = λ t t_in.
        let sum = times-append t (ex s last own) (a ∷ []) in
        let half : a / 2 ≡ suc last = omega arith in
        let one = own_times t in
        let all = all_times t in
        elim (cases_eq t last) [
          | inl is ↦
              let was = e.all_walked s s_low in
              let x : times_walked t (flat_map walks' edges) ≡ times_walked s (flat_map walks edges) = ap (λ k. times_walked k (flat_map walks' edges)) is ∙ all.1 in
              let z : times_walked t (ex s last own) ≡ times_walked s own = ap (λ k. times_walked k (ex s last own)) is ∙ one.1 in
              omega (arith, sum, was, x, z)
          | inr other ↦ elim (cases_eq t (suc last)) [
            | inl is ↦ let some : one_if (eqb (a / 2) t) ≡ 1 = ap one_if (eq-eqb (a / 2) t (half ∙ sym is)) in omega (arith, sum, some)
            | inr not_new ↦
                let was = e.all_walked t (omega (arith, t_in, size', other, not_new)) in
                let x = all.0 other in
                let z = one.0 other in
                omega (arith, sum, was, x, z)
          ]
        ];
  }
