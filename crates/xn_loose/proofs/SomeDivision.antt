-- Each segment can be divided at a new node.
use Rattle.std.proofs.Common.{◌≡◌, ◌≢◌, ℕ, suc, ◌+◌, ◌*◌, ◌<◌, ◌⊎◌, inl, inr, cond, eqb, List, length, refl, sym, ◌∙◌, ap, arith}
use Rattle.std.proofs.lemmas.Bool.{cases_eq, cond-true, cond-false, eq-eqb, ne_eqb}
use Rattle.xn_model.specs.Graph.{ends_at}
use Rattle.xn_model.specs.Map.{tail_of}
use Rattle.xn_surgery.specs.Subdivision.{IsSubdivision, dart_now}
use Rattle.xn_model.proofs.Darts.{tail-even, tail-odd}
use Rattle.xn_track.proofs.Relink.{ends_by, ends_by-length, ends_by-tail}

-- the ends of a listed segment, from the tails of its darts
pair_eta : (p : ℕ × ℕ) (u v : ℕ) → p.0 ≡ u → p.1 ≡ v → p ≡ (u, v)
pair_eta p u v one two = ap (λ x. (x, p.1)) one ∙ ap (λ y. (u, y)) two

module _ (nodes : ℕ) (ends : List (ℕ × ℕ)) (next : ℕ → ℕ) (s : ℕ) (s_in : s < length ends) where
  abbrev last : ℕ
  last = length ends

  abbrev n : ℕ
  n = 2 * length ends

  abbrev now : ℕ → ℕ
  now = dart_now s (length ends)

  now_here : (x : ℕ) → x ≡ 2 * s + 1 → now x ≡ 2 * last + 1
  now_here x e = cond-true _ _ _ (eq-eqb x (2 * s + 1) e)

  now_there : (x : ℕ) → x ≢ 2 * s + 1 → now x ≡ x
  now_there x e = cond-false _ _ _ (ne_eqb x (2 * s + 1) e)

  now_cases : (x : ℕ) → ((x ≡ 2 * s + 1) × (now x ≡ 2 * last + 1)) ⊎ ((x ≢ 2 * s + 1) × (now x ≡ x))
  now_cases x = elim (cases_eq x (2 * s + 1)) [ inl e ↦ inl (e, now_here x e) | inr e ↦ inr (e, now_there x e) ]

  -- the tails
  abbrev t : ℕ → ℕ
  t x = cond (eqb x (2 * s + 1)) nodes (cond (eqb x (2 * last)) nodes (cond (eqb x (2 * last + 1)) (tail_of ends (2 * s + 1)) (tail_of ends x)))

  abbrev more : List (ℕ × ℕ)
  more = ends_by t (suc (length ends))

  size : length more ≡ suc last
  size = ends_by-length t (suc last)

  tail_is : (x : ℕ) → x < 2 * suc last → tail_of more x ≡ t x
  tail_is x x_in = ends_by-tail t (suc last) x x_in

  tail_mid : tail_of more (2 * s + 1) ≡ nodes
  tail_mid = tail_is (2 * s + 1) (omega (arith, s_in)) ∙ cond-true _ _ _ (eq-eqb (2 * s + 1) (2 * s + 1) refl)

  tail_last : tail_of more (2 * last) ≡ nodes
  tail_last = tail_is (2 * last) (omega arith) ∙ cond-false _ _ _ (ne_eqb (2 * last) (2 * s + 1) (λ e. omega (arith, e))) ∙ cond-true _ _ _ (eq-eqb (2 * last) (2 * last) refl)

  tail_end : tail_of more (2 * last + 1) ≡ tail_of ends (2 * s + 1)
  tail_end = tail_is (2 * last + 1) (omega arith) ∙ cond-false _ _ _ (ne_eqb (2 * last + 1) (2 * s + 1) (λ e. omega (arith, e, s_in)))
      ∙ cond-false _ _ _ (ne_eqb (2 * last + 1) (2 * last) (λ e. omega (arith, e))) ∙ cond-true _ _ _ (eq-eqb (2 * last + 1) (2 * last + 1) refl)

  tail_old : (x : ℕ) → x < n → x ≢ 2 * s + 1 → tail_of more x ≡ tail_of ends x
  tail_old x x_in other = tail_is x (omega (arith, x_in)) ∙ cond-false _ _ _ (ne_eqb x (2 * s + 1) other)
      ∙ cond-false _ _ _ (ne_eqb x (2 * last) (λ e. omega (arith, e, x_in))) ∙ cond-false _ _ _ (ne_eqb x (2 * last + 1) (λ e. omega (arith, e, x_in)))

  tails : (x : ℕ) → x < n → tail_of more (now x) ≡ tail_of ends x
  tails x x_in = elim (now_cases x) [
    | inl here ↦ ap (tail_of more) here.1 ∙ tail_end ∙ ap (tail_of ends) (sym here.0)
    | inr there ↦ ap (tail_of more) there.1 ∙ tail_old x x_in there.0
  ]

  -- the turns
  abbrev before : ℕ → ℕ
  before x = cond (eqb x (2 * last + 1)) (2 * s + 1) x

  abbrev after : ℕ → ℕ
  after x = cond (eqb x (2 * s + 1)) (2 * last) (cond (eqb x (2 * last)) (2 * s + 1) (now (next (before x))))

  after_mid : after (2 * s + 1) ≡ 2 * last
  after_mid = cond-true _ _ _ (eq-eqb (2 * s + 1) (2 * s + 1) refl)

  after_last : after (2 * last) ≡ 2 * s + 1
  after_last = cond-false _ _ _ (ne_eqb (2 * last) (2 * s + 1) (λ e. omega (arith, e))) ∙ cond-true _ _ _ (eq-eqb (2 * last) (2 * last) refl)

  after_now : (x : ℕ) → x < n → after (now x) ≡ now (next x)
  after_now x x_in = elim (now_cases x) [
    | inl here ↦
        ap after here.1 ∙ cond-false _ _ _ (ne_eqb (2 * last + 1) (2 * s + 1) (λ e. omega (arith, e, s_in)))
        ∙ cond-false _ _ _ (ne_eqb (2 * last + 1) (2 * last) (λ e. omega (arith, e)))
        ∙ ap (λ k. now (next k)) (cond-true _ _ _ (eq-eqb (2 * last + 1) (2 * last + 1) refl) ∙ sym here.0)
    | inr there ↦
        ap after there.1 ∙ cond-false _ _ _ (ne_eqb x (2 * s + 1) there.0) ∙ cond-false _ _ _ (ne_eqb x (2 * last) (λ e. omega (arith, e, x_in)))
        ∙ ap (λ k. now (next k)) (cond-false _ _ _ (ne_eqb x (2 * last + 1) (λ e. omega (arith, e, x_in))))
  ]

  is_subdivision : IsSubdivision nodes ends next s more after
  is_subdivision = record {
    is_there = s_in;
    longer = size;
    ends_kept = λ i i_in other. pair_same (ends_at more i) (ends_at ends i)
        (sym (tail-even more i) ∙ tail_old (2 * i) (omega (arith, i_in)) (λ e. omega (arith, e)) ∙ tail-even ends i)
        (sym (tail-odd more i) ∙ tail_old (2 * i + 1) (omega (arith, i_in)) (λ e. other (omega (arith, e))) ∙ tail-odd ends i);
    first_part = pair_eta (ends_at more s) (ends_at ends s).0 nodes
        (sym (tail-even more s) ∙ tail_old (2 * s) (omega (arith, s_in)) (λ e. omega (arith, e)) ∙ tail-even ends s) (sym (tail-odd more s) ∙ tail_mid);
    last_part = pair_eta (ends_at more last) nodes (ends_at ends s).1
        (sym (tail-even more last) ∙ tail_last) (sym (tail-odd more last) ∙ tail_end ∙ tail-odd ends s);
    turns = after_now;
    turns_new = after_mid;
    turns_back = after_last;
  }
    where
      pair_same : (p q : ℕ × ℕ) → p.0 ≡ q.0 → p.1 ≡ q.1 → p ≡ q
      pair_same p q one two = pair_eta p q.0 q.1 one two

  pub some_division : (other : List (ℕ × ℕ)) × (turn : ℕ → ℕ) × IsSubdivision nodes ends next s other turn
  some_division = (more, after, is_subdivision)
