-- Each form says of numbers in their ranges what they are.
use Rattle.std.proofs.Common.{◌≡◌, ◌≢◌, ℕ, suc, ◌-◌, ◌*◌, ◌^◌, ◌<◌, ◌≤◌, true, cond, ltb, eqb, List, [], ◌∷◌, length, map, Option, Some, None, Ok, Err, refl, sym, ap, ◌∙◌, subst, arith}
use Rattle.std.proofs.lemmas.Bool.{eqb-true, eq-eqb, ltb-true, ltb-false, lt-ltb, le-ltb, ne_eqb, both_ways}
use Rattle.std.specs.List.{All}
use Rattle.xn_graph.specs.Limits.{IsEdge}
use Rattle.xn_proof.specs.Ranges.{at_most, below, counted, edge_form, edges_form, effort_form, factor, is_half, is_value, just_form, leaf_form, list_form, no_form, nodes_form, one_form, over_form, parts_at, two_form}
use Rattle.xn_proof.specs.Reading.{◌>>=◌, each_at, loop_flaw, out_of_range, syntax}
use Rattle.xn_proof.specs.Spelling.{numbers_of}
use Rattle.xn_proof.specs.WellFormed.{AreNodes, IsFactor, IsList}
use Rattle.xn_proof.proofs.Keyed.{AreSmall}
use Rattle.xn_proof.proofs.Shapes.{IsForm}
use Rattle.xn_proof.proofs.Steps.{bind_ok, guard, pass, ok, ok_is, all_cons, all_first, all_none, all_rest}

-- ---- single values

pub at_most_is : (i most : ℕ) (v : Option ℕ) (n : ℕ) → at_most i most v ≡ Ok n → (v ≡ Some n) × (n ≤ most)
at_most_is i most None n e = absurd cc
at_most_is i most (Some m) n e =
    let p = pass (ltb most m) (out_of_range i) (ok m) n e in
    let same : m ≡ n = ok_is m n p.1 in
    (ap (λ k. Some k) same, subst (λ k. k ≤ most) same (ltb-false most m p.0))

pub at_most_again : (i most n : ℕ) → n ≤ most → at_most i most (Some n) ≡ Ok n
at_most_again i most n small = rw (le-ltb most n small) refl

pub below_is : (i bound : ℕ) (v : Option ℕ) (n : ℕ) → below i bound v ≡ Ok n → (v ≡ Some n) × (n < bound)
below_is i bound None n e = absurd cc
below_is i bound (Some m) n e =
    let p = guard (ltb m bound) (out_of_range i) (ok m) n e in
    let same : m ≡ n = ok_is m n p.1 in
    (ap (λ k. Some k) same, subst (λ k. k < bound) same (ltb-true m bound p.0))

pub below_again : (i bound n : ℕ) → n < bound → below i bound (Some n) ≡ Ok n
below_again i bound n small = rw (lt-ltb n bound small) refl

pub factor_is : (i : ℕ) (v : Option ℕ) (n : ℕ) → factor i v ≡ Ok n → (v ≡ Some n) × IsFactor n
factor_is i None n e = absurd cc
factor_is i (Some m) n e =
    let p = pass (ltb m 1) (out_of_range i) (cond (ltb m (2 ^ 63)) (Ok m) (Err (out_of_range i))) n e in
    let q = guard (ltb m (2 ^ 63)) (out_of_range i) (ok m) n p.1 in
    let same : m ≡ n = ok_is m n q.1 in
    let low : 1 ≤ m = ltb-false m 1 p.0 in
    (ap (λ k. Some k) same, subst IsFactor same (low, ltb-true m (2 ^ 63) q.0))

pub factor_again : (i n : ℕ) → IsFactor n → factor i (Some n) ≡ Ok n
factor_again i n is = rw (le-ltb n 1 is.0, lt-ltb n (2 ^ 63) is.1) refl

value_is : (v : Option ℕ) (n : ℕ) → is_value v n ≡ true → v ≡ Some n
value_is None n e = absurd cc
value_is (Some m) n e = ap (λ k. Some k) (eqb-true m n e)

value_again : (n : ℕ) → is_value (Some n) n ≡ true
value_again n = eq-eqb n n refl

-- ---- lists of values

long_some : (ns : List ℕ) → length (map Some ns) ≡ length ns
long_some [] = refl
long_some (n ∷ ns) = ap suc (long_some ns)

abbrev most_32 : ℕ
most_32 = 2 ^ 32 - 1

each_is : (i : ℕ) (vs : List (Option ℕ)) (ns : List ℕ) → each_at (at_most i most_32) vs ≡ Ok ns → (vs ≡ map Some ns) × All (λ n. n < 2 ^ 32) ns
unfolding each_at
each_is i [] ns e = let none : [] ≡ ns = ok_is [] ns e in subst (λ ms. ([] ≡ map Some ms) × All (λ n. n < 2 ^ 32) ms) none (refl, all_none (λ n. n < 2 ^ 32))
each_is i (v ∷ vs) ns e =
    let a = bind_ok (at_most i most_32 v) (λ y. each_at (at_most i most_32) vs >>= λ ys. Ok (y ∷ ys)) ns e in
    let b = bind_ok (each_at (at_most i most_32) vs) (λ ys. Ok (a.0 ∷ ys)) ns a.2 in
    let first = at_most_is i most_32 v a.0 a.1 in
    let others = each_is i vs b.0 b.1 in
    let value : v ≡ Some a.0 = first.0 in
    let values : vs ≡ map Some b.0 = others.0 in
    let all : v ∷ vs ≡ map Some (a.0 ∷ b.0) = cc in
    subst (λ ms. (v ∷ vs ≡ map Some ms) × All (λ n. n < 2 ^ 32) ms) (ok_is (a.0 ∷ b.0) ns b.2)
    (all, all_cons (λ n. n < 2 ^ 32) a.0 b.0 (omega (arith, first.1)) others.1)

each_again : (i : ℕ) (ns : List ℕ) → All (λ n. n < 2 ^ 32) ns → each_at (at_most i most_32) (map Some ns) ≡ Ok ns
unfolding each_at
each_again i [] small = refl
each_again i (n ∷ ns) small =
    let low : n < 2 ^ 32 = all_first (λ m. m < 2 ^ 32) n ns small in
    rw (at_most_again i most_32 n (omega (arith, low)), each_again i ns (all_rest (λ m. m < 2 ^ 32) n ns small)) refl

wider : (ns : List ℕ) → All (λ n. n < 2 ^ 32) ns → AreSmall ns
wider ns small = λ k d low. let at = small k d low in omega (arith, at)

none_small : AreSmall []
none_small = all_none (λ n. n < 2 ^ 64)

one_small : (n : ℕ) (ns : List ℕ) → n < 2 ^ 64 → AreSmall ns → AreSmall (n ∷ ns)
one_small n ns low small = all_cons (λ m. m < 2 ^ 64) n ns low small

-- ---- forms of a fixed number of values

pub no_is : IsForm no_form (λ u. []) (λ u. Unit {0})
unfolding no_form
no_is = record {
  takes = takes;
  again = λ i x p. refl;
  small = λ x p. none_small;
}
  where
    takes : (i : ℕ) (vs : List (Option ℕ)) (x : Unit {0}) → no_form i vs ≡ Ok x → (vs ≡ map Some []) × Unit {0}
    takes i [] x e = (refl, tt)
    takes i (v ∷ vs) x e = absurd cc

pub just_is : (n : ℕ) → n < 2 ^ 64 → IsForm (just_form n) (λ u. n ∷ []) (λ u. Unit {0})
unfolding just_form
just_is n low = record {
  takes = takes;
  again = λ i x p. rw (value_again n) refl;
  small = λ x p. one_small n [] low none_small;
}
  where
    takes : (i : ℕ) (vs : List (Option ℕ)) (x : Unit {0}) → just_form n i vs ≡ Ok x → (vs ≡ map Some (n ∷ [])) × Unit {0}
    takes i [] x e = absurd cc
    takes i (v ∷ w ∷ vs) x e = absurd cc
    takes i (v ∷ []) x e =
        let g = guard (is_value v n) (syntax i) (ok tt) x e in
        let value : v ≡ Some n = value_is v n g.0 in
        ((cc), tt)

pub one_is : (most : ℕ) → most < 2 ^ 64 → IsForm (one_form most) (λ n. n ∷ []) (λ n. n ≤ most)
unfolding one_form
one_is most low = record {
  takes = takes;
  again = λ i x p. at_most_again i most x p;
  small = λ x p. one_small x [] (omega (arith, low, p)) none_small;
}
  where
    takes : (i : ℕ) (vs : List (Option ℕ)) (x : ℕ) → one_form most i vs ≡ Ok x → (vs ≡ map Some (x ∷ [])) × (x ≤ most)
    takes i [] x e = absurd cc
    takes i (v ∷ w ∷ vs) x e = absurd cc
    takes i (v ∷ []) x e =
        let r = at_most_is i most v x e in
        let value : v ≡ Some x = r.0 in
        ((cc), r.1)

two_values : (v w : Option ℕ) (m n : ℕ) → v ≡ Some m → w ≡ Some n → v ∷ w ∷ [] ≡ map Some (m ∷ n ∷ [])
two_values v w m n p q = cc

pub two_is : (a b : ℕ) → a < 2 ^ 64 → b < 2 ^ 64 → IsForm (two_form a b) (λ p. p.0 ∷ p.1 ∷ []) (λ p. (p.0 ≤ a) × (p.1 ≤ b))
unfolding two_form
two_is a b a_low b_low = record {
  takes = takes;
  again = λ i x p. rw (at_most_again i a x.0 p.0, at_most_again i b x.1 p.1) refl;
  small = λ x p. one_small x.0 (x.1 ∷ []) (omega (arith, a_low, p.0)) (one_small x.1 [] (omega (arith, b_low, p.1)) none_small);
}
  where
    takes : (i : ℕ) (vs : List (Option ℕ)) (x : ℕ × ℕ) → two_form a b i vs ≡ Ok x → (vs ≡ map Some (x.0 ∷ x.1 ∷ [])) × ((x.0 ≤ a) × (x.1 ≤ b))
    takes i [] x e = absurd cc
    takes i (v ∷ []) x e = absurd cc
    takes i (v ∷ w ∷ u ∷ vs) x e = absurd cc
    takes i (v ∷ w ∷ []) x e =
        let m = bind_ok (at_most i a v) (λ m. at_most i b w >>= λ n. Ok (m, n)) x e in
        let n = bind_ok (at_most i b w) (λ n. Ok (m.0, n)) x m.2 in
        let first = at_most_is i a v m.0 m.1 in
        let second = at_most_is i b w n.0 n.1 in
        subst (λ (y : ℕ × ℕ). (v ∷ w ∷ [] ≡ map Some (y.0 ∷ y.1 ∷ [])) × ((y.0 ≤ a) × (y.1 ≤ b))) (ok_is (m.0, n.0) x n.2)
        (two_values v w m.0 n.0 first.0 second.0, (first.1, second.1))

pub edge_is : (nodes e : ℕ) → nodes ≤ 2 ^ 64 → IsForm (edge_form nodes e) (λ p. p.0 ∷ p.1 ∷ []) (IsEdge nodes)
unfolding edge_form
edge_is nodes edge few = record {
  takes = takes;
  again = λ i x p. rw (below_again i nodes x.0 p.0, below_again i nodes x.1 p.1, ne_eqb x.0 x.1 p.2) refl;
  small = λ x p. let first = p.0 in let second = p.1 in one_small x.0 (x.1 ∷ []) (omega (arith, few, first)) (one_small x.1 [] (omega (arith, few, second)) none_small);
}
  where
    takes : (i : ℕ) (vs : List (Option ℕ)) (x : ℕ × ℕ) → edge_form nodes edge i vs ≡ Ok x → (vs ≡ map Some (x.0 ∷ x.1 ∷ [])) × IsEdge nodes x
    takes i [] x e = absurd cc
    takes i (v ∷ []) x e = absurd cc
    takes i (v ∷ w ∷ u ∷ vs) x e = absurd cc
    takes i (v ∷ w ∷ []) x e =
        let m = bind_ok (below i nodes v) (λ m. below i nodes w >>= λ n. cond (eqb m n) (Err (loop_flaw i edge)) (Ok (m, n))) x e in
        let n = bind_ok (below i nodes w) (λ n. cond (eqb m.0 n) (Err (loop_flaw i edge)) (Ok (m.0, n))) x m.2 in
        let apart = pass (eqb m.0 n.0) (loop_flaw i edge) (ok (m.0, n.0)) x n.2 in
        let differ : m.0 ≢ n.0 = λ same. both_ways (eqb m.0 n.0) apart.0 (eq-eqb m.0 n.0 same) in
        let first = below_is i nodes v m.0 m.1 in
        let second = below_is i nodes w n.0 n.1 in
        subst (λ (y : ℕ × ℕ). (v ∷ w ∷ [] ≡ map Some (y.0 ∷ y.1 ∷ [])) × IsEdge nodes y) (ok_is (m.0, n.0) x apart.1)
        (two_values v w m.0 n.0 first.0 second.0, (first.1, second.1, differ))

pub effort_is : IsForm effort_form (λ p. p.0 ∷ p.1 ∷ []) (λ p. (p.0 ≤ p.1) × (p.1 ≤ 200000))
unfolding effort_form
effort_is = record {
  takes = takes;
  again = λ i x p. rw (at_most_again i 200000 x.1 p.1, at_most_again i x.1 x.0 p.0) refl;
  small = λ x p. one_small x.0 (x.1 ∷ []) (omega (arith, p.0, p.1)) (one_small x.1 [] (omega (arith, p.1)) none_small);
}
  where
    takes : (i : ℕ) (vs : List (Option ℕ)) (x : ℕ × ℕ) → effort_form i vs ≡ Ok x → (vs ≡ map Some (x.0 ∷ x.1 ∷ [])) × ((x.0 ≤ x.1) × (x.1 ≤ 200000))
    takes i [] x e = absurd cc
    takes i (v ∷ []) x e = absurd cc
    takes i (v ∷ w ∷ u ∷ vs) x e = absurd cc
    takes i (v ∷ w ∷ []) x e =
        let n = bind_ok (at_most i 200000 w) (λ n. at_most i n v >>= λ m. Ok (m, n)) x e in
        let m = bind_ok (at_most i n.0 v) (λ m. Ok (m, n.0)) x n.2 in
        let second = at_most_is i 200000 w n.0 n.1 in
        let first = at_most_is i n.0 v m.0 m.1 in
        subst (λ (y : ℕ × ℕ). (v ∷ w ∷ [] ≡ map Some (y.0 ∷ y.1 ∷ [])) × ((y.0 ≤ y.1) × (y.1 ≤ 200000))) (ok_is (m.0, n.0) x m.2)
        (two_values v w m.0 n.0 first.0 second.0, (first.1, second.1))

pub edges_is : (m : ℕ) → m ≤ 2 ^ 64 → IsForm (edges_form m) (λ p. p.0 ∷ p.1 ∷ []) (λ p. (p.0 < m) × (p.1 < m))
unfolding edges_form
edges_is edges few = record {
  takes = takes;
  again = λ i x p. rw (below_again i edges x.0 p.0, below_again i edges x.1 p.1) refl;
  small = λ x p. one_small x.0 (x.1 ∷ []) (omega (arith, few, p.0)) (one_small x.1 [] (omega (arith, few, p.1)) none_small);
}
  where
    takes : (i : ℕ) (vs : List (Option ℕ)) (x : ℕ × ℕ) → edges_form edges i vs ≡ Ok x → (vs ≡ map Some (x.0 ∷ x.1 ∷ [])) × ((x.0 < edges) × (x.1 < edges))
    takes i [] x e = absurd cc
    takes i (v ∷ []) x e = absurd cc
    takes i (v ∷ w ∷ u ∷ vs) x e = absurd cc
    takes i (v ∷ w ∷ []) x e =
        let m = bind_ok (below i edges v) (λ m. below i edges w >>= λ n. Ok (m, n)) x e in
        let n = bind_ok (below i edges w) (λ n. Ok (m.0, n)) x m.2 in
        let first = below_is i edges v m.0 m.1 in
        let second = below_is i edges w n.0 n.1 in
        subst (λ (y : ℕ × ℕ). (v ∷ w ∷ [] ≡ map Some (y.0 ∷ y.1 ∷ [])) × ((y.0 < edges) × (y.1 < edges))) (ok_is (m.0, n.0) x n.2)
        (two_values v w m.0 n.0 first.0 second.0, (first.1, second.1))

-- ---- forms of lists

counted_is : (most i : ℕ) (vs rest : List (Option ℕ)) → counted most i vs ≡ Ok rest → (vs ≡ Some (length rest) ∷ rest) × (length rest ≤ most)
unfolding counted
counted_is most i [] rest e = absurd cc
counted_is most i (v ∷ vs) rest e =
    let g = guard (is_value v (length vs)) (syntax i) (cond (ltb most (length vs)) (Err (out_of_range i)) (Ok vs)) rest e in
    let p = pass (ltb most (length vs)) (out_of_range i) (ok vs) rest g.1 in
    let value : v ≡ Some (length vs) = value_is v (length vs) g.0 in
    subst (λ ws. (v ∷ vs ≡ Some (length ws) ∷ ws) × (length ws ≤ most)) (ok_is vs rest p.1) (ap (λ w. w ∷ vs) value, ltb-false most (length vs) p.0)

counted_again : (most i : ℕ) (rest : List (Option ℕ)) → length rest ≤ most → counted most i (Some (length rest) ∷ rest) ≡ Ok rest
unfolding counted
counted_again most i rest few = rw (value_again (length rest), le-ltb most (length rest) few) refl

list_takes : (most i : ℕ) (vs : List (Option ℕ)) (ns : List ℕ) → list_form most i vs ≡ Ok ns → (vs ≡ map Some (length ns ∷ ns)) × IsList most ns
unfolding list_form
list_takes most i vs ns e =
    let r = bind_ok (counted most i vs) (λ rest. each_at (at_most i most_32) rest) ns e in
    let count = counted_is most i vs r.0 r.1 in
    let all = each_is i r.0 ns r.2 in
    let long : length r.0 ≡ length ns = ap length all.0 ∙ long_some ns in
    (count.0 ∙ ap (λ k. Some k ∷ r.0) long ∙ ap (λ ws. Some (length ns) ∷ ws) all.0, (omega (arith, count.1, long), all.1))

list_again : (most i : ℕ) (ns : List ℕ) → IsList most ns → list_form most i (map Some (length ns ∷ ns)) ≡ Ok ns
unfolding list_form
list_again most i ns is =
    let long : length (map Some ns) ≡ length ns = long_some ns in
    let counted : counted most i (Some (length ns) ∷ map Some ns) ≡ Ok (map Some ns) =
    subst (λ k. counted most i (Some k ∷ map Some ns) ≡ Ok (map Some ns)) long (counted_again most i (map Some ns) (omega (arith, long, is.0))) in
    rw counted (each_again i ns is.1)

list_small : (most : ℕ) (ns : List ℕ) → most < 2 ^ 64 → IsList most ns → AreSmall (length ns ∷ ns)
list_small most ns low is = one_small (length ns) ns (omega (arith, low, is.0)) (wider ns is.1)

pub list_is : (most : ℕ) → most < 2 ^ 64 → IsForm (list_form most) (λ ns. length ns ∷ ns) (IsList most)
list_is most low = record { takes = list_takes most; again = list_again most; small = λ ns is. list_small most ns low is }

pub nodes_is : (count : ℕ) → IsForm (nodes_form count) (λ ns. ns) (AreNodes count)
unfolding nodes_form
nodes_is count = record {
  takes = λ i vs ns e.
      let g = guard (eqb (length vs) count) (syntax i) (each_at (at_most i most_32) vs) ns e in
      let all = each_is i vs ns g.1 in
      let long : length vs ≡ count = eqb-true (length vs) count g.0 in
      (all.0, (sym (ap length all.0 ∙ long_some ns) ∙ long, all.1));
  again = λ i ns is. rw (eq-eqb (length (map Some ns)) count (long_some ns ∙ is.0)) (each_again i ns is.1);
  small = λ ns is. wider ns is.1;
}

-- an edge, and a list
abbrev pub IsOver : ℕ × List ℕ → Type 0
IsOver o = (o.0 < 2 ^ 32) × IsList 999 o.1

abbrev pub over_numbers : ℕ × List ℕ → List ℕ
over_numbers o = o.0 ∷ length o.1 ∷ o.1

pub over_is : IsForm over_form over_numbers IsOver
unfolding over_form
over_is = record {
  takes = takes;
  again = λ i o is. let low = is.0 in rw (list_again 999 i o.1 is.1, at_most_again i most_32 o.0 (omega (arith, low))) refl;
  small = λ o is. let low = is.0 in one_small o.0 (length o.1 ∷ o.1) (omega (arith, low)) (list_small 999 o.1 (omega arith) is.1);
}
  where
    takes : (i : ℕ) (vs : List (Option ℕ)) (o : ℕ × List ℕ) → over_form i vs ≡ Ok o → (vs ≡ map Some (over_numbers o)) × IsOver o
    takes i [] o e = absurd cc
    takes i (v ∷ vs) o e =
        let l = bind_ok (list_form 999 i vs) (λ list. at_most i most_32 v >>= λ edge. Ok (edge, list)) o e in
        let n = bind_ok (at_most i most_32 v) (λ edge. Ok (edge, l.0)) o l.2 in
        let list = list_takes 999 i vs l.0 l.1 in
        let edge = at_most_is i most_32 v n.0 n.1 in
        let value : v ≡ Some n.0 = edge.0 in
        let low = edge.1 in
        subst (λ p. (v ∷ vs ≡ map Some (over_numbers p)) × IsOver p) (ok_is (n.0, l.0) o n.2)
        (ap (λ w. w ∷ vs) value ∙ ap (λ ws. Some n.0 ∷ ws) list.0, (omega (arith, low), list.1))

-- ---- leaves

-- a row number and a multiplier
abbrev pub IsPart : ℕ → ℕ × ℕ → Type 0
IsPart rows p = (p.0 < rows) × IsFactor p.1

parts_is : (rows i : ℕ) (vs : List (Option ℕ)) (ps : List (ℕ × ℕ)) → parts_at rows i vs ≡ Ok ps → (vs ≡ map Some (numbers_of ps)) × All (IsPart rows) ps
unfolding parts_at
parts_is rows i [] ps e = let none : [] ≡ ps = ok_is [] ps e in subst (λ qs. ([] ≡ map Some (numbers_of qs)) × All (IsPart rows) qs) none (refl, all_none (IsPart rows))
parts_is rows i (v ∷ []) ps e = absurd cc
parts_is rows i (v ∷ w ∷ vs) ps e =
    let r = bind_ok (below i rows v) (λ row. factor i w >>= λ m. parts_at rows i vs >>= λ rest. Ok ((row, m) ∷ rest)) ps e in
    let f = bind_ok (factor i w) (λ m. parts_at rows i vs >>= λ rest. Ok ((r.0, m) ∷ rest)) ps r.2 in
    let o = bind_ok (parts_at rows i vs) (λ rest. Ok ((r.0, f.0) ∷ rest)) ps f.2 in
    let row = below_is i rows v r.0 r.1 in
    let multiplier = factor_is i w f.0 f.1 in
    let others = parts_is rows i vs o.0 o.1 in
    let first : v ≡ Some r.0 = row.0 in
    let second : w ≡ Some f.0 = multiplier.0 in
    let rest : vs ≡ map Some (numbers_of o.0) = others.0 in
    let all : v ∷ w ∷ vs ≡ Some r.0 ∷ Some f.0 ∷ map Some (numbers_of o.0) = cc in
    subst (λ qs. (v ∷ w ∷ vs ≡ map Some (numbers_of qs)) × All (IsPart rows) qs) (ok_is ((r.0, f.0) ∷ o.0) ps o.2)
    (all, all_cons (IsPart rows) (r.0, f.0) o.0 (row.1, multiplier.1) others.1)

parts_again : (rows i : ℕ) (ps : List (ℕ × ℕ)) → All (IsPart rows) ps → parts_at rows i (map Some (numbers_of ps)) ≡ Ok ps
unfolding parts_at
parts_again rows i [] all = refl
parts_again rows i (p ∷ ps) all =
    let first : IsPart rows p = all_first (IsPart rows) p ps all in
    rw (below_again i rows p.0 first.0, factor_again i p.1 first.1, parts_again rows i ps (all_rest (IsPart rows) p ps all)) refl

length-numbers_of : (ps : List (ℕ × ℕ)) → length (numbers_of ps) ≡ 2 * length ps
length-numbers_of [] = refl
length-numbers_of (p ∷ ps) = let rest = length-numbers_of ps in omega (arith, rest)

numbers_small : (rows : ℕ) (ps : List (ℕ × ℕ)) → rows ≤ 2 ^ 64 → All (IsPart rows) ps → AreSmall (numbers_of ps)
numbers_small rows [] few all = none_small
numbers_small rows (p ∷ ps) few all =
    let first : IsPart rows p = all_first (IsPart rows) p ps all in
    let low = first.0 in
    let factor = first.1.1 in
    one_small p.0 (p.1 ∷ numbers_of ps) (omega (arith, few, low)) (one_small p.1 (numbers_of ps) (omega (arith, factor)) (numbers_small rows ps few (all_rest (IsPart rows) p ps all)))

-- a divisor and parts
abbrev pub IsLeaf : ℕ → ℕ × List (ℕ × ℕ) → Type 0
IsLeaf rows l = IsFactor l.0 × (length l.1 < 2 ^ 32) × All (IsPart rows) l.1

abbrev pub leaf_numbers : ℕ × List (ℕ × ℕ) → List ℕ
leaf_numbers l = l.0 ∷ length l.1 ∷ numbers_of l.1

half_is : (v : Option ℕ) (n : ℕ) (count : ℕ) → v ≡ Some count → is_half v n ≡ true → 2 * count ≡ n
half_is None n count e h = absurd cc
half_is (Some m) n count e h = let same : m ≡ count = cc in let twice = eqb-true (2 * m) n h in omega (arith, same, twice)

pub leaf_is : (rows : ℕ) → rows ≤ 2 ^ 64 → IsForm (leaf_form rows) leaf_numbers (IsLeaf rows)
unfolding leaf_form
leaf_is rows few = record {
  takes = takes;
  again = λ i l is.
      let half : is_half (Some (length l.1)) (length (map Some (numbers_of l.1))) ≡ true = eq-eqb (2 * length l.1) (length (map Some (numbers_of l.1))) (sym (long_some (numbers_of l.1) ∙ length-numbers_of l.1)) in
      let low = is.1 in
      rw (half, at_most_again i most_32 (length l.1) (omega (arith, low)), factor_again i l.0 is.0, parts_again rows i l.1 is.2) refl;
  small = λ l is.
      let divisor = is.0.1 in
      let low = is.1 in
      one_small l.0 (length l.1 ∷ numbers_of l.1) (omega (arith, divisor)) (one_small (length l.1) (numbers_of l.1) (omega (arith, low)) (numbers_small rows l.1 few is.2));
}
  where
    takes : (i : ℕ) (vs : List (Option ℕ)) (l : ℕ × List (ℕ × ℕ)) → leaf_form rows i vs ≡ Ok l → (vs ≡ map Some (leaf_numbers l)) × IsLeaf rows l
    takes i [] l e = absurd cc
    takes i (v ∷ []) l e = absurd cc
    takes i (v ∷ w ∷ vs) l e =
        let g = guard (is_half w (length vs)) (syntax i) (at_most i most_32 w >>= λ count. factor i v >>= λ divisor. parts_at rows i vs >>= λ parts. Ok (divisor, parts)) l e in
        let c = bind_ok (at_most i most_32 w) (λ count. factor i v >>= λ divisor. parts_at rows i vs >>= λ parts. Ok (divisor, parts)) l g.1 in
        let d = bind_ok (factor i v) (λ divisor. parts_at rows i vs >>= λ parts. Ok (divisor, parts)) l c.2 in
        let p = bind_ok (parts_at rows i vs) (λ parts. Ok (d.0, parts)) l d.2 in
        let count = at_most_is i most_32 w c.0 c.1 in
        let divisor = factor_is i v d.0 d.1 in
        let parts = parts_is rows i vs p.0 p.1 in
        let low = count.1 in
        let half = half_is w (length vs) c.0 count.0 g.0 in
        let long : length vs ≡ 2 * length p.0 = ap length parts.0 ∙ long_some (numbers_of p.0) ∙ length-numbers_of p.0 in
        let same : c.0 ≡ length p.0 = omega (arith, half, long) in
        let first : v ≡ Some d.0 = divisor.0 in
        let second : w ≡ Some (length p.0) = count.0 ∙ ap (λ k. Some k) same in
        let rest : vs ≡ map Some (numbers_of p.0) = parts.0 in
        let all : v ∷ w ∷ vs ≡ Some d.0 ∷ Some (length p.0) ∷ map Some (numbers_of p.0) = cc in
        subst (λ k. (v ∷ w ∷ vs ≡ map Some (leaf_numbers k)) × IsLeaf rows k) (ok_is (d.0, p.0) l p.2)
        (all, (divisor.1, omega (arith, low, same), parts.1))
