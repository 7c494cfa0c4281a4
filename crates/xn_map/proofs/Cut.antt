-- What it leaves to split a node.
use Rattle.std.proofs.Common.{◌≡◌, ◌≢◌, ℕ, suc, ◌+◌, ◌*◌, ◌<◌, inl, inr, cond, eqb, List, length, refl, sym, ◌∙◌, ap, subst, arith}
use Rattle.std.proofs.lemmas.Bool.{cases_eq, cond-true, cond-false, eq-eqb, ne_eqb}
use Rattle.xn_model.specs.Graph.{Graph}
use Rattle.xn_model.specs.Lists.{at}
use Rattle.xn_model.specs.Map.{IsMap, tail_of}
use Rattle.xn_model.specs.Permutation.{IsSplice}
use Rattle.xn_graph.specs.Limits.{graph_of}
use Rattle.xn_surgery.specs.Splitting.{IsSplit}
use Rattle.xn_map.specs.Cutting.{MovesArc, Splits}
use Rattle.xn_map.specs.Listed.{IsListedMap, ListedMap, map_of}
use Rattle.xn_surgery.proofs.Split.{map_split}

-- c is what leads to a, and e what leads to b
module _ (m : ListedMap) (listed : IsListedMap m) (a b c e : ℕ) (a_in : a < length m.next) (b_in : b < length m.next) (differ : a ≢ b)
    (one_node : tail_of m.web.ends a ≡ tail_of m.web.ends b) (c_in : c < length m.next) (e_in : e < length m.next) (c_leads : at m.next c ≡ a) (e_leads : at m.next e ≡ b)
    (v : ℕ) (v_is : v ≡ m.web.nodes) (wider web : Graph) (wider_is : wider ≡ graph_of (m.web.nodes + 1) m.web.ends) (arc : MovesArc (at m.next) a b v wider web)
    (next : List ℕ) (same_length : length next ≡ length m.next) (swap : IsSplice (length m.next) c e (at m.next) (at next)) where
  same_ends : wider.ends ≡ m.web.ends
  same_ends = ap (λ w. w.ends) wider_is

  wide : (d : ℕ) → d < 2 * length m.web.ends → d < 2 * length wider.ends
  wide d d_in = let same = ap length same_ends in omega (arith, d_in, same)

  abbrev turned : ℕ → ℕ
  turned x = cond (eqb x a) b (cond (eqb x b) a x)

  turned_b : turned b ≡ a
  turned_b = cond-false _ _ _ (ne_eqb b a (λ same. differ (sym same))) ∙ cond-true _ _ _ (eq-eqb b b refl)

  turns : (d : ℕ) → d < 2 * length m.web.ends → at next d ≡ turned (at m.next d)
  turns d d_in =
      let d_low : d < length m.next = omega (arith, d_in, listed.fits) in
      let P : ℕ → ℕ → Type 0 = λ i j. at m.next i ≡ at m.next j → i ≡ j in
      let apart : (j : ℕ) → j < length m.next → P d j = λ j j_in. listed.is_map.permutes.apart d j d_in (omega (arith, j_in, listed.fits)) in
      elim (cases_eq d c) [
        | inl at_c ↦ ap (at next) at_c ∙ swap.first ∙ e_leads ∙ sym (ap (λ z. turned (at m.next z)) at_c ∙ ap turned c_leads ∙ cond-true _ _ _ (eq-eqb a a refl))
        | inr not_c ↦ elim (cases_eq d e) [
          | inl at_e ↦ ap (at next) at_e ∙ swap.second ∙ c_leads ∙ sym (ap (λ z. turned (at m.next z)) at_e ∙ ap turned e_leads ∙ turned_b)
          | inr not_e ↦
              let not_a : at m.next d ≢ a = λ same. not_c (apart c c_in (same ∙ sym c_leads)) in
              let not_b : at m.next d ≢ b = λ same. not_e (apart e e_in (same ∙ sym e_leads)) in
              swap.others d d_low not_c not_e ∙ sym (cond-false _ _ _ (ne_eqb _ a not_a) ∙ cond-false _ _ _ (ne_eqb _ b not_b))
        ]
      ]

  split : IsSplit m.web.nodes m.web.ends (at m.next) a b web.ends (at next)
  split = record {
    first_in = omega (arith, a_in, listed.fits);
    second_in = omega (arith, b_in, listed.fits);
    differ = differ;
    one_node = one_node;
    all = arc.same_length ∙ ap length same_ends;
    moved = λ d d_in there. arc.moved d (wide d d_in) there ∙ v_is;
    stayed = λ d d_in away. arc.stayed d (wide d d_in) away ∙ ap (λ ends. tail_of ends d) same_ends;
    turns = turns;
  }

  nodes_more : web.nodes ≡ m.web.nodes + 1
  nodes_more = arc.same_nodes ∙ ap (λ w. w.nodes) wider_is

  splits : Splits m a b (map_of web next)
  splits = (nodes_more, split)

  split_listed : IsListedMap (map_of web next)
  split_listed =
      let P : ℕ → Type 0 = λ k. IsMap k web.ends (at next) in
      let more : suc m.web.nodes ≡ web.nodes = omega (arith, nodes_more) in
      record {
        fits = omega (arith, same_length, listed.fits, split.all);
        is_map = subst P more (map_split m.web.nodes a b m.web.ends web.ends (at m.next) (at next) listed.is_map split);
      }

-- what cut_node leaves of the map now
pub record NodeCut (now : ListedMap) (a b : ℕ) (new : ListedMap) : Type 0 where
  pub splits : Splits now a b new
  pub listed : IsListedMap new

pub node_cut : (old now : ListedMap) → old ≡ now → IsListedMap old → (a b c e : ℕ) → a < length now.next → b < length now.next → a ≢ b → tail_of now.web.ends a ≡ tail_of now.web.ends b →
    c < length old.next → e < length old.next → at old.next c ≡ a → at old.next e ≡ b → (v : ℕ) → v ≡ old.web.nodes → (wider web : Graph) →
    wider ≡ graph_of (old.web.nodes + 1) old.web.ends → MovesArc (at old.next) a b v wider web → (next : List ℕ) → length next ≡ length old.next →
    IsSplice (length old.next) c e (at old.next) (at next) → NodeCut now a b (map_of web next)
node_cut old now view listed a b c e a_in b_in differ one_node c_in e_in c_leads e_leads v v_is wider web wider_is arc next same_length swap =
    let E : ListedMap → Type 0 = λ m. NodeCut m a b (map_of web next) in
    let A : ListedMap → Type 0 = λ m. a < length m.next in
    let B : ListedMap → Type 0 = λ m. b < length m.next in
    let T : ListedMap → Type 0 = λ m. tail_of m.web.ends a ≡ tail_of m.web.ends b in
    let a_old = subst A (sym view) a_in in
    let b_old = subst B (sym view) b_in in
    let one_old = subst T (sym view) one_node in
    subst E view record {
      splits = splits old listed a b c e a_old b_old differ one_old c_in e_in c_leads e_leads v v_is wider web wider_is arc next same_length swap;
      listed = split_listed old listed a b c e a_old b_old differ one_old c_in e_in c_leads e_leads v v_is wider web wider_is arc next same_length swap;
    }
