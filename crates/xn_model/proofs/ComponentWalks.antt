-- Two nodes have one label exactly where a walk of segments joins them.
use Rattle.std.proofs.Common.{◌≡◌, ℕ, ◌*◌, ◌<◌, inl, inr, List, [], ◌∷◌, ◌++◌, length, refl, sym, ◌∙◌, ap, subst, arith, length-append}
use Rattle.std.specs.Prelude.{◌==◌}
use Rattle.std.proofs.lemmas.Bool.{cases_lt, eq-eqb, eqb-true}
use Rattle.std.specs.List.{range_with_len}
use Rattle.std.proofs.lemmas.List.Sums.{fold_push}
use Rattle.std.proofs.lemmas.List.{append_assoc, append-nil}
use Rattle.std.proofs.lemmas.List.FromFn.{get_or-range_with_len}
use Rattle.xn_model.specs.ComponentLaws.{ComponentsAreByWalks, LabelsAreByWalks}
use Rattle.xn_model.specs.Graph.{EndsIn}
use Rattle.xn_model.specs.Lists.{at}
use Rattle.xn_model.specs.Map.{Joined, WalksTo, component_labels, join_components, relabel, reverse_of, tail_of}
use Rattle.xn_model.proofs.Components.{at-join_components, cases_relabel, IsLabelling-components, EndsIn-front, components_reverse}
use Rattle.xn_model.proofs.Darts.{reverse-even, reverse-reverse, reverse_below, tail-push, tail-push_even, tail-push_odd}

walk_on : (ends : List (ℕ × ℕ)) (u v w : ℕ) (ds es : List ℕ) → WalksTo ends u ds v → WalksTo ends v es w → WalksTo ends u (ds ++ es) w
walk_on ends u v w [] es one two = let P : ℕ → Type 0 = λ x. WalksTo ends x es w in subst P (sym one) two
walk_on ends u v w (d ∷ ds) es one two = (one.0, one.1, walk_on ends (tail_of ends (reverse_of d)) v w ds es one.2 two)

pub joined_trans : (ends : List (ℕ × ℕ)) (u v w : ℕ) → Joined ends u v → Joined ends v w → Joined ends u w
joined_trans ends u v w one two = (one.0 ++ two.0, walk_on ends u v w one.0 two.0 one.1 two.1)

-- one dart
pub joined_dart : (ends : List (ℕ × ℕ)) (d : ℕ) → d < 2 * length ends → Joined ends (tail_of ends d) (tail_of ends (reverse_of d))
joined_dart ends d d_in = (d ∷ [], (d_in, refl, refl))

walk_back : (ends : List (ℕ × ℕ)) (u v : ℕ) (ds : List ℕ) → WalksTo ends u ds v → Joined ends v u
walk_back ends u v [] walk = ([], sym walk)
walk_back ends u v (d ∷ ds) walk =
    let h = tail_of ends (reverse_of d) in
    let rest = walk_back ends h v ds walk.2 in
    let r_in = reverse_below (length ends) d walk.0 in
    let one : WalksTo ends h (reverse_of d ∷ []) u = (r_in, refl, ap (tail_of ends) (reverse-reverse d) ∙ walk.1) in
    joined_trans ends v h u rest (reverse_of d ∷ [], one)

pub joined_sym : (ends : List (ℕ × ℕ)) (u v : ℕ) → Joined ends u v → Joined ends v u
joined_sym ends u v there = walk_back ends u v there.0 there.1

-- a walk is a walk of more segments too
walk_more : (ends : List (ℕ × ℕ)) (p : ℕ × ℕ) (u v : ℕ) (ds : List ℕ) → WalksTo ends u ds v → WalksTo (ends ++ p ∷ []) u ds v
walk_more ends p u v [] walk = walk
walk_more ends p u v (d ∷ ds) walk =
    let len = length-append ends (p ∷ []) in
    let head : tail_of (ends ++ p ∷ []) (reverse_of d) ≡ tail_of ends (reverse_of d) = tail-push ends p (reverse_of d) (reverse_below (length ends) d walk.0) in
    let P : ℕ → Type 0 = λ x. WalksTo (ends ++ p ∷ []) x ds v in (
      omega (arith, walk.0, len),
      tail-push ends p d walk.0 ∙ walk.1,
      subst P (sym head) (walk_more ends p (tail_of ends (reverse_of d)) v ds walk.2),
    )

pub joined_more : (ends : List (ℕ × ℕ)) (p : ℕ × ℕ) (u v : ℕ) → Joined ends u v → Joined (ends ++ p ∷ []) u v
joined_more ends p u v there = (there.0, walk_more ends p u v there.0 there.1)

-- the last segment joins its ends
pub joined_last : (ends : List (ℕ × ℕ)) (p : ℕ × ℕ) → Joined (ends ++ p ∷ []) p.0 p.1
joined_last ends p =
    let len = length-append ends (p ∷ []) in
    let d = 2 * length ends in (
      d ∷ [],
      (
        omega (arith, len),
        tail-push_even ends p,
        ap (tail_of (ends ++ p ∷ [])) (reverse-even (length ends)) ∙ tail-push_odd ends p,
      ),
    )

-- a walk keeps the label
same_label : (nodes : ℕ) (ends : List (ℕ × ℕ)) → EndsIn nodes ends → (u v : ℕ) (ds : List ℕ) → WalksTo ends u ds v → at (component_labels nodes ends) u ≡ at (component_labels nodes ends) v
same_label nodes ends h u v [] walk = ap (at (component_labels nodes ends)) walk
same_label nodes ends h u v (d ∷ ds) walk =
    ap (at (component_labels nodes ends)) (sym walk.1) ∙ sym (components_reverse nodes ends h d walk.0) ∙ same_label nodes ends h (tail_of ends (reverse_of d)) v ds walk.2

pub label_from_joined : (nodes : ℕ) (ends : List (ℕ × ℕ)) → EndsIn nodes ends → (u v : ℕ) → Joined ends u v → at (component_labels nodes ends) u ≡ at (component_labels nodes ends) v
label_from_joined nodes ends h u v there = same_label nodes ends h u v there.0 there.1

-- each node is joined to its label
abbrev pub ToLabel : ℕ → List (ℕ × ℕ) → Type 0
ToLabel nodes ends = EndsIn nodes ends → (w : ℕ) → w < nodes → Joined ends w (at (component_labels nodes ends) w)

-- a list is built from its front
from_front : (P : List (ℕ × ℕ) → Type 0) → ((ends : List (ℕ × ℕ)) (p : ℕ × ℕ) → P ends → P (ends ++ p ∷ [])) → (done rest : List (ℕ × ℕ)) → P done → P (done ++ rest)
from_front P more done [] here = subst P (sym (append-nil done)) here
from_front P more done (p ∷ rest) here =
    subst P (append_assoc done (p ∷ []) rest) (from_front P more (done ++ p ∷ []) rest (more done p here))

module _ (nodes : ℕ) where
  start : ToLabel nodes []
  start h w below = let e : at (range_with_len 0 nodes) w ≡ w = get_or-range_with_len 0 nodes w 0 below ∙ omega arith in ([], sym e)

  one_more : (ends : List (ℕ × ℕ)) (p : ℕ × ℕ) → ToLabel nodes ends → ToLabel nodes (ends ++ p ∷ [])
  one_more ends p here h w below =
      let front = EndsIn-front nodes ends p h in
      let labels = component_labels nodes ends in
      let a = at labels p.0 in
      let b = at labels p.1 in
      let old = IsLabelling-components nodes ends front.0 in
      let more = ends ++ p ∷ [] in
      let new : at (component_labels nodes more) w ≡ relabel a b (at labels w) =
      ap (λ l. at l w) (fold_push join_components (range_with_len 0 nodes) ends p) ∙ at-join_components labels p w (omega (arith, below, old.len)) in
      let P : ℕ → Type 0 = λ x. Joined more w x in
      let w_to = joined_more ends p w (at labels w) (here front.0 w below) in
      let u_to = joined_more ends p p.0 a (here front.0 p.0 front.1) in
      let v_to = joined_more ends p p.1 b (here front.0 p.1 front.2) in
      let last = joined_last ends p in
      elim (cases_relabel a b (at labels w)) [
        | inr keeps ↦ subst P (sym (new ∙ keeps.1)) w_to
        | inl moves ↦ elim (cases_lt a b) [
          | inl low ↦
              let at_b : at labels w ≡ b = omega (arith, moves.0) in
              let to_a : at (component_labels nodes more) w ≡ a = omega (arith, new, moves.1) in
              let w_to_b = subst P at_b w_to in
              let b_to_v = joined_sym more p.1 b v_to in
              let v_to_u = joined_sym more p.0 p.1 last in
              subst P (sym to_a) (joined_trans more w b a w_to_b (joined_trans more b p.1 a b_to_v (joined_trans more p.1 p.0 a v_to_u u_to)))
          | inr high ↦
              let at_a : at labels w ≡ a = omega (arith, moves.0) in
              let to_b : at (component_labels nodes more) w ≡ b = omega (arith, new, moves.1) in
              let w_to_a = subst P at_a w_to in
              let a_to_u = joined_sym more p.0 a u_to in
              subst P (sym to_b) (joined_trans more w a b w_to_a (joined_trans more a p.0 b a_to_u (joined_trans more p.0 p.1 b last v_to)))
        ]
      ]

  pub joined_to_label : (ends : List (ℕ × ℕ)) → ToLabel nodes ends
  joined_to_label ends = from_front (ToLabel nodes) one_more [] ends start

  pub joined_from_label : (ends : List (ℕ × ℕ)) → EndsIn nodes ends → (u v : ℕ) → u < nodes → v < nodes → at (component_labels nodes ends) u ≡ at (component_labels nodes ends) v → Joined ends u v
  joined_from_label ends h u v u_in v_in same =
      let P : ℕ → Type 0 = λ x. Joined ends u x in
      joined_trans ends u (at (component_labels nodes ends) v) v (subst P same (joined_to_label ends h u u_in))
      (joined_sym ends v (at (component_labels nodes ends) v) (joined_to_label ends h v v_in))

pub labels_are_by_walks : LabelsAreByWalks
labels_are_by_walks nodes ends h u v u_in v_in =
    (joined_from_label nodes ends h u v u_in v_in, label_from_joined nodes ends h u v)

-- the count by labels is the count by walks
pub components_are_by_walks : ComponentsAreByWalks
components_are_by_walks nodes ends h =
    let labels = component_labels nodes ends in
    let low = (IsLabelling-components nodes ends h).low in
    record {
      leads = λ v. at labels v == v;
      exactly = λ v v_in. (
        λ own u walk. elim (cases_lt u nodes) [
          | inl u_in ↦ omega (arith, eqb-true (at labels v) v own, label_from_joined nodes ends h v u walk, low u u_in)
          | inr far ↦ omega (arith, v_in, far)
        ],
        λ leads. let least = leads (at labels v) (joined_to_label nodes ends h v v_in) in
            let same : at labels v ≡ v = omega (arith, least, low v v_in) in eq-eqb (at labels v) v same,
      );
      counted = refl;
    }
