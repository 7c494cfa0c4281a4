-- Webs whose segments become walks of each other have as many components as each other.
use Rattle.std.proofs.Common.{◌≡◌, ℕ, ◌*◌, ◌<◌, eqb, List, [], ◌∷◌, length, sym, ◌∙◌, ap, subst, arith}
use Rattle.std.proofs.lemmas.Bool.{eq-eqb, eqb-true}
use Rattle.xn_model.specs.Graph.{EndsIn}
use Rattle.xn_model.specs.Lists.{at}
use Rattle.xn_model.specs.Map.{component_count, component_labels, reverse_of, tail_of, WalksTo, Joined}
use Rattle.xn_model.proofs.ComponentWalks.{joined_sym, joined_trans, joined_to_label, label_from_joined}
use Rattle.xn_model.proofs.Components.{IsLabelling-components}
use Rattle.xn_ring.proofs.Transfer.{PicksOne, classes_transfer}

-- one node of each component is its own label
pub PicksOne-components : (nodes : ℕ) (ends : List (ℕ × ℕ)) → EndsIn nodes ends → PicksOne nodes (Joined ends) (λ w. eqb (at (component_labels nodes ends) w) w)
PicksOne-components nodes ends h =
    let labels = component_labels nodes ends in
    let old = IsLabelling-components nodes ends h in
    record {
      turned = λ a b a_in b_in there. joined_sym ends a b there;
      further = λ a b c one two. joined_trans ends a b c one two;
      pick = λ d d_in. (at labels d, omega (arith, old.low d d_in), eq-eqb _ _ (old.again d d_in), joined_to_label nodes ends h d d_in);
      single = λ a b a_in b_in own_a own_b there. sym (eqb-true _ _ own_a) ∙ label_from_joined nodes ends h a b there ∙ eqb-true _ _ own_b;
    }

-- where each segment becomes a walk, each walk does
pub joined_sent : (ends ends' : List (ℕ × ℕ)) (g : ℕ → ℕ) → ((d : ℕ) → d < 2 * length ends → Joined ends' (g (tail_of ends d)) (g (tail_of ends (reverse_of d))))
    → (u v : ℕ) (ds : List ℕ) → WalksTo ends u ds v → Joined ends' (g u) (g v)
joined_sent ends ends' g step u v [] walk = ([], ap g walk)
joined_sent ends ends' g step u v (d ∷ ds) walk =
    let head = tail_of ends (reverse_of d) in
    let P : ℕ → Type 0 = λ x. Joined ends' (g x) (g head) in
    joined_trans ends' (g u) (g head) (g v) (subst P walk.1 (step d walk.0)) (joined_sent ends ends' g step head v ds walk.2)

pub component_count-transfer : (n k : ℕ) (ends ends' : List (ℕ × ℕ)) (g h : ℕ → ℕ) → EndsIn n ends → EndsIn k ends'
    → ((w : ℕ) → w < n → g w < k) → ((w : ℕ) → w < k → h w < n)
    → ((d : ℕ) → d < 2 * length ends → Joined ends' (g (tail_of ends d)) (g (tail_of ends (reverse_of d))))
    → ((d : ℕ) → d < 2 * length ends' → Joined ends (h (tail_of ends' d)) (h (tail_of ends' (reverse_of d))))
    → ((w : ℕ) → w < n → Joined ends w (h (g w))) → ((w : ℕ) → w < k → Joined ends' w (g (h w)))
    → component_count n ends ≡ component_count k ends'
component_count-transfer n k ends ends' g h in_one in_two g_in h_in there back round_one round_two =
    classes_transfer n k (Joined ends) (Joined ends') _ _ g h (PicksOne-components n ends in_one) (PicksOne-components k ends' in_two) g_in h_in
    (λ a b a_in b_in w. joined_sent ends ends' g there a b w.0 w.1)
    (λ a b a_in b_in w. joined_sent ends' ends h back a b w.0 w.1)
    round_one round_two
