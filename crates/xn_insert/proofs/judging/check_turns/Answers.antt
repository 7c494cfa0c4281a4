use Rattle.std.proofs.Common.{◌≡◌, ℕ, ◌<◌, ◌≤◌, Bool, List, ◌∙◌, subst}
use Rattle.xn_model.specs.Graph.{Graph}
use Rattle.xn_insert.specs.Judged.{IsFirstFailing, IsUnmarkedFour}
use Rattle.xn_insert.proofs.JudgedSteps.{all_cross, first_failing}
use Rattle.xn_insert.proofs.judging.check_turns.Goals as goal

-- what is found of stars and marks holds of what they are copies of
as_found : (P : ℕ → Graph → List Bool → Type 0) (n k : ℕ) (stars web : Graph) (seen marks : List Bool) → n ≡ k → stars ≡ web → seen ≡ marks → P n stars seen → P k web marks
as_found P n k stars web seen marks nodes same copied is =
    subst (λ x. P x web marks) nodes (subst (λ w. P n w marks) same (subst (P n stars) copied is))

pub returns-in-None : goal.returns-in-None
returns-in-None c =
    let g = c.args.graph.now in
    let m = c.args.map.now in
    let marks = c.in_ok-bends.bends.items in
    all_cross g m c.args.walks.now c.requires.has_walks.sizes.one_each marks c.in_ok-bends.ensures c.requires
    (as_found (λ n web bends. (v : ℕ) → n ≤ v → v < web.nodes → IsUnmarkedFour web.ends bends v) c.nodes.result g.nodes c.in_ok-stars.stars m.web c.deref.result.now marks
    c.nodes.ensures.value (c.in_ok-stars.ensures ∙ c.web.ensures.value) c.deref.ensures.value c.in-None.ensures)

pub returns : goal.returns
returns c =
    let g = c.args.graph.now in
    let m = c.args.map.now in
    let v = c.in-Some.v in
    let marks = c.in_ok-bends.bends.items in
    let first : (v < m.web.nodes) × IsFirstFailing g.nodes (IsUnmarkedFour m.web.ends marks) v =
    as_found (λ n web bends. (v < web.nodes) × IsFirstFailing n (IsUnmarkedFour web.ends bends) v) c.nodes.result g.nodes c.in_ok-stars.stars m.web c.deref.result.now marks
    c.nodes.ensures.value (c.in_ok-stars.ensures ∙ c.web.ensures.value) c.deref.ensures.value c.in-Some.ensures in
    (c.requires, first.0, first_failing g m c.args.walks.now c.requires.has_walks.sizes.one_each marks c.in_ok-bends.ensures v first.0 first.1)
