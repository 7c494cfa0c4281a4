use Rattle.std.proofs.Common.{◌≡◌, ◌∙◌, ◌+◌, ◌-◌, ◌*◌, ◌<◌, ℕ, ap, arith, length, set, subst, suc, sym}
use Rattle.xn_model.specs.Graph.{Graph}
use Rattle.xn_model.proofs.Darts.{tail-even, tail-odd}
use Rattle.xn_map.specs.Anchored.{AreAnchors, OutlastsAt, dart_renamed}
use Rattle.xn_map.proofs.Anchoring.{anchors_shorter}
use Rattle.xn_map.proofs.anchored.Anchored.remove_segment.Goals as goal

pub invariant_of-self : goal.invariant_of-self
invariant_of-self c =
    let web = c.self.inside.web in
    let s = c.args.s in
    let last = c.segments-last.result - 1 in
    let size = ap (λ w. length w.ends) c.self.view_is in
    let s_in : s < length web.ends = omega (arith, c.requires.segment, size) in
    let last_is : suc last ≡ length web.ends = omega (arith, s_in, c.segments-last.ensures.value) in
    let F : Graph → Type 0 = λ w. OutlastsAt w.ends s (2 * s) c.args.first in
    let S : Graph → Type 0 = λ w. OutlastsAt w.ends s (2 * s + 1) c.args.second in
    let u = c.end-u.result.0 in
    let v = c.end-u.result.1 in
    let x = c.end-x.result.0 in
    let y = c.end-x.result.1 in
    let two = set (set c.self.inside.darts.items x (2 * s)) y (2 * s + 1) in
    let P : ℕ → ℕ → Type 0 = λ a b. AreAnchors c.remove_segment.new.self (set (set two u a) v b) in
    subst (λ (a : ℕ). P a c.renamed-2.result) (sym c.renamed.ensures)
    (subst (λ (b : ℕ). P (dart_renamed s last c.args.first) b) (sym c.renamed-2.ensures)
    (anchors_shorter web c.remove_segment.new.self c.self.inside.darts.items s last c.args.first c.args.second c.self.invariant c.segments-last.ensures.limited.ends_in s_in last_is
    (subst F (sym c.self.view_is) c.requires.first) (subst S (sym c.self.view_is) c.requires.second) c.remove_segment.ensures u v x y
    (ap (λ p. p.0) c.end-u.ensures.value ∙ sym (tail-even web.ends s)) (ap (λ p. p.1) c.end-u.ensures.value ∙ sym (tail-odd web.ends s))
    (ap (λ p. p.0) c.end-x.ensures.value ∙ sym (tail-even web.ends last)) (ap (λ p. p.1) c.end-x.ensures.value ∙ sym (tail-odd web.ends last))))
