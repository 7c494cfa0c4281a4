use Rattle.std.proofs.Common.{◌≡◌, ◌+◌, ◌/◌, ◌∙◌, ◌++◌, [], ◌∷◌, ℕ, List, length, sym, ap, ap₂, subst, arith}
use Rattle.std.specs.Prelude.{Some}
use Rattle.xn_model.specs.Map.{reverse_of, tail_of}
use Rattle.xn_kura.proofs.Tracing.{IsOnPath, ends_here, goes_on, next_node, star_count, straight_short}
use Rattle.xn_model.specs.Loose.{dart_count}
use Rattle.xn_kura.proofs.traces.follow.Goals as goal

pub other_dart-dart-requires-clause-two : goal.other_dart-dart-requires-clause-two
other_dart-dart-requires-clause-two c =
    let x = c.tail-end.result in
    ap (dart_count c.args.web.now.ends) (sym c.tail-end.ensures.value)
    ∙ sym (star_count c.args.web.now c.args.stars.now x c.at.result.now c.requires.stars c.at.ensures) ∙ c.if-at-ne2.false

pub loop-preserved : goal.loop-preserved
loop-preserved c =
    let ends = c.args.web.now.ends in
    let dart = c.loop.dart in
    let k = c.loop.counter in
    let x = c.tail-end.result in
    let two : dart_count ends x ≡ 2 =
    sym (star_count c.args.web.now c.args.stars.now x c.at.result.now c.requires.stars c.at.ensures) ∙ c.if-at-ne2.false in
    let at_next : dart_count ends (tail_of ends (reverse_of dart)) ≡ 2 = ap (dart_count ends) (sym c.tail-end.ensures.value) ∙ two in
    record {
      dart = c.other_dart-dart.ensures.below;
      on = λ u path v straight from.
          let on = c.loop.invariant.on u path v straight from in
          let next = next_node ends path v k dart c.loop.path.items on in
          let g = goes_on ends path v k dart c.loop.path.items on straight.once straight.stops (ap (dart_count ends) (sym next) ∙ at_next) in
          let is : c.other_dart-dart.result ≡ g.0 = c.other_dart-dart.ensures.other g.0 g.1 g.2 g.3 in
          let items : c.push.new.self.items ≡ c.loop.path.items ++ (dart / 2) ∷ [] = c.in_ok-push.ensures.items in
          let P : ℕ → Type 0 = λ z. IsOnPath ends path v (k + 1) z (c.loop.path.items ++ (dart / 2) ∷ []) in
          let Q : List ℕ → Type 0 = λ xs. IsOnPath ends path v (k + 1) c.other_dart-dart.result xs in
          subst Q (sym items) (subst P (sym is) g.4);
    }

pub returns-then-at-ne2 : goal.returns-then-at-ne2
returns-then-at-ne2 c u path v straight from =
    let ends = c.args.web.now.ends in
    let dart = c.loop.dart in
    let x = c.tail-end.result in
    let on = c.loop.invariant.on u path v straight from in
    let next = next_node ends path v c.loop.counter dart c.loop.path.items on in
    let counted : length c.at.result.now ≡ dart_count ends x =
    star_count c.args.web.now c.args.stars.now x c.at.result.now c.requires.stars c.at.ensures in
    let x_is = c.tail-end.ensures.value ∙ next in
    let done = ends_here ends path v c.loop.counter dart c.loop.path.items on (λ e. c.if-at-ne2.true (counted ∙ ap (dart_count ends) x_is ∙ e)) in
    let items : c.push.new.self.items ≡ path = c.in_ok-push.ensures.items ∙ done.1 in
    ap₂ (λ (a : ℕ) (b : List ℕ). Some (a, b)) (x_is ∙ done.0) items

pub returns : goal.returns
returns c u path v straight from =
    let on = c.loop.invariant.on u path v straight from in
    absurd (omega (arith, on.before, straight_short c.args.web.now.ends u path v straight, c.loop-test.false, c.segments-end.ensures.value))
