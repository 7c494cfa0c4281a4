use Rattle.std.proofs.Common.{◌≡◌, ◌-◌, suc, sym, subst, arith}
use Rattle.xn_planar.specs.Leaving.{AreLeft, IsLeastFront}
use Rattle.xn_planar.proofs.Dropped.{left_down, left_more}
use Rattle.xn_planar.proofs.shrinking.keep_one.Goals as goal

pub returns-then-least-eq0-clause-left : goal.returns-then-least-eq0-clause-left
returns-then-least-eq0-clause-left c =
    let web = c.args.web.now in
    let kept = c.args.kept.now.items in
    let least = c.in_ok-least.least in
    let is : least ≡ 0 = omega (arith, c.if-least-eq0.true) in
    let front = subst (λ xs. IsLeastFront web xs c.args.front least) c.deref.ensures.value c.in_ok-least.ensures in
    subst (λ r. AreLeft web r kept) is (left_down web c.args.front kept c.requires.left least c.flat_webs.ensures.some front)

pub returns-clause-left : goal.returns-clause-left
returns-clause-left c =
    let web = c.args.web.now in
    let kept = c.args.kept.now.items in
    let least = c.in_ok-least.least in
    let is : suc (least - 1) ≡ least = omega (arith, c.if-least-eq0.false) in
    let front = subst (λ xs. IsLeastFront web xs c.args.front least) c.deref.ensures.value c.in_ok-least.ensures in
    let down = left_down web c.args.front kept c.requires.left least c.flat_webs.ensures.some front in
    let more = left_more web (least - 1) kept (subst (λ r. AreLeft web r kept) (sym is) down) (front.less (least - 1) is) in
    subst (AreLeft web (least - 1)) (sym c.in_ok-insert.ensures.items) more
