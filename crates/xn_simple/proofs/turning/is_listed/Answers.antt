use Rattle.std.proofs.Common.{◌≡◌, false, ◌&&◌, eqb, ltb, length, sym, ◌∙◌, ap}
use Rattle.std.proofs.lemmas.Bool.{and_left, le-ltb, lt-ltb}
use Rattle.xn_model.specs.Lists.{at}
use Rattle.xn_simple.proofs.Turns.{listed_is}
use Rattle.xn_simple.proofs.turning.is_listed.Goals as goal

pub returns-then-x-starts : goal.returns-then-x-starts
returns-then-x-starts c =
    let starts = c.args.starts.now in
    let x = at c.args.places.now c.args.d in
    ap (λ b. b && eqb (at starts x) c.args.d) (sym (lt-ltb x (length starts) c.if-x-starts.true)) ∙ listed_is starts c.args.places.now c.args.d c.requires.places

pub returns-else-x-starts : goal.returns-else-x-starts
returns-else-x-starts c =
    let starts = c.args.starts.now in
    let x = at c.args.places.now c.args.d in
    let past : ltb x (length starts) ≡ false = le-ltb x (length starts) c.if-x-starts.false in
    past ∙ sym (and_left _ (eqb (at starts x) c.args.d) past) ∙ listed_is starts c.args.places.now c.args.d c.requires.places
