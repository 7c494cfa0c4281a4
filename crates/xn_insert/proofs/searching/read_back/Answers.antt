use Rattle.std.proofs.Common.{◌≡◌, ◌-◌, ◌++◌, [], ℕ, length, refl, sym, ap, subst, arith}
use Rattle.std.proofs.lemmas.List.{append-nil, length_push}
use Rattle.xn_model.specs.Lists.{at}
use Rattle.xn_model.specs.Map.{reverse_of}
use Rattle.xn_insert.specs.Search.{ChainEnds, IsChain, Over}
use Rattle.xn_insert.proofs.Fronts.{chain_in, chain_step, ends_step, over_step, reverse_in}
use Rattle.xn_insert.proofs.searching.read_back.Goals as goal

pub loop-init : goal.loop-init
loop-init c =
    let names = c.args.names.now in
    let by = c.args.by.now in
    let face = c.args.face in
    let none = c.new-darts.ensures.items in
    let all : c.args.steps ≡ c.args.steps - 0 = omega arith in
    record {
      size = ap length none;
      chain = subst (λ k. IsChain names by k face) all c.requires.chain;
      over = λ ds y over. subst (λ l. Over names face (l ++ ds) y) (sym none) over;
      ends = λ y ends. subst (λ k. ChainEnds names by k face y) (sym all) ends;
    }

pub bounds-by-x : goal.bounds-by-x
bounds-by-x c =
    let names = c.args.names.now in
    let by = c.args.by.now in
    let x_in = chain_in names by (c.args.steps - c.loop.counter) c.loop.x c.loop.invariant.chain in
    omega (arith, x_in, c.requires.size)

pub bounds-names-d : goal.bounds-names-d
bounds-names-d c =
    let names = c.args.names.now in
    let by = c.args.by.now in
    let x = c.loop.x in
    let step = chain_step names by c.args.steps c.loop.counter c.args.face x c.loop-test.true c.loop.invariant.chain in
    reverse_in (length names) (at by x) c.requires.even step.1

pub loop-preserved : goal.loop-preserved
loop-preserved c =
    let names = c.args.names.now in
    let by = c.args.by.now in
    let steps = c.args.steps in
    let face = c.args.face in
    let x = c.loop.x in
    let k = c.loop.counter in
    let darts = c.loop.darts.items in
    let now = c.loop.invariant in
    let more = c.in_ok-push.ensures.items in
    let y : ℕ = at names (reverse_of (at by x)) in
    record {
      size = let long = length_push darts (at by x) in omega (arith, ap length more, long, now.size);
      chain = (chain_step names by steps k face x c.loop-test.true now.chain).3;
      over = λ ds z over. subst (λ l. Over names face (l ++ ds) z) (sym more) (over_step names by steps k face x c.loop-test.true now.chain darts now.over ds z over);
      ends = ends_step names by steps k face x c.loop-test.true now.chain now.ends;
    }

pub returns : goal.returns
returns c =
    let names = c.args.names.now in
    let by = c.args.by.now in
    let steps = c.args.steps in
    let face = c.args.face in
    let x = c.loop.x in
    let darts = c.loop.darts.items in
    let now = c.loop.invariant in
    let none : steps - c.loop.counter ≡ 0 = omega (arith, c.loop-test.false) in
    record {
      size = omega (arith, now.size, c.loop-test.false, c.loop.auto.counter-end);
      over = subst (λ l. Over names face l x) (append-nil darts) (now.over [] x refl);
      ends = now.ends x (subst (λ k. ChainEnds names by k x x) (sym none) refl);
      inside = chain_in names by (steps - c.loop.counter) x now.chain;
    }
