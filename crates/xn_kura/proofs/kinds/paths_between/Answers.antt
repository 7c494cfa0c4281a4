use Rattle.std.proofs.Common.{◌≡◌, ℕ, List, [], ◌∷◌, length, sym, ◌∙◌, ap, subst, arith, length-append}
use Rattle.std.specs.Prelude.{Some, Vec}
use Rattle.std.specs.Global.{Global}
use Rattle.std.proofs.lemmas.List.{length-map}
use Rattle.xn_list.specs.Lists.{lists_of}
use Rattle.xn_kura.proofs.Proposals.{paths-push}
use Rattle.xn_kura.specs.Flaws.{begins_at, goes_to, path_at}
use Rattle.xn_kura.specs.Straight.{IsStraightBetween}
use Rattle.xn_kura.proofs.kinds.paths_between.Goals as goal

pub loop-i-preserved : goal.loop-i-preserved
loop-i-preserved c =
    let ends = c.args.web.now.ends in
    let pairs = c.args.pairs.now in
    let nodes = c.args.nodes.now in
    let lists = c.loop-i.lists.items in
    let i = c.loop-i.i-index in
    let items = c.in_ok-push-in-Some.ensures.items in
    record {
      long = omega (arith, ap length items, length-append lists (c.in-Some.path ∷ []), c.loop-i.invariant.long);
      each = λ q q_in.
          let P : List (Vec ℕ Global) → Type 0 = λ xs. IsStraightBetween ends (begins_at pairs nodes q) (goes_to pairs nodes q) (Some (path_at (lists_of xs) q)) in
          subst P (sym items)
          (paths-push ends pairs nodes lists i c.in-Some.path c.loop-i.invariant.long c.loop-i.invariant.each c.in_ok-path_between.field-0 c.in_ok-path_between.ensures c.in-Some.is q q_in);
    }

pub returns : goal.returns
returns c =
    let ends = c.args.web.now.ends in
    let pairs = c.args.pairs.now in
    let nodes = c.args.nodes.now in
    let is : c.new.result ≡ lists_of c.loop-i.lists.items = c.new.ensures in (
      ap length is ∙ length-map c.loop-i.lists.items _ ∙ omega (arith, c.loop-i.invariant.long, c.loop-i-test.false, c.loop-i.auto.i-index-end),
      λ q q_in.
          let P : List (List ℕ) → Type 0 = λ xs. IsStraightBetween ends (begins_at pairs nodes q) (goes_to pairs nodes q) (Some (path_at xs q)) in
          subst P (sym is) (c.loop-i.invariant.each q (omega (arith, q_in, c.loop-i-test.false))),
    )
