use Rattle.std.proofs.Common.{◌≡◌, true, false, [], length, sym, ap, ◌∙◌, rules, arith}
use Rattle.xn_gml.specs.Grammar.{stands, grammar_from}
use Rattle.xn_gml.proofs.GrammarSteps.{grammar_syntax, grammar_deep, grammar_more, grammar_waits, grammar_open, grammar_done}
use Rattle.xn_gml.proofs.grammar.check_grammar.Goals as goal
use Rattle.xn_gml.proofs.grammar.check_grammar.Goals.{then-awaited-via-then-awaited, then-awaited-via-else-awaited+then-depth-gt0}

pub returns-then-not-stands : goal.returns-then-not-stands
returns-then-not-stands c =
    let stop : stands c.loop-token.awaited c.loop-token.depth c.in-Some.token.kind ≡ false = search rules in
    sym (sym c.loop-token.invariant.same ∙ ap (grammar_from (length c.args.text.now) c.loop-token.awaited c.loop-token.depth) c.in-Some.ensures.some
    ∙ grammar_syntax (length c.args.text.now) c.loop-token.awaited c.loop-token.depth c.in-Some.token _ stop)

pub returns-then-depth-gt64 : goal.returns-then-depth-gt64
returns-then-depth-gt64 c =
    let stand : stands c.loop-token.awaited c.loop-token.depth c.in-Some.token.kind ≡ true = search rules in
    sym (sym c.loop-token.invariant.same ∙ ap (grammar_from (length c.args.text.now) c.loop-token.awaited c.loop-token.depth) c.in-Some.ensures.some
    ∙ grammar_deep (length c.args.text.now) c.loop-token.awaited c.loop-token.depth c.in-Some.token _ stand (omega (arith, c.opened-depth.ensures.value)))

pub loop-token-preserved : goal.loop-token-preserved
loop-token-preserved c =
    let stand : stands c.loop-token.awaited c.loop-token.depth c.in-Some.token.kind ≡ true = search rules in
    record {
      same = rw (c.awaits-awaited.ensures, c.opened-depth.ensures.value)
          (sym (sym c.loop-token.invariant.same ∙ ap (grammar_from (length c.args.text.now) c.loop-token.awaited c.loop-token.depth) c.in-Some.ensures.some
          ∙ grammar_more (length c.args.text.now) c.loop-token.awaited c.loop-token.depth c.in-Some.token _ stand (omega (arith, c.opened-depth.ensures.value))));
      few = omega arith;
    }

pub returns-then-awaited : goal.returns-then-awaited
returns-then-awaited c = elim c.then-awaited.branch [
  | then-awaited-via-then-awaited w ↦ sym (sym c.loop-token.invariant.same
      ∙ ap (grammar_from (length c.args.text.now) c.loop-token.awaited c.loop-token.depth) c.in_default.ensures.none.0
      ∙ ap (λ b. grammar_from (length c.args.text.now) b c.loop-token.depth []) w.if-awaited.true ∙ grammar_waits (length c.args.text.now) c.loop-token.depth)
  | then-awaited-via-else-awaited+then-depth-gt0 w ↦ sym (sym c.loop-token.invariant.same
      ∙ ap (grammar_from (length c.args.text.now) c.loop-token.awaited c.loop-token.depth) c.in_default.ensures.none.0
      ∙ grammar_open (length c.args.text.now) c.loop-token.awaited c.loop-token.depth w.if-depth-gt0.true)
]

pub returns : goal.returns
returns c = sym (sym c.loop-token.invariant.same
    ∙ ap (grammar_from (length c.args.text.now) c.loop-token.awaited c.loop-token.depth) c.in_default.ensures.none.0
    ∙ ap (λ b. grammar_from (length c.args.text.now) b c.loop-token.depth []) c.if-awaited.false ∙ grammar_done (length c.args.text.now) c.loop-token.depth (omega arith))
