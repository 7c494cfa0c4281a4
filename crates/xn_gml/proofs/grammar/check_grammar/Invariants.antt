use Rattle.std.proofs.Common.{◌≡◌, ◌≤◌, length}
use Rattle.xn_gml.specs.Grammar.{grammar_from, grammar_of}
use Rattle.xn_gml.proofs.grammar.check_grammar.Given as goal

abbrev pub invariant-loop-token : goal.invariant-loop-token
invariant-loop-token l = record {
  same : grammar_from (length l.text) l.awaited l.depth l.tokens ≡ grammar_of l.text;
  few : l.depth ≤ 64;
}

abbrev pub decreases-loop-token : goal.decreases-loop-token
decreases-loop-token l = length l.tokens
