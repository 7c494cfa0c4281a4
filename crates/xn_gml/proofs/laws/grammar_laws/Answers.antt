use Rattle.xn_gml.proofs.FrontLemmas.{flaw_is_first}
use Rattle.xn_gml.proofs.TreeLemmas.{grammar_is_of_pairs, pairs_are_of_grammar}
use Rattle.xn_gml.proofs.TreePairs.{pairs_are_of_tree}
use Rattle.xn_gml.proofs.laws.grammar_laws.Goals as goal

pub returns-clause-only : goal.returns-clause-only
returns-clause-only c = grammar_is_of_pairs

pub returns-clause-all : goal.returns-clause-all
returns-clause-all c = pairs_are_of_grammar

pub returns-clause-pairs : goal.returns-clause-pairs
returns-clause-pairs c = pairs_are_of_tree

pub returns-clause-flaw : goal.returns-clause-flaw
returns-clause-flaw c = flaw_is_first
