use Rattle.xn_gml.proofs.TokenRules.{separator_is_passed, comment_is_skipped, bracket_is_token, string_is_token, open_string_is_malformed, run_is_token}
use Rattle.xn_gml.proofs.laws.token_laws.Goals as goal

pub returns-clause-separator : goal.returns-clause-separator
returns-clause-separator c = separator_is_passed

pub returns-clause-comment : goal.returns-clause-comment
returns-clause-comment c = comment_is_skipped

pub returns-clause-bracket : goal.returns-clause-bracket
returns-clause-bracket c = bracket_is_token

pub returns-clause-string : goal.returns-clause-string
returns-clause-string c = string_is_token

pub returns-clause-unclosed : goal.returns-clause-unclosed
returns-clause-unclosed c = open_string_is_malformed

pub returns-clause-run : goal.returns-clause-run
returns-clause-run c = run_is_token
