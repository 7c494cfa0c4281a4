use Rattle.xn_gml.specs.ReadView.{found_in}
use Rattle.xn_app.proofs.Searches.{searched_by}
use Rattle.xn_app.proofs.searching.searched.Goals as goal

pub write_answer-requires : goal.write_answer-requires
write_answer-requires g c = c.in_ok-end.ensures.answer.spelled.well_formed

pub returns-clause-comes : goal.returns-clause-comes
returns-clause-comes g c =
    searched_by c.args.budget (found_in c.args.read.now) c.in_ok-end.end c.in_ok-end.answer c.in_ok-text.text.items c.in_ok-end.ensures.answer c.in_ok-end.ensures.ends
    c.in_ok-text.ensures
