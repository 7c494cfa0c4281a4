use Rattle.std.proofs.Common.{sym, ◌∙◌}
use Rattle.xn_app.proofs.Lines.{zero_is_done}
use Rattle.xn_app.proofs.running.run.Goals as goal

pub returns-clause-exits : goal.returns-clause-exits
returns-clause-exits g c =
    let top = c.top-end.ensures in
    record {
      end = c.top-end.result;
      ends = record {
        no_words = top.no_words;
        words = top.words;
        ran = top.ran;
        exact = top.exact;
        bounds = top.bounds;
        drawing = top.drawing;
        shown = top.shown;
        number = top.number;
        undecided = top.undecided;
        alone = top.alone;
        sample_number = top.sample_number;
        sample_undecided = top.sample_undecided;
        shows = top.shows;
        begun = top.begun;
        last = top.last;
        write = top.write;
        untouched = top.untouched;
      };
      code_is = c.tell.ensures.code;
      says = c.tell.ensures.says;
    }

pub returns-clause-bounds : goal.returns-clause-bounds
returns-clause-bounds g c =
    λ graph answer asks zero.
    c.top-end.ensures.bounds graph answer asks (zero_is_done c.top-end.result (sym zero ∙ c.tell.ensures.code))

pub returns-clause-number : goal.returns-clause-number
returns-clause-number g c =
    λ graph budget asks zero.
    c.top-end.ensures.number graph budget asks (zero_is_done c.top-end.result (sym zero ∙ c.tell.ensures.code))

pub returns-clause-sample_number : goal.returns-clause-sample_number
returns-clause-sample_number g c =
    λ nodes budget asks zero.
    c.top-end.ensures.sample_number nodes budget asks (zero_is_done c.top-end.result (sym zero ∙ c.tell.ensures.code))
