use Rattle.xn_app.proofs.system.searching.Goals as goal

pub returns-clause-runs : goal.returns-clause-runs
returns-clause-runs g c =
    let exits = c.run.ensures.exits in
    record {
      end = exits.end;
      code_is = exits.code_is;
      says = exits.says;
      write = exits.ends.write;
      untouched = exits.ends.untouched;
    }
