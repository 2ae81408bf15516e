use Rattle.dl_rows.proofs.PlainLemmas.{still_taken}
use Rattle.dl_rows.proofs.program.plain.PlainWalk.take_quiet.Goals as goal

pub returns-clause-takes : goal.returns-clause-takes
returns-clause-takes c files =
    let t = still_taken c.args.params.now c.args.self.now c.args.operation c.finish.new.self c.finish.result files c.requires.kind
    c.finish.ensures.made c.finish.ensures.registers in
    record {
      made = c.finish.result;
      phase = c.finish.ensures.phase;
      begun = c.finish.ensures.begun;
      finishes = c.finish.ensures.finishes;
      single = t.0;
      plain = λ range single. t.1;
      along = λ range single. t.2;
    }
