use Rattle.std.proofs.Common.{arith}
use Rattle.dl_rows.proofs.PlainLemmas.{TakesRow, row_single, row_taken}
use Rattle.dl_rows.proofs.program.plain.PlainWalk.take_row.Goals as goal

pub returns-clause-takes : goal.returns-clause-takes
returns-clause-takes c files taken =
    let h = c.args.params.now in
    let takes : TakesRow h c.args.self.now c.args.operation c.finish.new.self c.finish.result = record {
      made_is = c.finish.ensures.made;
      registers = c.finish.ensures.registers;
      rises = c.if-address-from.false;
      fits = omega (arith, c.if-greatest-address.false, c.requires.greatest);
      size = omega (arith, c.ranges.greatest.fits, c.requires.greatest);
      line = omega (arith, c.if-self-gt-GREATEST_LINE.false);
      least = c.requires.least;
    } in
    record {
      made = c.finish.result;
      phase = c.finish.ensures.phase;
      begun = c.finish.ensures.begun;
      finishes = c.finish.ensures.finishes;
      single = row_single h c.args.self.now c.finish.new.self c.finish.result files c.args.operation c.requires.kind c.finish.ensures.registers;
      plain = λ range single.
          (row_taken h c.args.self.now c.finish.new.self c.finish.result files c.args.operation c.requires.kind takes range single).0;
      along = λ range single. rw c.add.ensures
          (row_taken h c.args.self.now c.finish.new.self c.finish.result files c.args.operation c.requires.kind takes range single).1;
    }
