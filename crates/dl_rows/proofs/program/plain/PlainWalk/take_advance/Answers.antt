use Rattle.std.proofs.Common.{arith}
use Rattle.dl_rows.proofs.PlainLemmas.{advance_single, advance_taken}
use Rattle.dl_rows.proofs.program.plain.PlainWalk.take_advance.Goals as goal

pub returns-clause-takes : goal.returns-clause-takes
returns-clause-takes c files taken =
    let h = c.args.params.now in
    let w = c.args.self.now in
    let at = advance_taken h w c.finish.new.self c.finish.result files c.args.operation c.requires.kind c.finish.ensures.made
    c.finish.ensures.registers c.if-address-from.false (omega (arith, c.if-greatest-address.false, c.requires.greatest))
    (omega (arith, c.ranges.greatest.fits, c.requires.greatest)) c.requires.least c.requires.advance in
    record {
      made = c.finish.result;
      phase = c.finish.ensures.phase;
      begun = c.finish.ensures.begun;
      finishes = c.finish.ensures.finishes;
      single = advance_single h w c.finish.new.self c.finish.result files c.args.operation c.requires.kind c.finish.ensures.registers;
      plain = λ range single. (at single).0;
      along = λ range single. (at single).1;
    }
