use Rattle.std.proofs.Common.{◌+◌, length, arith, length-append}
use Rattle.dl_table.proofs.WritingLemmas.{Appends-part}
use Rattle.dl_table.proofs.counted.put.Goals as goal

pub returns-in-Err-clause-written : goal.returns-in-Err-clause-written
returns-in-Err-clause-written g c = λ start text h.
    let part = c.in-Err.ensures.part in
    let counted = h.counted in (
      length text + c.in-Err.part,
      record {
        within = omega (arith, length-append text c.args.bytes.now);
        written = Appends-part start _ _ text c.args.bytes.now c.in-Err.part h.written c.in-Err.ensures.err;
        counted = omega arith;
      },
    )
