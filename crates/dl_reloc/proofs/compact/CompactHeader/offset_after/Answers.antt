use Rattle.dl_reloc.proofs.CompactLemmas.{long_offset, short_offset}
use Rattle.dl_reloc.proofs.compact.CompactHeader.offset_after.Goals as goal

pub returns-in-Bits32 : goal.returns-in-Bits32
returns-in-Bits32 c = λ n told.
    rw c.in-Bits32.is
    (short_offset c.args.before.now.offset c.args.difference n c.args.self.now.shift told)

pub returns-in-Bits64 : goal.returns-in-Bits64
returns-in-Bits64 c = λ n told.
    rw c.in-Bits64.is
    (long_offset c.args.before.now.offset c.args.difference n c.args.self.now.shift told)
