use Rattle.dl_reloc.specs.declared.change.Change.TheVariants.{Set}
use Rattle.dl_reloc.specs.declared.change.Width.TheVariants.{Bits64}
use Rattle.dl_reloc.proofs.AppliedLemmas.{applied_by, long_is}
use Rattle.dl_reloc.proofs.apply.apply.Goals as goal

pub returns-then-eq-clause-made : goal.returns-then-eq-clause-made
returns-then-eq-clause-made c = applied_by c.args.target.now c.args.symbols.now c.args.entry.now c.args.bytes.now
    (Set Bits64) c.apply_change.result c.apply_change.new.bytes
    (long_is c.args.target.now c.args.long.now c.args.entry.now.number c.if-eq.ensures c.requires.long)
    c.apply_change.ensures
