-- What is made by the entries that are left, of the bytes that those before them made, is what all make.
use Rattle.std.proofs.Common.{◌≡◌, ◌-◌}
use Rattle.dl_reloc.specs.LowTypes.{IsLong}
use Rattle.dl_reloc.specs.Compact.{compact_after, made_by, relocated_compact}
use Rattle.dl_reloc.proofs.apply.relocate_compact.Given as goal

abbrev pub invariant-loop : goal.invariant-loop
invariant-loop l = record {
  made : relocated_compact l.target l.section l.symbols l.initial.bytes
      ≡ made_by l.target l.symbols (compact_after l.target.class l.header l.entry (l.header.count - l.counter) l.rest)
      l.bytes;
  long : IsLong l.target l.long;
}
