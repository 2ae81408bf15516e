-- What the entries so far made of the bytes.
use Rattle.std.proofs.Common.{◌≡◌, Ok}
use Rattle.dl_reloc.specs.LowTypes.{IsLong}
use Rattle.dl_reloc.specs.Relocated.{applied_upto}
use Rattle.dl_reloc.proofs.apply.relocate_entries.Given as goal

abbrev pub invariant-loop-index : goal.invariant-loop-index
invariant-loop-index l = record {
  made : applied_upto l.target l.form l.entries l.symbols l.index l.initial.bytes ≡ Ok l.bytes;
  long : IsLong l.target l.long;
}
