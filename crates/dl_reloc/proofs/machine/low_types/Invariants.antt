-- The types so far.
use Rattle.std.proofs.Common.{◌≡◌, ℕ, ◌<◌, None, length, slice_index_or}
use Rattle.dl_reloc.specs.Types.{change_of}
use Rattle.dl_reloc.proofs.machine.low_types.Given as goal

abbrev pub invariant-loop-number : goal.invariant-loop-number
invariant-loop-number l = record {
  size : length l.low ≡ 64;
  told : (k : ℕ) → k < l.number → slice_index_or l.low k None ≡ change_of l.target k;
}
