-- What was read so far.
use Rattle.std.proofs.Common.{◌≡◌, ◌≤◌, ◌+◌, ℕ, List, Some, ◌++◌, length}
use Rattle.std.specs.declared.io.Error.{Error}
use Rattle.dl_file.specs.ContentReader.{StreamFails, inflated_damage, inflated_left, inflated_name}
use Rattle.dl_file.specs.ContentReader.{inflated_remaining}
use Rattle.dl_file.proofs.whole_bytes.read_whole.Given as goal

abbrev pub invariant-loop-n : goal.invariant-loop-n
invariant-loop-n g l = record {
  name : inflated_name l.reader ≡ inflated_name l.initial.reader;
  damage : inflated_damage g.S.ReadAt.all_bytes l.reader ≡ inflated_damage g.S.ReadAt.all_bytes l.initial.reader;
  later : (error : Error) → StreamFails g.S.ReadAt.all_bytes g.S.ReadAt.fails_with l.reader error
      → StreamFails g.S.ReadAt.all_bytes g.S.ReadAt.fails_with l.initial.reader error;
  left : l.size ≤ 4294967296 → length l.bytes.items + inflated_left l.reader ≡ l.size;
  read : (bytes : List ℕ) → inflated_remaining g.S.ReadAt.all_bytes l.initial.reader ≡ Some bytes → l.size ≤ 4294967296
      → (rest : List ℕ) × (inflated_remaining g.S.ReadAt.all_bytes l.reader ≡ Some rest) × (bytes ≡ l.bytes.items ++ rest);
}

abbrev pub decreases-loop-n : goal.decreases-loop-n
decreases-loop-n g l = inflated_left l.reader
