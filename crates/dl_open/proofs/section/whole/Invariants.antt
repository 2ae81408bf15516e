-- The bytes that were read come first of those that the section has.
use Rattle.std.proofs.Common.{◌≡◌, ◌+◌, length}
use Rattle.std.specs.Io.KnownBytes.{Consumes}
use Rattle.dl_file.specs.Faults.{FailsOnly}
use Rattle.dl_file.specs.LineReader.{LineReaderFails, line_damage, line_remaining}
use Rattle.dl_open.specs.declared.strings.TheConstants.{STRINGS_LIMIT}
use Rattle.dl_open.proofs.section.whole.Given as goal

abbrev pub invariant-loop-bytes : goal.invariant-loop-bytes
invariant-loop-bytes g l = record {
  damage : line_damage g.S.ReadAt.all_bytes l.section ≡ line_damage g.S.ReadAt.all_bytes l.initial.section;
  later : FailsOnly (LineReaderFails g.S.ReadAt.all_bytes g.S.ReadAt.fails_with l.section)
      (LineReaderFails g.S.ReadAt.all_bytes g.S.ReadAt.fails_with l.initial.section);
  read : Consumes (line_remaining g.S.ReadAt.all_bytes l.initial.section) (line_remaining g.S.ReadAt.all_bytes l.section)
      l.bytes.items;
  room : length l.bytes.items + l.left ≡ STRINGS_LIMIT;
}

abbrev pub decreases-loop-bytes : goal.decreases-loop-bytes
decreases-loop-bytes g l = l.left
