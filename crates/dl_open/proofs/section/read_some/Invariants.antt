-- A failed read consumes nothing.
use Rattle.std.proofs.Common.{◌≡◌, length}
use Rattle.std.specs.Io.KnownBytes.{Keeps}
use Rattle.dl_file.specs.Faults.{FailsOnly}
use Rattle.dl_file.specs.LineReader.{LineReaderFails, line_damage, line_remaining}
use Rattle.dl_open.proofs.section.read_some.Given as goal

abbrev pub invariant-loop : goal.invariant-loop
invariant-loop g l = record {
  len : length l.buffer ≡ length l.initial.buffer;
  damage : line_damage g.S.ReadAt.all_bytes l.section ≡ line_damage g.S.ReadAt.all_bytes l.initial.section;
  kept : Keeps (line_remaining g.S.ReadAt.all_bytes l.initial.section) (line_remaining g.S.ReadAt.all_bytes l.section);
  later : FailsOnly (LineReaderFails g.S.ReadAt.all_bytes g.S.ReadAt.fails_with l.section)
      (LineReaderFails g.S.ReadAt.all_bytes g.S.ReadAt.fails_with l.initial.section);
}
