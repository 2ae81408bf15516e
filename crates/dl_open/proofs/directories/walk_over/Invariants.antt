-- The bytes that were taken come first of those that the section has.
use Rattle.std.proofs.Common.{◌≡◌, ◌+◌, List, ℕ, length}
use Rattle.std.specs.Io.KnownBytes.{Consumes}
use Rattle.dl_dirs.specs.Standing.{Keeps, StandsFor}
use Rattle.dl_file.specs.Faults.{FailsOnly}
use Rattle.dl_file.specs.LineReader.{LineReaderFails, line_damage, line_remaining}
use Rattle.dl_sections.specs.declared.options.TheConstants.{SECTION_LIMIT}
use Rattle.dl_open.proofs.directories.walk_over.Given as goal

abbrev pub invariant-loop-walk : goal.invariant-loop-walk
invariant-loop-walk g l = record {
  damage : line_damage g.S.ReadAt.all_bytes l.info ≡ line_damage g.S.ReadAt.all_bytes l.initial.info;
  later : FailsOnly (LineReaderFails g.S.ReadAt.all_bytes g.S.ReadAt.fails_with l.info)
      (LineReaderFails g.S.ReadAt.all_bytes g.S.ReadAt.fails_with l.initial.info);
  read : (bs : List ℕ)
      × Consumes (line_remaining g.S.ReadAt.all_bytes l.initial.info) (line_remaining g.S.ReadAt.all_bytes l.info) bs
      × StandsFor l.walk l.fn.order l.fn.abbreviations bs × (length bs + l.left ≡ SECTION_LIMIT) × Keeps l.walk (length bs);
}

abbrev pub decreases-loop-walk : goal.decreases-loop-walk
decreases-loop-walk g l = l.left
