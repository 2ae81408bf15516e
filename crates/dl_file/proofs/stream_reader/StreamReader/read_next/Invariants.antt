use Rattle.std.proofs.Common.{◌≡◌, ℕ, List}
use Rattle.std.specs.declared.io.Error.{Error}
use Rattle.dl_elf.specs.Reader.{ReaderFails}
use Rattle.dl_file.specs.InStep.{StandsIn, worth}
use Rattle.dl_file.proofs.stream_reader.StreamReader.read_next.Given as goal

abbrev pub invariant-loop-n : goal.invariant-loop-n
invariant-loop-n g l = record {
  stands : (b : List ℕ) → StandsIn g.S.ReadAt.all_bytes l.told l.fn.self b
      → StandsIn g.S.ReadAt.all_bytes l.told l.self b;
  left : l.self.left ≡ l.fn.self.left;
  later : (error : Error) → ReaderFails g.S.ReadAt.all_bytes g.S.ReadAt.fails_with l.self.stream error
      → ReaderFails g.S.ReadAt.all_bytes g.S.ReadAt.fails_with l.fn.self.stream error;
}

abbrev pub decreases-loop-n : goal.decreases-loop-n
decreases-loop-n g l = worth l.self
