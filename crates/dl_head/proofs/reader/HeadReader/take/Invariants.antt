use Rattle.std.proofs.Common.{◌≡◌, ◌≤◌, ◌-◌, ℕ, List, length, take}
use Rattle.dl_head.specs.declared.reader.HeadStep.TheVariants as answer
use Rattle.dl_head.specs.Standing.{StandsFor}
use Rattle.dl_head.specs.Reading.{Answers}
use Rattle.dl_head.specs.Whole.{TakesAll}
use Rattle.dl_head.proofs.reader.HeadReader.take.Given as goal

abbrev pub invariant-loop-used : goal.invariant-loop-used
invariant-loop-used l = record {
  within : l.used ≤ length l.piece;
  dialect : l.self.dialect ≡ l.fn.self.dialect;
  goes : (b : List ℕ) → StandsFor l.fn.self b → Answers l.fn.self.dialect b answer.More
      → TakesAll l.fn.self.dialect b (take l.used l.piece) l.self;
}

abbrev pub decreases-loop-used : goal.decreases-loop-used
decreases-loop-used l = length l.piece - l.used
