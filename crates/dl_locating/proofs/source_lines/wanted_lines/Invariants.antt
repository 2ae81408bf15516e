-- The words so far ask for the lines that are kept.
use Rattle.std.proofs.Common.{map, take}
use Rattle.dl_locating.specs.SourceWords.{AreAsked}
use Rattle.dl_locating.proofs.source_lines.wanted_lines.Given as goal

abbrev pub invariant-loop-word : goal.invariant-loop-word
invariant-loop-word g l = record { asked : AreAsked (map (λ s. s.now) (take l.word-index l.words)) l.wanted.items }
