use Rattle.std.proofs.Common.{ℕ, ◌<◌}
use Rattle.dl_index.specs.Checked.{NamesTexts}
use Rattle.dl_index.proofs.checks.texts_are_there.Given as goal

abbrev pub invariant-loop-file : goal.invariant-loop-file
invariant-loop-file l = (f : ℕ) → f < l.file → NamesTexts l.table l.count f
