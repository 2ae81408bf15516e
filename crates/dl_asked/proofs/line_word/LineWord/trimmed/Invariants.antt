use Rattle.std.proofs.Common.{◌≡◌, ◌≤◌, take}
use Rattle.dl_asked.specs.AskedLines.{trim_end}
use Rattle.dl_asked.proofs.line_word.LineWord.trimmed.Given as goal

abbrev pub invariant-loop-len : goal.invariant-loop-len
invariant-loop-len l =
    (l.len ≤ l.self-inside.len) × (trim_end (take l.len l.self-inside.bytes) ≡ trim_end l.self)

abbrev pub decreases-loop-len : goal.decreases-loop-len
decreases-loop-len l = l.len
