-- Where there is code.
use Rattle.std.specs.Prelude.{ℕ, Bool, true, Option, Some, None}
use Rattle.dl_look.specs.declared.code_ranges.CodeRanges.{CodeRanges}
use Rattle.dl_look.specs.CodeRanges.{has_code}

-- the addresses where there is code; all where the ranges aren't known
abbrev pub is_code : Option CodeRanges → ℕ → Bool
is_code None address = true
is_code (Some ranges) address = has_code ranges address
