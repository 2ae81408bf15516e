-- Whether an address is one of code.
use Rattle.std.specs.Prelude.{ℕ, Bool}
use Rattle.std.specs.List.{list_any}
use Rattle.dl_look.specs.declared.code_ranges.CodeRanges.{CodeRanges}
use Rattle.dl_look.specs.Ranges.{is_reached}

-- one of the ranges has the address a
abbrev pub has_code : CodeRanges → ℕ → Bool
has_code code a = list_any (is_reached a) code.reaches.items
