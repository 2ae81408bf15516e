-- Laws of the definitions of directories. b: the bytes of .debug_info.
use Rattle.std.specs.Prelude.{ℕ, ◌+◌, ◌≤◌, List, length, Option}
use Rattle.std.specs.Option.{option_map_or}
use Rattle.dl_num.specs.declared.fixed.Order.{Order}
use Rattle.dl_dirs.specs.Texts.{TextsData}
use Rattle.dl_dirs.specs.Units.{directory}

-- how many bytes a section has, of those that a file may lack
abbrev pub section_len : Option (List ℕ) → ℕ
section_len section = option_map_or length section 0

-- and those in which texts stand have
abbrev pub texts_len : TextsData → ℕ
texts_len t = section_len t.debug_str + section_len t.debug_line_str

-- a directory has no more bytes than the sections in which it may stand
abbrev pub DirectoriesAreShort : Type 0
DirectoriesAreShort = (order : Order) (abbreviations : List ℕ) (t : TextsData) (b : List ℕ) (offset : ℕ)
    → option_map_or length (directory order abbreviations t b offset) 0 ≤ length b + texts_len t
