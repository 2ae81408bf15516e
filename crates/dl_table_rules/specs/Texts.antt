-- Texts that string sections don't have. DWARF 5, section 7.5.5, class string.
use Rattle.std.specs.Prelude.{ℕ, Bool, false, List, Option, Some, None, is_none}
use Rattle.dl_table.specs.Text.{text_at}

-- a section that was handed in has no text at an offset
abbrev pub lacks : (section : Option (List ℕ)) → (offset : ℕ) → Bool
lacks None offset = false
lacks (Some section) offset = is_none (text_at section offset)
