-- How long the parts of the path of a file are at most. DWARF 5, sections 6.2.4 and 6.2.4.1.
use Rattle.std.specs.Prelude.{◌≤◌, ℕ, ◌+◌, length, Option, IfSome}
use Rattle.std.specs.Option.{option_map_or}
use Rattle.dl_field.specs.HeaderData.{HeaderData, header_cells}
use Rattle.dl_print.specs.ValueText.{Strings}
use Rattle.dl_path.specs.PathTexts.{FileParts, file_parts}

-- how many bytes the string sections have
abbrev pub strings_len : Strings → ℕ
strings_len s = option_map_or length s.line_strings 0 + option_map_or length s.strings 0

-- no text that a header names has more bytes than this: it stands in a string section, or in one of the header's tables, where
-- each byte of a text is a cell
abbrev pub text_room : Strings → Option HeaderData → ℕ
text_room s header = strings_len s + option_map_or header_cells header 0

-- none of the parts has more bytes than this
pub record PartsWithin (most : ℕ) (p : FileParts) : Type 0 where
  pub base : length p.base ≤ most
  pub directory : length p.directory ≤ most
  pub name : length p.name ≤ most

-- so has no part of the path of a file
abbrev pub PartsHaveRoom : Type 0
PartsHaveRoom =
    (s : Strings) (header : Option HeaderData) (file : ℕ)
    → IfSome (file_parts s header file) (PartsWithin (text_room s header))
