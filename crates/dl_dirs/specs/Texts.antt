-- The texts of directories. DWARF 5, sections 7.5.5 and 7.26.
use Rattle.std.specs.Prelude.{ℕ, List, Option, Some, option_map, unwrap_or}
use Rattle.std.specs.Option.{option_and_then}
use Rattle.dl_num.specs.declared.fixed.Order.{Order}
use Rattle.dl_table.specs.declared.form.Format.{Format}
use Rattle.dl_table.specs.declared.form.Format.TheVariants.{Dwarf32, Dwarf64}
use Rattle.dl_table.specs.Text.{text_at}
use Rattle.dl_info.specs.Entries.{EntryData, TextData, here, str, line_str, index}
use Rattle.dl_info.specs.Units.{string_offset, string_place}
use Rattle.dl_dirs.specs.declared.texts.Texts.{Texts}

-- the bytes of .debug_str_offsets, .debug_str and .debug_line_str, each where a file has it
pub record TextsData : Type 0 where
  pub str_offsets : Option (List ℕ)
  pub debug_str : Option (List ℕ)
  pub debug_line_str : Option (List ℕ)

-- what sections in memory are
abbrev pub texts_of : Texts → TextsData
texts_of t = record {
  str_offsets = option_map (λ bytes. bytes.items) t.str_offsets;
  debug_str = option_map (λ bytes. bytes.items) t.debug_str;
  debug_line_str = option_map (λ bytes. bytes.items) t.debug_line_str;
}

-- the text at an offset of a section
abbrev pub section_text : Option (List ℕ) → (offset : ℕ) → Option (List ℕ)
section_text section offset = option_and_then (λ b. text_at b offset) section

-- Where the offsets of a unit that has no DW_AT_str_offsets_base begin: after the header of .debug_str_offsets, which is a
-- length of 4 or 12 bytes, a version of 2 and 2 bytes of padding. So do split units, by section 7.3.2.2, and readers of what
-- compilers wrote before version 5.
abbrev pub first_base : Format → ℕ
first_base Dwarf32 = 8
first_base Dwarf64 = 16

-- the text with an index, of a unit of this format and DW_AT_str_offsets_base
abbrev pub index_text : Order → TextsData → Format → (base : Option ℕ) → (n : ℕ) → Option (List ℕ)
index_text order t format base n =
    option_and_then
    (λ place. option_and_then
    (λ offsets. option_and_then (section_text t.debug_str) (string_offset order format place offsets)) t.str_offsets)
    (string_place format (unwrap_or base (first_base format)) n)

-- a text of an entry
abbrev pub text_of : Order → TextsData → EntryData → TextData → Option (List ℕ)
text_of order t e (here w) = Some w
text_of order t e (str offset) = section_text t.debug_str offset
text_of order t e (line_str offset) = section_text t.debug_line_str offset
text_of order t e (index n) = index_text order t e.format e.str_offsets_base n

-- the text of an entry's DW_AT_comp_dir
abbrev pub directory_text : Order → TextsData → EntryData → Option (List ℕ)
directory_text order t e = option_and_then (text_of order t e) e.comp_dir
