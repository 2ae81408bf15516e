-- What is kept of the entries of a table, of the files that rows name, and of string sections. No promise rests on this file.
use Rattle.std.specs.Prelude.{◌≡◌, ℕ, ◌+◌, ◌<◌, Bool, true, false, List, [], ◌∷◌, length, nat_le, Option, Some, None, slice_index_or}
use Rattle.dl_field.specs.HeaderData.{HeaderData}
use Rattle.dl_head.specs.Numbers.{first_number}
use Rattle.dl_table.specs.Value.{Value}
use Rattle.dl_table_rules.specs.declared.entry_order.EntryOrder.{EntryOrder}
use Rattle.dl_table_rules.specs.declared.files_named.FilesNamed.{FilesNamed}
use Rattle.dl_table_rules.specs.declared.files_named.FileNumbers.{FileNumbers}
use Rattle.dl_table_rules.specs.declared.text_ends.TextEnds.{TextEnds}
use Rattle.dl_table_rules.specs.Ordering.{AreOrdered}
use Rattle.dl_table_rules.specs.Texts.{lacks}
use Rattle.dl_table_rules.specs.Unused.{is_among}

abbrev pub IsOrderOf : EntryOrder → (entries : List (List (ℕ × Value))) → Type 0
IsOrderOf order entries = AreOrdered order.entries.items entries

-- how many they are, and the first
abbrev pub counted : List ℕ → FileNumbers
counted [] = record { files = 0; first = 0 }
counted (n ∷ numbers) = record { files = length (n ∷ numbers); first = n }

-- rows of a unit with this header have named these files
pub record AreNamed (kept : FilesNamed) (h : HeaderData) (files : List ℕ) : Type 0 where
  pub first : kept.first ≡ first_number h.params
  pub all : length kept.named.items ≡ length h.files.entries
  pub each : (place : ℕ) → place < length h.files.entries
      → slice_index_or kept.named.items place false ≡ is_among files (first_number h.params + place)
  pub last : (file : ℕ) → kept.last ≡ Some file → is_among files file ≡ true

-- an offset isn't before the end of the last text
abbrev pub is_past : (end : Option ℕ) → (offset : ℕ) → Bool
is_past None offset = false
is_past (Some end) offset = nat_le end offset

-- of these sections
pub record AreEnds (ends : TextEnds) (line_strings strings : Option (List ℕ)) : Type 0 where
  pub in_line_strings : (offset : ℕ) → lacks line_strings offset ≡ is_past ends.line_strings offset
  pub in_strings : (offset : ℕ) → lacks strings offset ≡ is_past ends.strings offset
