-- The first entry of a unit. DWARF 2, 3, 4 and 5, sections 3.1.1 and 7.5: a code, and the values of the attributes of the
-- abbreviation with this code. b: bytes.
use Rattle.std.specs.Prelude.{ℕ, ◌==◌, ◌||◌, nat_lt, if◌then◌else◌, List, [], ◌∷◌, length, Option, Some}
use Rattle.std.specs.Prelude.{None, option_map, Result, Ok, Err}
use Rattle.std.specs.Option.{option_or}
use Rattle.dl_num.specs.declared.fixed.Order.{Order}
use Rattle.dl_num.specs.Fixed.{fixed}
use Rattle.dl_table.specs.declared.form.Format.{Format}
use Rattle.dl_info.specs.declared.front.FieldFault.{FieldFault}
use Rattle.dl_info.specs.declared.form.Encoding.{Encoding}
use Rattle.dl_info.specs.declared.abbreviation.Attribute.{Attribute}
use Rattle.dl_info.specs.declared.entry.FirstEntry.{FirstEntry}
use Rattle.dl_info.specs.declared.entry.Text.{Text}
use Rattle.dl_info.specs.declared.entry.Text.TheVariants as of
use Rattle.dl_info.specs.Front.{◌>>=◌, uleb_at}
use Rattle.dl_info.specs.Forms.{is_among, Told, value_at}
use Rattle.dl_info.specs.Heads.{head_at}
use Rattle.dl_info.specs.Abbreviations.{declared_from}

-- ---- what is told of an entry

-- where a text stands: these bytes; an offset of .debug_str, or of .debug_line_str; an index of .debug_str_offsets
pub data TextData : Type 0 where
  here : List ℕ → TextData
  str : ℕ → TextData
  line_str : ℕ → TextData
  index : ℕ → TextData

-- DW_AT_stmt_list, DW_AT_comp_dir and DW_AT_str_offsets_base of an entry, each where it has it
pub record EntryData : Type 0 where
  pub format : Format
  pub stmt_list : Option ℕ
  pub comp_dir : Option TextData
  pub str_offsets_base : Option ℕ

-- what a text in memory is, and what an entry in memory says
abbrev pub text : Text → TextData
text (of.Here bytes) = here bytes.now
text (of.Str offset) = str offset
text (of.LineStr offset) = line_str offset
text (of.Index n) = index n

abbrev pub entry : FirstEntry → EntryData
entry e = record {
  format = e.format;
  stmt_list = e.stmt_list;
  comp_dir = option_map text e.comp_dir;
  str_offsets_base = e.str_offsets_base;
}

abbrev pub without_values : Format → EntryData
without_values format = record { format = format; stmt_list = None; comp_dir = None; str_offsets_base = None }

-- ---- values

-- the number that one to eight bytes spell
abbrev pub number_in : Order → List ℕ → Option ℕ
number_in order w = if (length w == 0) || nat_lt 8 (length w) then None else Some (fixed order w)

-- an offset of another section: form data4, data8 or sec_offset
abbrev pub offset_in : Order → Told → Option ℕ
offset_in order v = if is_among (0x06 ∷ 0x07 ∷ 0x17 ∷ []) v.form then number_in order v.bytes else None

abbrev pub value_of : Result (ℕ × List ℕ) FieldFault → Option ℕ
value_of (Ok x) = Some x.0
value_of (Err s) = None

-- a text: form string (0x08), strp (0x0e), line_strp (0x1f), strx (0x1a), or strx1 to strx4
abbrev pub text_in : Order → Told → Option TextData
text_in order v =
    if v.form == 0x08 then Some (here v.bytes) else
    if v.form == 0x0e then option_map str (number_in order v.bytes) else
    if v.form == 0x1f then option_map line_str (number_in order v.bytes) else
    if v.form == 0x1a then option_map index (value_of (uleb_at v.bytes)) else
    if is_among (0x25 ∷ 0x26 ∷ 0x27 ∷ 0x28 ∷ []) v.form then option_map index (number_in order v.bytes) else None

-- an entry with one attribute more, of this name; of several the first that has such a value counts
abbrev pub with_value : Order → (name : ℕ) → Told → EntryData → EntryData
with_value order name v e =
    if name == 0x10 then record e { stmt_list = option_or e.stmt_list (offset_in order v) } else
    if name == 0x1b then record e { comp_dir = option_or e.comp_dir (text_in order v) } else
    if name == 0x72 then record e { str_offsets_base = option_or e.str_offsets_base (offset_in order v) } else e

-- an entry that has said e so far, and then has values of these attributes
abbrev pub values_at : Encoding → List Attribute → EntryData → List ℕ → Result (EntryData × List ℕ) FieldFault
values_at encoding [] e b = Ok (e, b)
values_at encoding (a ∷ attributes) e b =
    value_at encoding a.form b >>= λ v. values_at encoding attributes (with_value encoding.order a.name v.0 e) v.1

-- ---- the entry

-- the first entry of a unit, and what follows it
unfoldable pub entry_at : Order → (abbreviations : List ℕ) → List ℕ → Result (EntryData × List ℕ) FieldFault
entry_at order abbreviations b = do
  head ← head_at order b
  code ← uleb_at head.1
  attributes ← declared_from head.0.abbreviations code.0 abbreviations
  values_at head.0.encoding attributes (without_values head.0.encoding.format) code.1
