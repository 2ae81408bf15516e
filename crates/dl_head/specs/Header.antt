-- The spelling of a header, and the header that bytes begin with. DWARF 5, sections 6.2.4 and 7.4.
use Rattle.std.specs.Prelude.{◌≡◌, ℕ, ◌+◌, ◌-◌, ◌&&◌, List, [], ◌∷◌, ◌++◌, length, drop, Option, Some, None, Ok, Err}
use Rattle.std.specs.Prelude.{nat_le, ◌==◌, if◌then◌else◌, unwrap_or}
use Rattle.dl_num.specs.declared.fixed.Order.{Order}
use Rattle.dl_head.specs.declared.dialect.Dialect.{Dialect}
use Rattle.dl_head.specs.declared.header.HeaderLengths.{HeaderLengths}
use Rattle.dl_table.specs.declared.form.Format.{Format}
use Rattle.dl_field.specs.HeaderData.{HeaderData}
use Rattle.dl_table.specs.Value.{good}
use Rattle.dl_field.specs.Layout.{Layout, last_entry, foreign_version, Item, length_is, number_is, following}
use Rattle.dl_field.specs.Layout.{following_all, field_spelt}
use Rattle.dl_head.specs.HeaderLayout.{header_layout, initial_size, fixed_part}

-- w is the spellings of good fields of these values, from a layout on
abbrev pub SpellsFields : Order → Layout → List Item → List ℕ → Type 0
SpellsFields order layout [] w = w ≡ []
SpellsFields order layout (i ∷ items) w =
    (front : List ℕ) × (rest : List ℕ) × (w ≡ front ++ rest) × (field_spelt order layout front ≡ good i)
    × SpellsFields order (following layout i) items rest

-- how long the unit is by its unit_length, the initial length included
abbrev pub unit_end : List Item → Option ℕ
unit_end (length_is format n ∷ items) = Some (initial_size format + n)
unit_end items = None

-- where the header ends by its header_length, the fifth field
abbrev pub own_end : Format → List Item → Option ℕ
own_end format (address ∷ segment ∷ number_is header ∷ items) =
    Some (initial_size format + fixed_part format 5 + header)
own_end format items = None

-- of the older versions the third
abbrev pub older_end : Format → ℕ → List Item → Option ℕ
older_end format v (number_is header ∷ items) = Some (initial_size format + fixed_part format v + header)
older_end format v items = None

abbrev pub header_end : List Item → Option ℕ
header_end (length_is format n ∷ number_is v ∷ items) = if v == 5 then own_end format items else older_end format v
    items
header_end items = None

-- the header, where the last entry is complete
abbrev pub header_made : Layout → Option HeaderData
header_made (last_entry h) = Some h
header_made layout = None

-- the version, where it isn't read
abbrev pub foreign_made : Layout → Option ℕ
foreign_made (foreign_version v) = Some v
foreign_made layout = None

-- w is the spellings of the fields of h up to the last entry, then any bytes up to the end by header_length
pub record IsHeader (dialect : Dialect) (h : HeaderData) (w : List ℕ) : Type 0 where
  pub items : List Item
  pub fields : List ℕ
  pub padding : List ℕ
  pub whole : w ≡ fields ++ padding
  pub spelt : SpellsFields dialect.order (header_layout dialect) items fields
  pub made : header_made (following_all (header_layout dialect) items) ≡ Some h
  pub end : header_end items ≡ Some (length w)

-- b is good fields of these values, one after the other, and then rest, at whose front no further good field stands
pub record IsFieldCut (dialect : Dialect) (b : List ℕ) (items : List Item) (rest : List ℕ) : Type 0 where
  pub fields : List ℕ
  pub whole : b ≡ fields ++ rest
  pub spelt : SpellsFields dialect.order (header_layout dialect) items fields
  pub no_more : (front : List ℕ) (back : List ℕ) (i : Item) → rest ≡ front ++ back
      → field_spelt dialect.order (following_all (header_layout dialect) items) front ≡ good i → ⊥

-- The good fields that are cut off the front of some bytes, one at a time: their values, and the bytes after them.
pub record Cut : Type 0 where
  pub items : List Item
  pub rest : List ℕ

abbrev pub with_item : Item → Cut → Cut
with_item i c = record { items = i ∷ c.items; rest = c.rest }

-- begun: bytes before b that are no whole good field yet
abbrev pub cut_after : Order → Layout → List ℕ → List ℕ → Cut
cut_after order layout begun [] = record { items = []; rest = begun }
cut_after order layout begun (x ∷ b) = elim (field_spelt order layout (begun ++ x ∷ [])) [
  | Some (Ok i) ↦ with_item i (cut_after order (following layout i) [] b)
  | Some (Err kind) ↦ cut_after order layout (begun ++ x ∷ []) b
  | None ↦ cut_after order layout (begun ++ x ∷ []) b
]

-- the good fields at the front of b, computed
abbrev pub cut : Dialect → List ℕ → Cut
cut dialect b = cut_after dialect.order (header_layout dialect) [] b

-- what stands next, after the good fields at the front of b
abbrev pub layout_after : Dialect → List ℕ → Layout
layout_after dialect b = following_all (header_layout dialect) (cut dialect b).items

-- the unit's bytes, once b holds a good initial length
abbrev pub unit_len : Dialect → List ℕ → Option ℕ
unit_len dialect b = unit_end (cut dialect b).items

-- the version in b, where it isn't read
abbrev pub foreign_in : Dialect → List ℕ → Option ℕ
foreign_in dialect b = foreign_made (layout_after dialect b)

-- what is left of b after a header, whose fields have `fields` bytes
abbrev pub header_up_to : List ℕ → ℕ → Option HeaderData → Option ℕ → Option (HeaderData × List ℕ)
header_up_to b fields (Some h) (Some end) = if nat_le fields end && nat_le end (length b) then Some (h, drop end b)
    else None
header_up_to b fields made end = None

-- the header that b begins with, and what follows it, computed
abbrev pub header_in : Dialect → List ℕ → Option (HeaderData × List ℕ)
header_in dialect b =
    let c = cut dialect b in
    header_up_to b (length b - length c.rest) (header_made (following_all (header_layout dialect) c.items))
    (header_end c.items)

-- by the values of the header's fields, which have so many bytes
abbrev pub lengths_by : HeaderData → List Item → (fields : ℕ) → HeaderLengths
lengths_by h items fields =
    let end = unwrap_or (header_end items) 0 in
    record {
      unit_length = unwrap_or (unit_end items) 0 - initial_size h.params.format;
      header_length = end - (initial_size h.params.format + fixed_part h.params.format h.params.version);
      padding = end - fields;
    }

-- how many bytes the unit has after unit_length, and the header after header_length, and how many of these stand between
-- the last entry and the program; h: the header that b begins with
abbrev pub lengths_in : Dialect → List ℕ → HeaderData → HeaderLengths
lengths_in dialect b h = let c = cut dialect b in lengths_by h c.items (length b - length c.rest)
