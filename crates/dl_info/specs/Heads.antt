-- The head of a unit of .debug_info. DWARF 2 and 3, section 7.5.1; DWARF 4, section 7.5.1.1; DWARF 5, sections 7.4 and
-- 7.5.1. b: bytes.
use Rattle.std.specs.Prelude.{ℕ, ◌+◌, ◌^◌, nat_lt, ◌==◌, ◌||◌, if◌then◌else◌, List, Option, Some, None, Result, Ok, Err}
use Rattle.dl_num.specs.declared.fixed.Order.{Order}
use Rattle.dl_table.specs.declared.form.Format.{Format}
use Rattle.dl_table.specs.declared.form.Format.TheVariants.{Dwarf32, Dwarf64}
use Rattle.dl_table.specs.Value.{offset_size}
use Rattle.dl_info.specs.declared.front.FieldFault.{FieldFault}
use Rattle.dl_info.specs.declared.front.FieldFault.TheVariants.{Damaged}
use Rattle.dl_info.specs.declared.head.Head.{Head}
use Rattle.dl_info.specs.declared.head.UnitLength.{UnitLength}
use Rattle.dl_info.specs.Front.{◌>>=◌, bytes_at, fixed_at, or_damaged}

-- unit_length of the 64-bit format; the whole unit has less than 2^64 bytes
unfoldable pub long_length_at : Order → List ℕ → Result (UnitLength × List ℕ) FieldFault
long_length_at order b = do
  n ← fixed_at order 8 b
  if nat_lt (n.0 + 12) (2 ^ 64) then Ok (record { format = Dwarf64; size = n.0 + 12 }, n.1) else Err Damaged

-- unit_length: four bytes below 0xfffffff0; or 0xffffffff, and eight bytes
unfoldable pub length_at : Order → List ℕ → Result (UnitLength × List ℕ) FieldFault
length_at order b = do
  n ← fixed_at order 4 b
  if nat_lt n.0 0xfffffff0 then Ok (record { format = Dwarf32; size = n.0 + 4 }, n.1) else (
      if n.0 == 0xffffffff then long_length_at order n.1 else Err Damaged)

-- how many bytes follow the offset of the abbreviations, by unit_type: DW_UT_compile (1) and DW_UT_partial (3) have
-- none, DW_UT_skeleton (4) and DW_UT_split_compile (5) dwo_id, and DW_UT_type (2) and DW_UT_split_type (6)
-- type_signature and type_offset
abbrev pub kind_size : Format → ℕ → Option ℕ
kind_size format kind =
    if (kind == 1) || (kind == 3) then Some 0 else
    if (kind == 4) || (kind == 5) then Some 8 else
    if (kind == 2) || (kind == 6) then Some (8 + offset_size format) else None

-- version 2, 3 or 4: debug_abbrev_offset, address_size
unfoldable pub older_head_at : Order → Format → ℕ → List ℕ → Result (Head × List ℕ) FieldFault
older_head_at order format version b = do
  abbreviations ← fixed_at order (offset_size format) b
  address ← fixed_at order 1 abbreviations.1
  Ok (
    record {
      encoding = record { order = order; format = format; version = version; address_size = address.0 };
      abbreviations = abbreviations.0;
    },
    address.1,
  )

-- version 5: unit_type, address_size, debug_abbrev_offset, and what else a unit of this type has
unfoldable pub newer_head_at : Order → Format → List ℕ → Result (Head × List ℕ) FieldFault
newer_head_at order format b = do
  kind ← fixed_at order 1 b
  more ← or_damaged (kind_size format kind.0)
  address ← fixed_at order 1 kind.1
  abbreviations ← fixed_at order (offset_size format) address.1
  others ← bytes_at more abbreviations.1
  Ok (
    record {
      encoding = record { order = order; format = format; version = 5; address_size = address.0 };
      abbreviations = abbreviations.0;
    },
    others.1,
  )

-- the head of a unit: its length, its version, and what a unit of this version has
unfoldable pub head_at : Order → List ℕ → Result (Head × List ℕ) FieldFault
head_at order b = do
  length ← length_at order b
  version ← fixed_at order 2 length.1
  if (version.0 == 2) || (version.0 == 3) || (version.0 == 4)
      then older_head_at order length.0.format version.0 version.1
      else (if version.0 == 5 then newer_head_at order length.0.format version.1 else Err Damaged)
