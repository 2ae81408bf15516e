-- The forms of attributes, by their numbers. DWARF 2, 3 and 4, section 7.5.4; DWARF 5, sections 7.5.5 and 7.5.6. The
-- forms from 0x1f01 on are GNU's. e: what the head of a unit says of the sizes of values.
use Rattle.std.specs.Prelude.{ℕ, Bool, false, ◌||◌, ◌==◌, if◌then◌else◌, List, [], ◌∷◌, Option, Some, None, option_map}
use Rattle.std.specs.Prelude.{Result, Ok, Err}
use Rattle.dl_num.specs.declared.fixed.Order.{Order}
use Rattle.dl_table.specs.Value.{offset_size}
use Rattle.dl_info.specs.declared.front.FieldFault.{FieldFault}
use Rattle.dl_info.specs.declared.front.FieldFault.TheVariants.{Damaged}
use Rattle.dl_info.specs.declared.form.Encoding.{Encoding}
use Rattle.dl_info.specs.declared.form.Shape.{Shape}
use Rattle.dl_info.specs.declared.form.Value.{Value}
use Rattle.dl_info.specs.declared.form.Shape.TheVariants as shape
use Rattle.dl_info.specs.Front.{◌>>=◌, bytes_at, fixed_at, leb_at, or_damaged, text_at, uleb_at}

abbrev pub is_among : List ℕ → ℕ → Bool
is_among [] n = false
is_among (m ∷ numbers) n = (n == m) || is_among numbers n

-- sdata, udata, ref_udata, strx, addrx, loclistx, rnglistx, GNU_addr_index, GNU_str_index
abbrev pub is_leb : ℕ → Bool
is_leb = is_among (0x0d ∷ 0x0f ∷ 0x15 ∷ 0x1a ∷ 0x1b ∷ 0x22 ∷ 0x23 ∷ 0x1f01 ∷ 0x1f02 ∷ [])

-- flag_present, implicit_const
abbrev pub has_none : ℕ → Bool
has_none = is_among (0x19 ∷ 0x21 ∷ [])

-- data1, flag, ref1, strx1, addrx1
abbrev pub has_one : ℕ → Bool
has_one = is_among (0x0b ∷ 0x0c ∷ 0x11 ∷ 0x25 ∷ 0x29 ∷ [])

-- data2, ref2, strx2, addrx2
abbrev pub has_two : ℕ → Bool
has_two = is_among (0x05 ∷ 0x12 ∷ 0x26 ∷ 0x2a ∷ [])

-- strx3, addrx3
abbrev pub has_three : ℕ → Bool
has_three = is_among (0x27 ∷ 0x2b ∷ [])

-- data4, ref4, ref_sup4, strx4, addrx4
abbrev pub has_four : ℕ → Bool
has_four = is_among (0x06 ∷ 0x13 ∷ 0x1c ∷ 0x28 ∷ 0x2c ∷ [])

-- data8, ref8, ref_sig8, ref_sup8
abbrev pub has_eight : ℕ → Bool
has_eight = is_among (0x07 ∷ 0x14 ∷ 0x20 ∷ 0x24 ∷ [])

-- strp, sec_offset, strp_sup, line_strp, GNU_ref_alt, GNU_strp_alt
abbrev pub is_offset : ℕ → Bool
is_offset = is_among (0x0e ∷ 0x17 ∷ 0x1d ∷ 0x1f ∷ 0x1f20 ∷ 0x1f21 ∷ [])

-- how many bytes a value of ref_addr has
abbrev pub reference_size : Encoding → ℕ
reference_size e = if e.version == 2 then e.address_size else offset_size e.format

-- how many bytes a value of the form has; 0x1e is data16, 0x01 addr, and 0x10 ref_addr
abbrev pub fixed_size : Encoding → ℕ → Option ℕ
fixed_size e form =
    if has_none form then Some 0 else
    if has_one form then Some 1 else
    if has_two form then Some 2 else
    if has_three form then Some 3 else
    if has_four form then Some 4 else
    if has_eight form then Some 8 else
    if form == 0x1e then Some 16 else
    if form == 0x01 then Some e.address_size else
    if form == 0x10 then Some (reference_size e) else
    if is_offset form then Some (offset_size e.format) else None

-- how the bytes of a value are told: 0x08 is string, 0x0a block1, 0x03 block2, 0x04 block4, 0x09 block and 0x18 exprloc
abbrev pub shape_of : Encoding → ℕ → Option Shape
shape_of e form =
    if form == 0x08 then Some shape.Text else
    if form == 0x0a then Some shape.Block1 else
    if form == 0x03 then Some shape.Block2 else
    if form == 0x04 then Some shape.Block4 else
    if (form == 0x09) || (form == 0x18) then Some shape.Block else
    if is_leb form then Some shape.Leb else option_map shape.Bytes (fixed_size e form)

-- a length of n bytes, and then as many bytes as it says
unfoldable pub sized_at : Order → ℕ → List ℕ → Result (List ℕ × List ℕ) FieldFault
sized_at order n b = do
  size ← fixed_at order n b
  bytes_at size.0 size.1

-- the same with a length in LEB128
unfoldable pub leb_sized_at : List ℕ → Result (List ℕ × List ℕ) FieldFault
leb_sized_at b = do
  size ← uleb_at b
  bytes_at size.0 size.1

-- the bytes of a value, without its length or zero byte
abbrev pub shaped_at : Order → Shape → List ℕ → Result (List ℕ × List ℕ) FieldFault
shaped_at order (shape.Bytes n) b = bytes_at n b
shaped_at order shape.Leb b = leb_at b
shaped_at order shape.Text b = text_at b
shaped_at order shape.Block1 b = sized_at order 1 b
shaped_at order shape.Block2 b = sized_at order 2 b
shaped_at order shape.Block4 b = sized_at order 4 b
shaped_at order shape.Block b = leb_sized_at b

-- a value: the number of its form, and these bytes
pub record Told : Type 0 where
  pub form : ℕ
  pub bytes : List ℕ

-- what a value in memory says
abbrev pub told : Value → Told
told v = record { form = v.form; bytes = v.bytes.now }

-- a value of a form that is known and isn't indirect
unfoldable pub direct_at : Encoding → ℕ → List ℕ → Result (Told × List ℕ) FieldFault
direct_at e form b = do
  s ← or_damaged (shape_of e form)
  w ← shaped_at e.order s b
  Ok (record { form = form; bytes = w.0 }, w.1)

-- the number of a form, which is neither indirect nor implicit_const, and a value of it
unfoldable pub indirect_at : Encoding → List ℕ → Result (Told × List ℕ) FieldFault
indirect_at e b = do
  form ← uleb_at b
  if form.0 == 0x21 then Err Damaged else direct_at e form.0 form.1

-- a value of a form; 0x16 is indirect
abbrev pub value_at : Encoding → ℕ → List ℕ → Result (Told × List ℕ) FieldFault
value_at e form b = if form == 0x16 then indirect_at e b else direct_at e form b
