-- Forms, and the values that are spelled in them. DWARF 5, sections 7.5.4 to 7.5.6.
use Rattle.std.specs.Prelude.{ℕ, ◌+◌, ◌-◌, ◌^◌, Bool, false, not, ◌&&◌, List, [], ◌∷◌, length, take, drop, Option}
use Rattle.std.specs.Prelude.{Some, None, Result, Ok, Err, nat_lt, nat_le, ◌==◌, if◌then◌else◌}
use Rattle.dl_num.specs.declared.fixed.Order.{Order}
use Rattle.dl_num.specs.Fixed.{fixed}
use Rattle.dl_num.specs.Leb.{groups}
use Rattle.dl_num.specs.LebFront.{is_leb, leb_front, after_leb}
use Rattle.dl_table.specs.declared.form.Format.{Format}
use Rattle.dl_table.specs.declared.form.Format.TheVariants.{Dwarf32, Dwarf64}
use Rattle.dl_table.specs.declared.form.Form.{Form}
use Rattle.dl_table.specs.declared.form.Form.TheVariants as form
use Rattle.dl_table.specs.declared.fault.FaultKind.{FaultKind}
use Rattle.dl_table.specs.declared.fault.FaultKind.TheVariants.{LebRange}

-- a value of a table: a text without its zero byte, an offset into one of three string sections, a number, some bytes,
-- sixteen bytes
pub data Value : Type 0 where
  text : List ℕ → Value
  line_str : ℕ → Value
  str : ℕ → Value
  str_sup : ℕ → Value
  number : ℕ → Value
  block : List ℕ → Value
  data16 : List ℕ → Value

-- the codes of the forms, section 7.5.6
abbrev pub form_code : Form → ℕ
form_code form.Block2 = 0x03
form_code form.Block4 = 0x04
form_code form.Data2 = 0x05
form_code form.Data4 = 0x06
form_code form.Data8 = 0x07
form_code form.String = 0x08
form_code form.Block = 0x09
form_code form.Block1 = 0x0a
form_code form.Data1 = 0x0b
form_code form.Strp = 0x0e
form_code form.Udata = 0x0f
form_code form.StrpSup = 0x1d
form_code form.Data16 = 0x1e
form_code form.LineStrp = 0x1f

abbrev pub all_forms : List Form
all_forms = form.Block2 ∷ form.Block4 ∷ form.Data2 ∷ form.Data4 ∷ form.Data8 ∷ form.String ∷ form.Block ∷ form.Block1
    ∷ form.Data1 ∷ form.Strp ∷ form.Udata ∷ form.StrpSup ∷ form.Data16 ∷ form.LineStrp ∷ []

abbrev pub form_among : List Form → ℕ → Option Form
form_among [] code = None
form_among (f ∷ fs) code = if form_code f == code then Some f else form_among fs code

-- the form of a code
abbrev pub form_of_code : ℕ → Option Form
form_of_code code = form_among all_forms code

-- the size of an offset, section 7.4
abbrev pub offset_size : Format → ℕ
offset_size Dwarf32 = 4
offset_size Dwarf64 = 8

-- What a list of bytes is as a whole: not one spelling; the spelling of a good value; or the end of a bad one.
abbrev pub Judgement : Type 0 → Type 0
Judgement A = Option (Result A FaultKind)

abbrev pub good : {A : Type 0} → A → Judgement A
good a = Some (Ok a)

abbrev pub bad : {A : Type 0} → FaultKind → Judgement A
bad kind = Some (Err kind)

-- bytes that none of is zero, and a zero byte
abbrev pub is_text : List ℕ → Bool
is_text [] = false
is_text (b ∷ []) = b == 0
is_text (b ∷ c ∷ w) = not (b == 0) && is_text (c ∷ w)

abbrev pub text_spelt : List ℕ → Judgement Value
text_spelt w = if is_text w then good (text (take (length w - 1) w)) else None

-- k bytes are a number
abbrev pub number_spelt : Order → ℕ → (ℕ → Value) → List ℕ → Judgement Value
number_spelt order k make w = if length w == k then good (make (fixed order w)) else None

-- k bytes are a number n, and n bytes follow
abbrev pub block_spelt : Order → ℕ → List ℕ → Judgement Value
block_spelt order k w = if nat_le k (length w) && (length w == k + fixed order (take k w)) then good (block (drop k w))
    else None

-- a number in LEB128, which is below 2^64
abbrev pub leb_spelt : List ℕ → Judgement Value
leb_spelt w =
    if is_leb w then (if nat_lt (groups w) (2 ^ 64) then good (number (groups w)) else bad LebRange) else None

-- a number n in LEB128, which is below 2^64, and n bytes
abbrev pub leb_block_spelt : List ℕ → Judgement Value
leb_block_spelt w =
    let size = groups (leb_front w) in
    if not (is_leb (leb_front w)) then None else
    if nat_lt size (2 ^ 64) then (if length (after_leb w) == size then good (block (after_leb w)) else None) else
    if is_leb w then bad LebRange else None

-- what w is as a value of the form
abbrev pub value_spelt : Order → Format → Form → List ℕ → Judgement Value
value_spelt order format form.Block2 w = block_spelt order 2 w
value_spelt order format form.Block4 w = block_spelt order 4 w
value_spelt order format form.Data2 w = number_spelt order 2 number w
value_spelt order format form.Data4 w = number_spelt order 4 number w
value_spelt order format form.Data8 w = number_spelt order 8 number w
value_spelt order format form.String w = text_spelt w
value_spelt order format form.Block w = leb_block_spelt w
value_spelt order format form.Block1 w = block_spelt order 1 w
value_spelt order format form.Data1 w = number_spelt order 1 number w
value_spelt order format form.Strp w = number_spelt order (offset_size format) str w
value_spelt order format form.Udata w = leb_spelt w
value_spelt order format form.StrpSup w = number_spelt order (offset_size format) str_sup w
value_spelt order format form.Data16 w = if length w == 16 then good (data16 w) else None
value_spelt order format form.LineStrp w = number_spelt order (offset_size format) line_str w
