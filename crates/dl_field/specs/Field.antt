-- Good fields in the standard's words: which bytes spell which value. DWARF 5, sections 6.2.4, 7.4, 7.5.4 to 7.5.6.
use Rattle.std.specs.Prelude.{◌≡◌, ◌≢◌, ℕ, ◌^◌, ◌<◌, ◌≤◌, List, [], ◌∷◌, ◌++◌, length, Option, Some, None, ◌⊎◌}
use Rattle.dl_num.specs.declared.fixed.Order.{Order}
use Rattle.dl_num.specs.Fixed.{fixed}
use Rattle.dl_num.specs.Leb.{IsUleb}
use Rattle.dl_table.specs.declared.form.Format.{Format}
use Rattle.dl_table.specs.declared.form.Format.TheVariants.{Dwarf32, Dwarf64}
use Rattle.dl_table.specs.declared.form.Form.{Form}
use Rattle.dl_table.specs.declared.form.Form.TheVariants as form
use Rattle.dl_table.specs.Value.{Value, text, line_str, str, str_sup, number, block, data16, form_code, offset_size}
use Rattle.dl_field.specs.Layout.{number_size, objection, unit_length_limit, Layout, initial_length_then, number_then}
use Rattle.dl_field.specs.Layout.{form_then, value_then, path_or_end, foreign_version, last_entry, Item, length_is, number_is}
use Rattle.dl_field.specs.Layout.{form_is, value_is, end_is}

-- w is a number of k bytes
abbrev pub IsFixed : Order → ℕ → ℕ → List ℕ → Type 0
IsFixed order k n w = (length w ≡ k) × (n ≡ fixed order w)

-- w is a number in LEB128 below 2^64
abbrev pub IsUleb64 : ℕ → List ℕ → Type 0
IsUleb64 n w = IsUleb w n × (n < 2 ^ 64)

-- no byte is zero
abbrev pub HasNoZero : List ℕ → Type 0
HasNoZero [] = Unit {0}
HasNoZero (b ∷ w) = (b ≢ 0) × HasNoZero w

-- w is the bytes without zeros, and a zero byte
abbrev pub IsText : List ℕ → List ℕ → Type 0
IsText bytes w = (w ≡ bytes ++ 0 ∷ []) × HasNoZero bytes

-- w is the length, as it is spelled, and the bytes
abbrev pub IsBlock : (ℕ → List ℕ → Type 0) → List ℕ → List ℕ → Type 0
IsBlock IsLength bytes w = (size : List ℕ) × (w ≡ size ++ bytes) × IsLength (length bytes) size

-- w is the value in the form, section 7.5.6
abbrev pub IsValue : Order → Format → Form → Value → List ℕ → Type 0
IsValue order format form.Block2 v w = (bytes : List ℕ) × (v ≡ block bytes) × IsBlock (IsFixed order 2) bytes w
IsValue order format form.Block4 v w = (bytes : List ℕ) × (v ≡ block bytes) × IsBlock (IsFixed order 4) bytes w
IsValue order format form.Data2 v w = (n : ℕ) × (v ≡ number n) × IsFixed order 2 n w
IsValue order format form.Data4 v w = (n : ℕ) × (v ≡ number n) × IsFixed order 4 n w
IsValue order format form.Data8 v w = (n : ℕ) × (v ≡ number n) × IsFixed order 8 n w
IsValue order format form.String v w = (bytes : List ℕ) × (v ≡ text bytes) × IsText bytes w
IsValue order format form.Block v w = (bytes : List ℕ) × (v ≡ block bytes) × IsBlock IsUleb64 bytes w
IsValue order format form.Block1 v w = (bytes : List ℕ) × (v ≡ block bytes) × IsBlock (IsFixed order 1) bytes w
IsValue order format form.Data1 v w = (n : ℕ) × (v ≡ number n) × IsFixed order 1 n w
IsValue order format form.Strp v w = (n : ℕ) × (v ≡ str n) × IsFixed order (offset_size format) n w
IsValue order format form.Udata v w = (n : ℕ) × (v ≡ number n) × IsUleb64 n w
IsValue order format form.StrpSup v w = (n : ℕ) × (v ≡ str_sup n) × IsFixed order (offset_size format) n w
IsValue order format form.Data16 v w = (v ≡ data16 w) × (length w ≡ 16)
IsValue order format form.LineStrp v w = (n : ℕ) × (v ≡ line_str n) × IsFixed order (offset_size format) n w

-- w is unit_length: four bytes below 0xfffffff0; or 0xffffffff, and eight bytes, section 7.4
abbrev pub IsInitialLength : Order → Format → ℕ → List ℕ → Type 0
IsInitialLength order Dwarf32 n w = IsFixed order 4 n w × (n < 0xfffffff0)
IsInitialLength order Dwarf64 n w =
    (escape : List ℕ) × (rest : List ℕ) × (w ≡ escape ++ rest) × IsFixed order 4 0xffffffff escape
    × IsFixed order 8 n rest × (n ≤ unit_length_limit)

-- w is a number of this size, or in LEB128
abbrev pub IsNumber : Order → Option ℕ → ℕ → List ℕ → Type 0
IsNumber order (Some k) n w = IsFixed order k n w
IsNumber order None n w = IsUleb w n

-- w is a good field at the front of the layout, and i its value
abbrev pub IsField : Order → Layout → Item → List ℕ → Type 0
IsField order (initial_length_then next) i w = (format : Format) × (n : ℕ) × (i ≡ length_is format n)
    × IsInitialLength order format n w
IsField order (number_then field next) i w = (n : ℕ) × (i ≡ number_is n) × IsNumber order (number_size field) n w
    × (objection field n ≡ None)
IsField order (form_then next) i w = (f : Form) × (i ≡ form_is f) × IsUleb w (form_code f)
IsField order (value_then format f next) i w = (v : Value) × (i ≡ value_is v) × IsValue order format f v w
IsField order (path_or_end format pairs entries next) i w = ((i ≡ end_is (length pairs)) × (w ≡ 0 ∷ []))
    ⊎ ((bytes : List ℕ) × (i ≡ value_is (text bytes)) × IsText bytes w × (1 ≤ length bytes))
IsField order (foreign_version v) i w = ⊥
IsField order (last_entry h) i w = ⊥
