-- The first entry of a unit as a grammar: which bytes spell which value, in the standard's order. DWARF 5, sections 7.4 to
-- 7.6, and the same sections of DWARF 2, 3 and 4. w: the bytes.
use Rattle.std.specs.Prelude.{◌≡◌, ◌≢◌, ℕ, ◌+◌, ◌^◌, ◌<◌, Bool, true, false, nat_lt, ◌==◌, ◌||◌, List, [], ◌∷◌, ◌++◌}
use Rattle.std.specs.Prelude.{length, drop, Option, Some, None}
use Rattle.dl_num.specs.declared.fixed.Order.{Order}
use Rattle.dl_num.specs.Fixed.{fixed}
use Rattle.dl_num.specs.Leb.{IsUleb}
use Rattle.dl_table.specs.declared.form.Format.{Format}
use Rattle.dl_table.specs.declared.form.Format.TheVariants.{Dwarf32, Dwarf64}
use Rattle.dl_table.specs.Value.{offset_size}
use Rattle.dl_info.specs.declared.form.Encoding.{Encoding}
use Rattle.dl_info.specs.declared.form.Shape.{Shape}
use Rattle.dl_info.specs.declared.form.Shape.TheVariants as shape
use Rattle.dl_info.specs.declared.abbreviation.Attribute.{Attribute}
use Rattle.dl_info.specs.declared.head.Head.{Head}
use Rattle.dl_info.specs.declared.head.UnitLength.{UnitLength}
use Rattle.dl_info.specs.Forms.{shape_of, Told}
use Rattle.dl_info.specs.Heads.{kind_size}
use Rattle.dl_info.specs.Abbreviations.{Abbreviation, is_end}
use Rattle.dl_info.specs.Entries.{EntryData, with_value, without_values}

-- ---- what is put together

-- w is a part that spells some x, and a part that spells y after x
abbrev pub Then : {A B : Type 0} → (A → List ℕ → Type 0) → (A → B → List ℕ → Type 0) → B → List ℕ → Type 0
Then {A = A} S T y w = (x : A) × (u : List ℕ) × (v : List ℕ) × (w ≡ u ++ v) × S x u × T x y v

-- nothing follows, and the value is this one
abbrev pub Done : {A : Type 0} → A → A → List ℕ → Type 0
Done x y w = (y ≡ x) × (w ≡ [])

-- nothing is spelled so
abbrev pub Never : {A : Type 0} → A → List ℕ → Type 0
Never y w = ⊥

abbrev pub Which : {A : Type 0} → Bool → (A → List ℕ → Type 0) → (A → List ℕ → Type 0) → A → List ℕ → Type 0
Which true S T = S
Which false S T = T

abbrev pub Known : {A B : Type 0} → Option A → (A → B → List ℕ → Type 0) → B → List ℕ → Type 0
Known (Some x) S = S x
Known None S = Never

-- ---- fields

abbrev pub IsBytes : ℕ → List ℕ → List ℕ → Type 0
IsBytes n bytes w = (w ≡ bytes) × (length w ≡ n)

abbrev pub IsFixed : Order → ℕ → ℕ → List ℕ → Type 0
IsFixed order k n w = (length w ≡ k) × (n ≡ fixed order w)

abbrev pub IsUleb64 : ℕ → List ℕ → Type 0
IsUleb64 n w = IsUleb w n × (n < 2 ^ 64)

-- a number in LEB128 of any size, by its bytes
abbrev pub IsNumber : List ℕ → List ℕ → Type 0
IsNumber bytes w = (w ≡ bytes) × ((n : ℕ) × IsUleb w n)

-- no byte is zero
abbrev pub HasNoZero : List ℕ → Type 0
HasNoZero [] = Unit {0}
HasNoZero (b ∷ w) = (b ≢ 0) × HasNoZero w

-- a text and its zero byte
abbrev pub IsText : List ℕ → List ℕ → Type 0
IsText text w = (w ≡ text ++ 0 ∷ []) × HasNoZero text

-- ---- values

-- a length, and as many bytes
abbrev pub IsSized : Order → ℕ → List ℕ → List ℕ → Type 0
IsSized order k = Then (IsFixed order k) IsBytes

abbrev pub IsLebSized : List ℕ → List ℕ → Type 0
IsLebSized = Then IsUleb64 IsBytes

abbrev pub IsShaped : Order → Shape → List ℕ → List ℕ → Type 0
IsShaped order (shape.Bytes n) = IsBytes n
IsShaped order shape.Leb = IsNumber
IsShaped order shape.Text = IsText
IsShaped order shape.Block1 = IsSized order 1
IsShaped order shape.Block2 = IsSized order 2
IsShaped order shape.Block4 = IsSized order 4
IsShaped order shape.Block = IsLebSized

-- a value of a form that has a shape
abbrev pub IsDirect : Encoding → ℕ → Told → List ℕ → Type 0
IsDirect e form = Known (shape_of e form) λ s. Then (IsShaped e.order s) λ bytes. Done (record { form = form; bytes = bytes })

-- a form, which isn't implicit_const, and a value of it
abbrev pub IsIndirect : Encoding → Told → List ℕ → Type 0
IsIndirect e = Then IsUleb64 λ form. Which (form == 0x21) Never (IsDirect e form)

abbrev pub IsValue : Encoding → ℕ → Told → List ℕ → Type 0
IsValue e form = Which (form == 0x16) (IsIndirect e) (IsDirect e form)

-- values of these attributes, one after the other, make of what an entry says so far what it says
abbrev pub AreValues : Encoding → List Attribute → EntryData → EntryData → List ℕ → Type 0
AreValues e [] told = Done told
AreValues e (a ∷ attributes) told =
    Then (IsValue e a.form) λ v. AreValues e attributes (with_value e.order a.name v told)

-- ---- heads

-- unit_length: four bytes below 0xfffffff0; or 0xffffffff, and eight bytes
abbrev pub IsLongLength : Order → UnitLength → List ℕ → Type 0
IsLongLength order =
    Then (IsFixed order 8) λ n. Which (nat_lt (n + 12) (2 ^ 64)) (Done (record { format = Dwarf64; size = n + 12 })) Never

abbrev pub IsLength : Order → UnitLength → List ℕ → Type 0
IsLength order =
    Then (IsFixed order 4) λ n. Which (nat_lt n 0xfffffff0) (Done (record { format = Dwarf32; size = n + 4 }))
    (Which (n == 0xffffffff) (IsLongLength order) Never)

-- debug_abbrev_offset, address_size
abbrev pub IsOlderHead : Order → Format → ℕ → Head → List ℕ → Type 0
IsOlderHead order format version =
    Then (IsFixed order (offset_size format)) λ abbreviations. Then (IsFixed order 1) λ address.
    Done (record {
      encoding = record { order = order; format = format; version = version; address_size = address };
      abbreviations = abbreviations;
    })

-- unit_type, address_size, debug_abbrev_offset, and what else a unit of this type has
abbrev pub IsNewerHead : Order → Format → Head → List ℕ → Type 0
IsNewerHead order format =
    Then (IsFixed order 1) λ kind. Known (kind_size format kind) λ more. Then (IsFixed order 1) λ address.
    Then (IsFixed order (offset_size format)) λ abbreviations. Then (IsBytes more) λ others.
    Done (record {
      encoding = record { order = order; format = format; version = 5; address_size = address };
      abbreviations = abbreviations;
    })

abbrev pub IsHead : Order → Head → List ℕ → Type 0
IsHead order =
    Then (IsLength order) λ l. Then (IsFixed order 2) λ version.
    Which ((version == 2) || (version == 3) || (version == 4)) (IsOlderHead order l.format version)
    (Which (version == 5) (IsNewerHead order l.format) Never)

-- ---- abbreviations

-- name and form; after implicit_const its value, a signed number in LEB128
abbrev pub IsAttribute : Attribute → List ℕ → Type 0
IsAttribute =
    Then IsUleb64 λ name. Then IsUleb64 λ form.
    Which (form == 0x21) (Then IsNumber λ value. Done (record { name = name; form = form }))
    (Done (record { name = name; form = form }))

-- these, none of which is the pair of zeros, and that pair
abbrev pub AreAttributes : List Attribute → List ℕ → Type 0
AreAttributes [] w = (end : Attribute) × (is_end end ≡ true) × IsAttribute end w
AreAttributes (a ∷ attributes) w =
    (u : List ℕ) × (v : List ℕ) × (w ≡ u ++ v) × (is_end a ≡ false) × IsAttribute a u × AreAttributes attributes v

-- a code, which isn't 0, a tag, a byte that says whether entries have children, and attributes
abbrev pub IsAbbreviation : Abbreviation → List ℕ → Type 0
IsAbbreviation =
    Then IsUleb64 λ code. Which (code == 0) Never (Then IsUleb64 λ tag. Then (IsBytes 1) λ children.
    Then AreAttributes λ attributes. Done (record { code = code; attributes = attributes }))

-- b begins with these abbreviations, none of which has the code, and one with the code and the attributes
abbrev pub Declares : List Abbreviation → (code : ℕ) → List Attribute → List ℕ → Type 0
Declares [] code attributes b =
    (d : Abbreviation) × (w : List ℕ) × (rest : List ℕ) × (b ≡ w ++ rest) × IsAbbreviation d w
    × ((d.code == code) ≡ true) × (d.attributes ≡ attributes)
Declares (d ∷ before) code attributes b =
    (w : List ℕ) × (rest : List ℕ) × (b ≡ w ++ rest) × IsAbbreviation d w × ((d.code == code) ≡ false)
    × Declares before code attributes rest

-- ---- entries

-- the head of the unit, the entry's code, and values of the attributes of the abbreviation with this code
abbrev pub IsEntry : Order → (abbreviations : List ℕ) → EntryData → List ℕ → Type 0
IsEntry order abbreviations =
    Then (IsHead order) λ head. Then IsUleb64 λ code e w. (before : List Abbreviation) × (attributes : List Attribute)
    × Declares before code attributes (drop head.abbreviations abbreviations)
    × AreValues head.encoding attributes (without_values head.encoding.format) e w
