-- Laws of the definitions of units. b: bytes.
use Rattle.std.specs.Prelude.{◌≡◌, ◌↔◌, ℕ, ◌≤◌, List, [], ◌++◌, length, take}
use Rattle.dl_num.specs.declared.fixed.Order.{Order}
use Rattle.dl_info.specs.declared.head.UnitLength.{UnitLength}
use Rattle.dl_info.specs.declared.unit.Answer.{Answer}
use Rattle.dl_info.specs.declared.unit.Answer.TheVariants.{Found, More}
use Rattle.dl_info.specs.Abbreviations.{attributes_at, declared_in}
use Rattle.dl_info.specs.Entries.{EntryData}
use Rattle.dl_info.specs.Grammar.{IsEntry, IsLength}
use Rattle.dl_info.specs.Units.{first_entry, unit_length}

-- ---- abbreviations

-- there are no more attributes than bytes, so a larger bound reads the same
abbrev pub AttributesAreBounded : Type 0
AttributesAreBounded = (n : ℕ) (b : List ℕ) → length b ≤ n → attributes_at n b ≡ attributes_at (length b) b

-- nor more abbreviations
abbrev pub AbbreviationsAreBounded : Type 0
AbbreviationsAreBounded =
    (n code : ℕ) (b : List ℕ) → length b ≤ n → declared_in n code b ≡ declared_in (length b) code b

-- ---- units

-- what is found as the length of a unit is spelled at the front of the bytes, and each one is found
abbrev pub LengthIsSpelled : Type 0
LengthIsSpelled = (order : Order) (b : List ℕ) (l : UnitLength)
    → (unit_length order b ≡ Found l) ↔ ((w : List ℕ) × (rest : List ℕ) × (b ≡ w ++ rest) × IsLength order l w)

-- what is found as the first entry of a unit is spelled at the front of the unit's bytes, and each one is found
abbrev pub EntryIsSpelled : Type 0
EntryIsSpelled = (order : Order) (abbreviations b : List ℕ) (l : UnitLength) (e : EntryData)
    → unit_length order b ≡ Found l
    → (first_entry order abbreviations b ≡ Found e)
    ↔ ((w : List ℕ) × (rest : List ℕ) × (take l.size b ≡ w ++ rest) × IsEntry order abbreviations e w)

-- bytes spell one entry, and begin no other spelling
abbrev pub OneEntry : Type 0
OneEntry = (order : Order) (abbreviations w v : List ℕ) (e f : EntryData) → IsEntry order abbreviations e w
    → IsEntry order abbreviations f (w ++ v) → (v ≡ []) × (e ≡ f)

-- it isn't that more bytes are wanted
abbrev pub IsTold : {A : Type 0} → Answer A → Type 0
IsTold answer = answer ≡ More → ⊥

-- a length that is told of some bytes is told of them with others behind
abbrev pub LengthsStay : Type 0
LengthsStay = (order : Order) (b c : List ℕ) → IsTold (unit_length order b) → unit_length order (b ++ c) ≡ unit_length order b

-- and so is a first entry
abbrev pub AnswersStay : Type 0
AnswersStay = (order : Order) (abbreviations b c : List ℕ) → IsTold (first_entry order abbreviations b)
    → first_entry order abbreviations (b ++ c) ≡ first_entry order abbreviations b

-- twelve bytes tell a length, or that it is none
abbrev pub TwelveBytesTell : Type 0
TwelveBytesTell = (order : Order) (b : List ℕ) → 12 ≤ length b → IsTold (unit_length order b)

-- all bytes of a unit tell its first entry, or that it can't be read
abbrev pub WholeUnitsTell : Type 0
WholeUnitsTell = (order : Order) (abbreviations b : List ℕ) (l : UnitLength) → unit_length order b ≡ Found l
    → l.size ≤ length b → IsTold (first_entry order abbreviations b)
