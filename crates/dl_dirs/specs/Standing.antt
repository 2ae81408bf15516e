-- Which bytes a walk over the units of .debug_info has taken. No promise rests on how this is said.
use Rattle.std.specs.Prelude.{◌≡◌, ℕ, ◌+◌, ◌≤◌, min, List, [], ◌++◌, length, take, drop}
use Rattle.dl_num.specs.declared.fixed.Order.{Order}
use Rattle.dl_info.specs.declared.head.UnitLength.{UnitLength}
use Rattle.dl_info.specs.declared.unit.Answer.{Answer}
use Rattle.dl_info.specs.declared.unit.Answer.TheVariants.{Found, More, Unreadable}
use Rattle.dl_info.specs.Entries.{EntryData}
use Rattle.dl_info.specs.Section.{section_of}
use Rattle.dl_info.specs.Units.{first_entry, unit_length}
use Rattle.dl_dirs.specs.declared.walk.InfoStage.{InfoStage}
use Rattle.dl_dirs.specs.declared.walk.InfoStage.TheVariants as state
use Rattle.dl_dirs.specs.declared.walk.Walk.{Walk}
use Rattle.dl_dirs.specs.declared.places.Places.{Places}
use Rattle.dl_dirs.specs.Holding.{Fits, Holds}
use Rattle.dl_dirs.specs.Units.{entries}

-- the length of a unit, once its first entry is told
abbrev pub told_by : Answer EntryData → Answer UnitLength → Answer UnitLength
told_by (Found e) length = length
told_by More length = More
told_by Unreadable length = length

abbrev pub told_length : Order → (abbreviations : List ℕ) → List ℕ → Answer UnitLength
told_length order abbreviations b = told_by (first_entry order abbreviations b) (unit_length order b)

-- with so many bytes more, of which there are some, these still go no further than the unit that they begin with
pub record Awaits (order : Order) (front : List ℕ) (wanted : ℕ) : Type 0 where
  pub some : 1 ≤ wanted
  pub fits : (more : List ℕ) (l : UnitLength) → length more ≤ wanted → unit_length order (front ++ more) ≡ Found l
      → length (front ++ more) ≤ l.size

-- after b the first entries of units are es, and then those of front with what follows
abbrev pub Onward : Order → (abbreviations : List ℕ) → (b : List ℕ) → List EntryData → (front : List ℕ) → Type 0
Onward order abbreviations b es front = (rest : List ℕ)
    → entries order abbreviations (b ++ rest) ≡ es ++ entries order abbreviations (front ++ rest)

abbrev pub StandsAt : Order → (abbreviations : List ℕ) → InfoStage → (front b : List ℕ) → List EntryData → Type 0
StandsAt order abbreviations (state.Begun wanted) front b es =
    Awaits order front wanted × Onward order abbreviations b es front
StandsAt order abbreviations (state.Body left) front b es = (rest : List ℕ)
    → entries order abbreviations (b ++ rest) ≡ es ++ entries order abbreviations (drop left rest)
StandsAt order abbreviations state.Ended front b es = (rest : List ℕ) → entries order abbreviations (b ++ rest) ≡ es

-- the walk has taken the bytes b of a section of this order, with these abbreviations
pub record StandsFor (walk : Walk) (order : Order) (abbreviations b : List ℕ) : Type 0 where
  pub order_is : walk.places.order ≡ order
  pub abbreviations_are : section_of walk.abbreviations ≡ abbreviations
  pub es : List EntryData
  pub holds : Holds walk.places es
  pub stands : StandsAt order abbreviations walk.state walk.front.items b es

-- the same where what follows front settles it, whatever the walk's state is
pub record GoesOn (walk : Walk) (order : Order) (abbreviations b front : List ℕ) : Type 0 where
  pub order_is : walk.places.order ≡ order
  pub abbreviations_are : section_of walk.abbreviations ≡ abbreviations
  pub es : List EntryData
  pub holds : Holds walk.places es
  pub onward : Onward order abbreviations b es front

-- so many bytes of the piece were taken after b, and some were
abbrev pub Took : Walk → Order → (abbreviations b piece : List ℕ) → ℕ → Type 0
Took walk order abbreviations b piece used =
    (1 ≤ used) × StandsFor walk order abbreviations (b ++ take used piece)

-- ---- how much a walk keeps

-- how many of these bytes of a unit are passed over, by what they tell of its length
abbrev pub passed : Answer UnitLength → (front : List ℕ) → ℕ
passed (Found l) front = min l.size (length front)
passed More front = 0
passed Unreadable front = length front

-- places of units that were passed over, and these first bytes of one more, are no more than were taken
pub record KeepsWith (places : Places) (front : List ℕ) (taken : ℕ) : Type 0 where
  pub es : List EntryData
  pub holds : Holds places es
  pub over : ℕ
  pub fits : Fits places over
  pub within : over + length front ≤ taken

-- the first bytes that are kept of a unit
abbrev pub begun : InfoStage → (front : List ℕ) → List ℕ
begun (state.Begun wanted) front = front
begun (state.Body left) front = []
begun state.Ended front = []

-- a walk that has taken so many bytes keeps no more entries than these, nor bytes of texts and of the unit that it is in
abbrev pub Keeps : Walk → (taken : ℕ) → Type 0
Keeps walk taken = KeepsWith walk.places (begun walk.state walk.front.items) taken
