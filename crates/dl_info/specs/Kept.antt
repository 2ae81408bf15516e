-- The abbreviations of a table that are kept; b: the bytes from the table on. No promise rests on how this is said.
use Rattle.std.specs.Prelude.{◌≡◌, ℕ, ◌==◌, Bool, not, if◌then◌else◌, List, length, drop, Option, Some, None, IfSome, option_map}
use Rattle.std.specs.Prelude.{Result, Ok, Err}
use Rattle.std.specs.BTreeMap.{get}
use Rattle.std.specs.List.{filter}
use Rattle.std.specs.Ordering.{nat_cmp}
use Rattle.dl_info.specs.declared.front.FieldFault.{FieldFault}
use Rattle.dl_info.specs.declared.form.Encoding.{Encoding}
use Rattle.dl_info.specs.declared.abbreviation.Attribute.{Attribute}
use Rattle.dl_info.specs.declared.abbreviations.Attributes.{Attributes}
use Rattle.dl_info.specs.declared.abbreviations.Attributes.TheVariants as attributes
use Rattle.dl_info.specs.declared.abbreviations.Last.{Last}
use Rattle.dl_info.specs.declared.abbreviations.Last.TheVariants as last
use Rattle.dl_info.specs.declared.abbreviations.Table.{Table}
use Rattle.dl_info.specs.Abbreviations.{Abbreviation, attributes_in, declared_in, HasEnd}
use Rattle.dl_info.specs.Entries.{EntryData, values_at}
use Rattle.dl_info.specs.Forms.{has_none}

-- a value of the attribute may have bytes
abbrev pub has_bytes : Attribute → Bool
has_bytes a = not (has_none a.form)

abbrev pub with_bytes : List Attribute → List Attribute
with_bytes = filter has_bytes

-- ---- a table

-- what is kept for a code
abbrev pub kept_in : Table → (code : ℕ) → Option (List Attribute)
kept_in t code = option_map (λ attributes. attributes.items) (get nat_cmp t.attributes code)

-- what is kept for a code with one abbreviation more, where this was kept before
abbrev pub kept_more : Option (List Attribute) → Abbreviation → (code : ℕ) → Option (List Attribute)
kept_more (Some attributes) d code = Some attributes
kept_more None d code = if d.code == code then Some (with_bytes d.attributes) else None

-- what is to be kept of attributes, if there are any
abbrev pub kept_of : Result (List Attribute) FieldFault → Option (List Attribute)
kept_of (Ok declared) = Some (with_bytes declared)
kept_of (Err s) = None

-- what is kept are the attributes that have bytes of the first abbreviation with each code
abbrev pub IsTable : Table → List ℕ → Type 0
IsTable t b = (code : ℕ) → kept_in t code ≡ kept_of (declared_in (length b) code b)

-- the table that is kept, and its offset
abbrev pub table_kept : Last → Option (ℕ × Table)
table_kept last.Nothing = None
table_kept (last.Seen offset) = None
table_kept (last.Kept offset table) = Some (offset, table)

abbrev pub IsRight : (section : List ℕ) → Last → Type 0
IsRight section l = IfSome (table_kept l) (λ kept. IsTable kept.1 (drop kept.0 section))

-- ---- attributes

abbrev pub list_of : Attributes → List Attribute
list_of (attributes.Declared b) = attributes_in b.now
list_of (attributes.Kept list) = list.now

-- the attributes end
abbrev pub Ends : Attributes → Type 0
Ends (attributes.Declared b) = HasEnd b.now
Ends (attributes.Kept list) = Unit {0}

-- entries with these attributes say the same
abbrev pub AreAlike : List Attribute → List Attribute → Type 0
AreAlike these those = (encoding : Encoding) (e : EntryData) (b : List ℕ)
    → values_at encoding these e b ≡ values_at encoding those e b

abbrev pub StandsFor : Result Attributes FieldFault → Result (List Attribute) FieldFault → Type 0
StandsFor (Ok found) (Ok declared) = AreAlike (list_of found) declared
StandsFor (Err s) (Err t) = s ≡ t
StandsFor (Ok found) (Err t) = ⊥
StandsFor (Err s) (Ok declared) = ⊥
