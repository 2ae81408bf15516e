-- What was read of the units of .debug_info and of their texts. No promise rests on how this is said.
use Rattle.std.specs.Prelude.{◌≡◌, ℕ, List, length, Option, Some, None, MatchOption}
use Rattle.std.specs.Option.{option_and_then}
use Rattle.dl_num.specs.declared.fixed.Order.{Order}
use Rattle.dl_dirs.specs.declared.places.Places.{Places}
use Rattle.dl_dirs.specs.declared.walk.Walk.{Walk}
use Rattle.dl_dirs.specs.Holding.{AreOf}
use Rattle.dl_dirs.specs.Standing.{Keeps, StandsFor}
use Rattle.dl_dirs.specs.Texts.{TextsData}
use Rattle.dl_dirs.specs.Units.{entries, has_index, has_line_str, has_str, Stands}
use Rattle.dl_file.specs.LineTable.{Content}
use Rattle.dl_file.specs.InfoTable.{InfoTable}
use Rattle.dl_sections.specs.declared.options.TheConstants.{SECTION_LIMIT}
use Rattle.dl_open.specs.declared.strings.TheConstants.{STRINGS_LIMIT}
use Rattle.dl_open.specs.Directories.{bytes_had}

-- the walk has taken all bytes of .debug_info, and keeps no more than these; none, where they can't be had
abbrev pub IsWalked : Order → (abbreviations : List ℕ) → Content → Option Walk → Type 0
IsWalked order abbreviations info walk = MatchOption walk (bytes_had SECTION_LIMIT info ≡ None)
    (λ walk. (b : List ℕ) × (bytes_had SECTION_LIMIT info ≡ Some b) × StandsFor walk order abbreviations b
    × Keeps walk (length b))

-- these are the places of the directories that they say
abbrev pub ArePlaces : Order → (abbreviations : List ℕ) → Content → Option Places → Type 0
ArePlaces order abbreviations info places = MatchOption places (bytes_had SECTION_LIMIT info ≡ None)
    (λ places. (b : List ℕ) × (bytes_had SECTION_LIMIT info ≡ Some b) × AreOf places order abbreviations b)

-- the same where .debug_abbrev can be had
abbrev pub AreFound : Order → (abbreviations info : Content) → Option Places → Type 0
AreFound order abbreviations info places = MatchOption (bytes_had STRINGS_LIMIT abbreviations) (places ≡ None)
    (λ a. ArePlaces order a info places)

-- the bytes of a section, where it can be had and is wanted
abbrev pub IsHadWhere : (Wanted : Type 0) → Option Content → (held : Option (List ℕ)) → Type 0
IsHadWhere Wanted content held = Wanted → held ≡ option_and_then (bytes_had STRINGS_LIMIT) content

-- those of each section in which a text stands of the directories that are said in b
pub record AreHad (order : Order) (abbreviations b : List ℕ) (t : InfoTable) (held : TextsData) : Type 0 where
  pub str_offsets : IsHadWhere (Stands has_index (entries order abbreviations b)) t.str_offsets held.str_offsets
  pub str : IsHadWhere (Stands has_str (entries order abbreviations b)) t.str held.debug_str
  pub line_str : IsHadWhere (Stands has_line_str (entries order abbreviations b)) t.line_str held.debug_line_str
