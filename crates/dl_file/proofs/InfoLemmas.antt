-- The sections of units of .debug_info.
use Rattle.std.proofs.Common.{◌≡◌, ◌⊎◌, ℕ, Bool, true, false, List, Option, Some, None, Result, Ok, Err, MatchOption}
use Rattle.std.proofs.Common.{MatchResult, refl, sym, subst, option_map}
use Rattle.std.specs.Prelude.{if◌then◌else◌, ◌||◌, is_some}
use Rattle.std.specs.Option.{option_and_then}
use Rattle.std.specs.declared.io.Error.{Error}
use Rattle.dl_elf.specs.Compressed.{section_damage}
use Rattle.dl_elf.specs.declared.fault.ElfFault.{ElfFault}
use Rattle.dl_elf.specs.declared.fault.ElfFault.TheVariants as fault
use Rattle.dl_elf.specs.declared.file.Elf.{Elf}
use Rattle.dl_elf.specs.declared.name.SectionName.TheVariants.{DebugInfo, ZdebugInfo, DebugAbbrev, ZdebugAbbrev}
use Rattle.dl_elf.specs.declared.name.SectionName.TheVariants.{DebugStrOffsets, ZdebugStrOffsets, DebugStr, ZdebugStr}
use Rattle.dl_elf.specs.declared.name.SectionName.TheVariants.{DebugLineStr, ZdebugLineStr}
use Rattle.dl_elf.specs.declared.named.NamedSection.{NamedSection}
use Rattle.dl_elf.specs.Found.{AreFound, Sections}
use Rattle.dl_elf.specs.Sections.{opened, range_within, section_range}
use Rattle.dl_file.specs.declared.content_reader.Readable.{Readable}
use Rattle.dl_file.specs.declared.info_file.InfoFile.{InfoFile}
use Rattle.dl_file.specs.declared.info_file.InfoSections.{InfoSections}
use Rattle.dl_file.specs.declared.line_reader.LineReader.{LineReader}
use Rattle.dl_file.specs.Answering.{InfoLiesIn, LiesIn}
use Rattle.dl_file.specs.InfoTable.{HasInfo, InfoTable, IsInfoOf, OpensUnits, info_sections, named_section}
use Rattle.dl_file.specs.InfoTable.{OpensInfo, OpensInfoOf, TakesMemoryForInfo, readable}
use Rattle.dl_file.specs.LineTable.{Content, GivesLine, HasStream, IsLine, option_or, refused, with_stream}
use Rattle.dl_file.specs.Relocations.{HasRelocations}

-- memory may be refused for them
abbrev UnitsMemory : Elf → List ℕ → InfoSections → Type 0
UnitsMemory e f c = HasRelocations e f c.info.section.number ⊎ HasStream (Some c.info)

-- its relocations can't be applied
pub no_units : {S : Type 0} {g : _} (all_bytes : S → Option (List ℕ)) (fails_with : S → Error → Type 0) (fails : Error → Type 0) (e : Elf) (f : List ℕ) (c : InfoSections)
    (found : Option (LineReader S g)) → found ≡ None
    → OpensUnits all_bytes fails_with fails (IsLine e f c.info) (UnitsMemory e f c) (Ok found)
    → (t : Option InfoTable) × IsInfoOf e f c t × (t ≡ None)
no_units all_bytes fails_with fails e f c None is (first, answer) = (None, (Err first, answer, refl), refl)
no_units all_bytes fails_with fails e f c (Some reader) is opens = absurd (cc is)

-- there is a reader of its bytes
pub some_units : {S : Type 0} {g : _} (all_bytes : S → Option (List ℕ)) (fails_with : S → Error → Type 0) (fails : Error → Type 0) (e : Elf) (f : List ℕ) (c : InfoSections)
    (found : Option (LineReader S g)) (reader : LineReader S g) → found ≡ Some reader
    → OpensUnits all_bytes fails_with fails (IsLine e f c.info) (UnitsMemory e f c) (Ok found)
    → (info : Content) × IsLine e f c.info (Ok info) × GivesLine all_bytes fails_with fails reader info
some_units {S = S} {g = g} all_bytes fails_with fails e f c found reader is opens =
    subst (λ (o : Option (LineReader S g)). OpensUnits all_bytes fails_with fails (IsLine e f c.info) (UnitsMemory e f c) (Ok o)) is opens

-- what the sections come to is what the file comes to
pub has_info : (f : List ℕ) (e : Elf) (at : Sections) (t : Option InfoTable) → Ok e ≡ opened f → AreFound e f at
    → MatchOption (info_sections e f at) (t ≡ None) (λ c. IsInfoOf e f c t) → HasInfo f t
has_info f e at t is found table =
    let P : Result Elf ElfFault → Type 0 =
    λ r. MatchResult r (λ e. (at : Sections) × AreFound e f at
    × MatchOption (info_sections e f at) (t ≡ None) (λ c. IsInfoOf e f c t)) (λ first. t ≡ None) in
    subst P is (at, found, table)

-- by the sections that were found
pub of_sections : (e : Elf) (f : List ℕ) (at : Sections) (found : Option InfoSections) (t : Option InfoTable)
    → found ≡ info_sections e f at → MatchOption found (t ≡ None) (λ c. IsInfoOf e f c t)
    → MatchOption (info_sections e f at) (t ≡ None) (λ c. IsInfoOf e f c t)
of_sections e f at found t is has =
    subst (λ (o : Option InfoSections). MatchOption o (t ≡ None) (λ c. IsInfoOf e f c t)) is has

-- ---- a section that can be read lies in the file

same : (b : Bool) (s r : Readable) → ◌≡◌ {A = Option Readable} (if b then None else Some s) (Some r) → s ≡ r
same true s r is = absurd (cc is)
same false s r is = cc is

readable_within : (e : Elf) (f : List ℕ) (s : NamedSection) (r : Readable) → readable e f s ≡ Some r
    → range_within (section_range r.section.header) f ≡ true
readable_within e f s r is = by (range_within (section_range s.header) f) refl where
  by : (b : Bool) → range_within (section_range s.header) f ≡ b → range_within (section_range r.section.header) f ≡ true
  by true e' =
      subst (λ (n : Readable). range_within (section_range n.section.header) f ≡ true)
      (same (is_some (section_damage e f s) || is_some (refused e f s)) (with_stream e f s) r is) e'
  by false e' = absurd (cc (rw e' at is))

named_within : (e : Elf) (f : List ℕ) (o : Option NamedSection) (r : Readable)
    → option_and_then (readable e f) o ≡ Some r → range_within (section_range r.section.header) f ≡ true
named_within e f None r is = absurd (cc is)
named_within e f (Some s) r is = readable_within e f s r is

lies_in : (e : Elf) (f : List ℕ) (o : Option NamedSection) (n : Option Readable) → option_and_then (readable e f) o ≡ n
    → LiesIn f n
lies_in e f o None is = tt
lies_in e f o (Some r) is = named_within e f o r is

pub info_within : (e : Elf) (f : List ℕ) (at : Sections) (c : InfoSections) → Some c ≡ info_sections e f at
    → InfoLiesIn f c
info_within e f at c is =
    by (named_section e f at DebugInfo ZdebugInfo) (named_section e f at DebugAbbrev ZdebugAbbrev) refl refl is
  where
    with_both : Readable → Readable → InfoSections
    with_both info abbreviations = record {
      info = info;
      abbreviations = abbreviations;
      str_offsets = named_section e f at DebugStrOffsets ZdebugStrOffsets;
      debug_str = named_section e f at DebugStr ZdebugStr;
      debug_line_str = named_section e f at DebugLineStr ZdebugLineStr;
    }

    by : (o p : Option Readable) → named_section e f at DebugInfo ZdebugInfo ≡ o
        → named_section e f at DebugAbbrev ZdebugAbbrev ≡ p
        → Some c ≡ option_and_then (λ info. option_map (with_both info) p) o → InfoLiesIn f c
    by None p found besides is = absurd (cc is)
    by (Some info) None found besides is = absurd (cc is)
    by (Some info) (Some abbreviations) found besides is =
        let both : c ≡ with_both info abbreviations = cc is in
        let lie : InfoLiesIn f (with_both info abbreviations) = record {
          info = named_within e f (option_or (at DebugInfo) (at ZdebugInfo)) info found;
          abbreviations = named_within e f (option_or (at DebugAbbrev) (at ZdebugAbbrev)) abbreviations besides;
          str_offsets = lies_in e f (option_or (at DebugStrOffsets) (at ZdebugStrOffsets)) _ refl;
          str = lies_in e f (option_or (at DebugStr) (at ZdebugStr)) _ refl;
          line_str = lies_in e f (option_or (at DebugLineStr) (at ZdebugLineStr)) _ refl;
        } in
        subst (λ (x : InfoSections). InfoLiesIn f x) (sym both) lie

-- what opening the sections that were found answers is what opening the file does
pub opens_info : {S : Type 0} {g : _} (all_bytes : S → Option (List ℕ)) (fails_with : S → Error → Type 0) (fails : Error → Type 0) (f : List ℕ) (e : Elf) (at : Sections)
    (c : InfoSections) (result : Result (Option (InfoFile S g)) ElfFault) → Ok e ≡ opened f → AreFound e f at
    → Some c ≡ info_sections e f at → OpensInfoOf all_bytes fails_with fails (IsInfoOf e f c) (TakesMemoryForInfo e f c) result
    → OpensInfo all_bytes fails_with fails f result
opens_info all_bytes fails_with fails f e at c (Ok file) is found these (t, has, gives) =
    (t, has_info f e at t is found (of_sections e f at (Some c) t these has), gives)
opens_info all_bytes fails_with fails f e at c (Err (fault.Read error)) is found these opens = opens
opens_info all_bytes fails_with fails f e at c (Err fault.NoMemory) is found these opens = (e, sym is, at, found, c, sym these, opens)
opens_info all_bytes fails_with fails f e at c (Err other) is found these opens = opens
