-- The answer of a file whose headers were read.
use Rattle.std.proofs.Common.{◌≡◌, ◌⊎◌, ℕ, ◌==◌, Bool, false, if◌then◌else◌, List, [], ◌∷◌, Option, None, Some, Result, Ok, Err}
use Rattle.std.proofs.Common.{MatchResult, MatchOption, inl, inr, option_map, refl, sym, subst, true, ◌∙◌}
use Rattle.std.proofs.lemmas.Bool.{cases_Bool}
use Rattle.std.specs.declared.io.Error.{Error}
use Rattle.dl_elf.specs.declared.header.FileHeader.{FileHeader}
use Rattle.dl_elf.specs.declared.file.Elf.{Elf}
use Rattle.dl_elf.specs.declared.fault.ElfFault.{ElfFault}
use Rattle.dl_elf.specs.declared.fault.ElfFault.TheVariants as fault
use Rattle.dl_elf.specs.Answers.{Answers}
use Rattle.dl_elf.specs.Compressed.{section_damage}
use Rattle.dl_elf.specs.declared.fault.Part.{Part}
use Rattle.dl_elf.specs.declared.fault.Part.TheVariants as part
use Rattle.dl_elf.specs.declared.named.NamedSection.{NamedSection}
use Rattle.std.specs.Option.{option_and_then}
use Rattle.dl_elf.specs.Elf.{file_header}
use Rattle.dl_elf.specs.Sections.{count_in, names_range, opened, opened_by, range_within, reasons, section_range, unless}
use Rattle.dl_elf.specs.Sections.{without_names}
use Rattle.dl_elf.specs.declared.build_id.BuildId.{BuildId}
use Rattle.dl_elf.specs.declared.name.SectionName.TheVariants.{BuildIdNote}
use Rattle.dl_elf.specs.Notes.{build_id_bytes, build_id_of}
use Rattle.dl_elf.specs.Found.{AreFound, Sections}
use Rattle.dl_file.specs.declared.content_reader.Readable.{Readable}
use Rattle.dl_file.specs.declared.line_file.Chosen.{Chosen}
use Rattle.dl_file.specs.declared.line_file.Wanted.{Wanted}
use Rattle.dl_file.specs.declared.line_file.LineFile.{LineFile}
use Rattle.dl_file.specs.Answering.{LiesIn, OpensLine, OpensTable}
use Rattle.dl_file.specs.LineTable.{Content, HasLineTable, IsLine, IsLineTable, IsTableOf, LineTable, Opens, chosen}
use Rattle.dl_file.specs.LineTable.{IsWithoutLineSection, TakesMemoryFor, first_damage, first_refused}
use Rattle.dl_file.specs.LineTable.{HasStream, option_or, with_line, with_stream}
use Rattle.dl_file.specs.Relocations.{HasRelocations}

-- none of the wanted sections has damage, and none is compressed otherwise than with zlib
pub table_whole : (e : Elf) (f : List ℕ) (c : Chosen) (line : Result Content ElfFault) → first_damage e f c ≡ None
    → first_refused e f c ≡ None → IsLine e f (with_stream e f c.line) line → IsTableOf e f c (with_line e f c line)
table_whole e f c line undamaged unrefused is = rw (undamaged, unrefused) (line, is, refl)

-- and there is no reader of the line section
pub line_stops : {S : Type 0} (g : _) (all_bytes : S → Option (List ℕ)) (fails_with : S → Error → Type 0) (fails : Error → Type 0)
    (e : Elf) (f : List ℕ) (c : Chosen) (line : Readable) (why : ElfFault) → first_damage e f c ≡ None
    → first_refused e f c ≡ None → line ≡ with_stream e f c.line
    → OpensLine {g = g} all_bytes fails_with fails (IsLine e f line)
    (HasRelocations e f line.section.number ⊎ HasStream (Some line)) (Err why)
    → OpensTable {g = g} all_bytes fails_with fails (IsTableOf e f c) (TakesMemoryFor e f c) (Err why)
line_stops g all_bytes fails_with fails e f c line (fault.Read error) undamaged unrefused is opens = tt
line_stops g all_bytes fails_with fails e f c line fault.NoMemory undamaged unrefused is (inl relocations) =
    inl (rw is at relocations)
line_stops g all_bytes fails_with fails e f c line fault.NoMemory undamaged unrefused is (inr stream) =
    inr (inl (rw is at stream))
line_stops g all_bytes fails_with fails e f c line other undamaged unrefused is opens =
    table_whole e f c (Err other) undamaged unrefused (rw is at opens)

-- sections without damage lie in the file
lies : (e : Elf) (f : List ℕ) (s : NamedSection) (found : Option Part) → found ≡ section_damage e f s → found ≡ None
    → range_within (section_range s.header) f ≡ true
lies e f s found is none = elim (cases_Bool (range_within (section_range s.header) f)) [
  | inl within ↦ within
  | inr out ↦ (let damaged : section_damage e f s ≡ Some (part.Section s.name) = rw out refl in
      absurd (cc (sym none ∙ (is ∙ damaged))))
]

lies_where : (e : Elf) (f : List ℕ) (o : Option NamedSection) → option_and_then (section_damage e f) o ≡ None
    → LiesIn f (option_map (with_stream e f) o)
lies_where e f None none = tt
lies_where e f (Some s) none = lies e f s (section_damage e f s) refl none

second_none : {A : Type 0} (o p : Option A) → ◌≡◌ {A = Option A} (option_or o p) None → ◌≡◌ {A = Option A} p None
second_none None p is = is
second_none (Some x) p is = absurd (cc is)

first_none : {A : Type 0} (o p : Option A) → ◌≡◌ {A = Option A} (option_or o p) None → ◌≡◌ {A = Option A} o None
first_none None p is = refl
first_none (Some x) p is = absurd (cc is)

pub strings_lie : (e : Elf) (f : List ℕ) (c : Chosen) → first_damage e f c ≡ None
    → LiesIn f (option_map (with_stream e f) c.debug_line_str) × LiesIn f (option_map (with_stream e f) c.debug_str)
strings_lie e f c none =
    let both = second_none (section_damage e f c.line) _ none in (
      lies_where e f c.debug_line_str (first_none (option_and_then (section_damage e f) c.debug_line_str) _ both),
      lies_where e f c.debug_str (second_none (option_and_then (section_damage e f) c.debug_line_str) _ both),
    )

-- what the sections of the names come to is what the file comes to
pub has_table : (f : List ℕ) (e : Elf) (at : Sections) (wanted : Wanted) (result : Result LineTable ElfFault)
    → Ok e ≡ opened f → AreFound e f at
    → IsLineTable e f at wanted result → HasLineTable f wanted result
has_table f e at wanted result is found table =
    let P : Result Elf ElfFault → Type 0 =
    λ r. MatchResult r (λ e. (at : Sections) × AreFound e f at × IsLineTable e f at wanted result) (λ first. result
    ≡ Err first) in
    subst P is (at, found, table)

-- ---- no fault of the headers is that memory was refused

abbrev pub MemoryIsFree : Result Elf ElfFault → Type 0
MemoryIsFree (Err fault.NoMemory) = ⊥
MemoryIsFree other = Unit {0}

-- a reason is no want of memory, and so none of several
abbrev Free : List (Bool × ElfFault) → Type 0
Free [] = Unit {0}
Free (reason ∷ more) = MemoryIsFree (Err reason.1) × Free more

unless_free : (reasons : List (Bool × ElfFault)) (e : Elf) → Free reasons → MemoryIsFree (unless reasons e)
unless_free [] e free = tt
unless_free (reason ∷ more) e free = by (unless_free more e free.1) reason.0
  where
    by : MemoryIsFree (unless more e) → (t : Bool) → MemoryIsFree (if t then Err reason.1 else unless more e)
    by later true = free.0
    by later false = later

pub header_free : (f : List ℕ) (header : Option FileHeader) → MemoryIsFree (opened_by f header)
header_free f None = tt
header_free f (Some h) = by (h.table_offset == 0)
  where
    file : Elf
    file = record { header = h; count = count_in h f; names = names_range h f }

    by : (t : Bool) → MemoryIsFree (if t then Ok (without_names h 0) else unless (reasons h f) file)
    by true = tt
    by false = unless_free (reasons h f) file (tt, (tt, (tt, (tt, (tt, (tt, tt))))))

-- ---- what open_line_file answers

-- the fault of a file whose headers can't be read
pub opens_fault : {S : Type 0} (g : _) (all_bytes : S → Option (List ℕ)) (fails_with : S → Error → Type 0) (fails : Error → Type 0) (f : List ℕ) (wanted : Wanted) (why : ElfFault)
    → Answers (opened f) (Err why) → Opens {g = g} all_bytes fails_with fails f wanted (Err why)
opens_fault g all_bytes fails_with fails f wanted (fault.Read error) is = tt
opens_fault g all_bytes fails_with fails f wanted fault.NoMemory is =
    absurd (subst MemoryIsFree (sym is) (header_free f (file_header f)))
opens_fault g all_bytes fails_with fails f wanted other is =
    let P : Result Elf ElfFault → Type 0 =
    λ r. MatchResult r (λ e. (at : Sections) × AreFound e f at × IsLineTable e f at wanted (Err other))
    (λ first. ◌≡◌ {A = Result LineTable ElfFault} (Err other) (Err first)) in
    subst P is refl

-- what the wanted sections come to is what the sections of the names come to
is_table : (e : Elf) (f : List ℕ) (at : Sections) (wanted : Wanted) (c : Chosen) (result : Result LineTable ElfFault)
    → Some c ≡ chosen at wanted → IsTableOf e f c result → IsLineTable e f at wanted result
is_table e f at wanted c result is table =
    let P : Option Chosen → Type 0 =
    λ slot. MatchOption slot (IsWithoutLineSection e f at result) (λ c. IsTableOf e f c result) in subst P is table

-- what the wanted sections come to is what the file comes to
pub opens_table : {S : Type 0} {g : _} (all_bytes : S → Option (List ℕ)) (fails_with : S → Error → Type 0) (fails : Error → Type 0) (f : List ℕ) (wanted : Wanted) (e : Elf)
    (at : Sections) (c : Chosen) (result : Result (LineFile S g) ElfFault) → Ok e ≡ opened f → AreFound e f at
    → Some c ≡ chosen at wanted → OpensTable all_bytes fails_with fails (IsTableOf e f c) (TakesMemoryFor e f c) result
    → Opens all_bytes fails_with fails f wanted result
opens_table all_bytes fails_with fails f wanted e at c (Ok file) is found these (t, table, gives) =
    (t, has_table f e at wanted (Ok t) is found (is_table e f at wanted c (Ok t) these table), gives)
opens_table all_bytes fails_with fails f wanted e at c (Err (fault.Read error)) is found these table = tt
opens_table all_bytes fails_with fails f wanted e at c (Err fault.NoMemory) is found these has =
    (e, sym is, at, found, c, sym these, has)
opens_table all_bytes fails_with fails f wanted e at c (Err other) is found these table =
    has_table f e at wanted (Err other) is found (is_table e f at wanted c (Err other) these table)

-- there is no line section
pub opens_none : (f : List ℕ) (wanted : Wanted) (e : Elf) (at : Sections) (told : Option BuildId) → Ok e ≡ opened f
    → AreFound e f at → ◌≡◌ {A = Option Chosen} None (chosen at wanted)
    → option_map build_id_bytes told ≡ build_id_of e f (at BuildIdNote)
    → HasLineTable f wanted (Err (fault.NoLineSection told))
opens_none f wanted e at told is found none note =
    let result : Result LineTable ElfFault = Err (fault.NoLineSection told) in
    let P : Option Chosen → Type 0 =
    λ slot. MatchOption slot (IsWithoutLineSection e f at result) (λ c. IsTableOf e f c result) in
    has_table f e at wanted result is found (subst P none note)
