-- What the commands answer and write. bytes: what was read from a reader, which has `left` left. start, now: what the
-- writer held at first, and holds now. None: it isn't known.
use Rattle.std.specs.Prelude.{⊤, ◌≡◌, ◌≢◌, ◌⊎◌, ℕ, ◌+◌, ◌*◌, List, [], ◌∷◌, ◌++◌, length, take, flat_map, Option, Some, None}
use Rattle.std.specs.Prelude.{Result, Ok, Err}
use Rattle.std.specs.List.{AllByRecursion, concat}
use Rattle.std.specs.Option.{option_copied, option_map_or}
use Rattle.std.specs.Io.KnownBytes.{Appends, Keeps}
use Rattle.dl_memory.specs.Refusals.{IsRefused}
use Rattle.dl_head.specs.declared.dialect.Dialect.{Dialect}
use Rattle.dl_head.specs.Built.{with_standard_opcodes}
use Rattle.dl_head.specs.Header.{foreign_in}
use Rattle.dl_field.specs.HeaderData.{HeaderData, header_cells}
use Rattle.dl_rows.specs.declared.row.Row.{Row}
use Rattle.dl_rows.specs.LineUnit.{IsUnit, unit_rows}
use Rattle.dl_rows.specs.Runs.{Sound}
use Rattle.dl_look.specs.declared.place.Place.{Place}
use Rattle.dl_look.specs.Answer.{answer}
use Rattle.dl_emit.specs.declared.fault.EmitFault.TheVariants.{TooLong}
use Rattle.dl_emit.specs.declared.program.TheConstants.{ROW}
use Rattle.dl_emit.specs.Conversion.{to_version_5}
use Rattle.dl_emit.specs.WrittenUnit.{unit_of, refusal}
use Rattle.dl_sections.specs.declared.fault.RunFault.{RunFault}
use Rattle.dl_sections.specs.declared.fault.RunFault.TheVariants as fault
use Rattle.dl_sections.specs.declared.options.Options.{Options}
use Rattle.dl_sections.specs.declared.options.Detail.{Detail}
use Rattle.dl_print.specs.declared.summary.Summary.{Summary}
use Rattle.dl_sections.specs.RunOutput.{TellsOut}
use Rattle.dl_sections.specs.Section.{HasUnits, HasBegun, RefusesCell, EndsAs, header_of, summary_of}
use Rattle.dl_sections.specs.SectionText.{DumpStyle, section_text}
use Rattle.dl_print.specs.Text.{row_line, summary_line}
use Rattle.dl_print.specs.ValueText.{Strings}
use Rattle.dl_print.specs.HeaderText.{file_text}

-- the string sections that the options hand in
abbrev pub strings_in : Options → Strings
strings_in options =
    record { line_strings = option_copied options.debug_line_str; strings = option_copied options.debug_str }

-- what the options hand in, with what is shown besides
abbrev pub style_in : Detail → Options → DumpStyle
style_in detail options = record { detail = detail; strings = strings_in options }

-- `check`: the line of the counts where the section is units to its end, else nothing
abbrev pub Checks : Dialect → (limit : ℕ) (bytes : List ℕ) (left start now : Option (List ℕ)) → Result Summary RunFault
    → Type 0
Checks dialect limit bytes left start now (Ok summary) =
    (units : List (List ℕ)) × EndsAs dialect limit bytes left units [] [] (Ok summary)
    × Appends start now (summary_line summary)
Checks dialect limit bytes left start now (Err (fault.Write out)) =
    (units : List (List ℕ)) × (summary : Summary) × EndsAs dialect limit bytes left units [] [] (Ok summary)
    × TellsOut start now (summary_line summary) (fault.Write out)
Checks dialect limit bytes left start now (Err f) =
    (units : List (List ℕ)) × (b : List ℕ) × (back : List ℕ) × EndsAs dialect limit bytes left units b back (Err f)
    × Keeps start now

-- `dump`: the text of the units, and of what follows them up to the fault
abbrev pub Dumps : Dialect → DumpStyle → (limit : ℕ) (bytes : List ℕ) (left start now : Option (List ℕ))
    → Result Summary RunFault → Type 0
Dumps dialect style limit bytes left start now (Err (fault.Write out)) =
    (units : List (List ℕ)) × (b : List ℕ) × (back : List ℕ) × HasBegun dialect (take limit bytes) units b back
    × TellsOut start now (section_text dialect style units b) (fault.Write out)
Dumps dialect style limit bytes left start now result =
    (units : List (List ℕ)) × (b : List ℕ) × (back : List ℕ) × EndsAs dialect limit bytes left units b back result
    × Appends start now (section_text dialect style units b)

-- ---- `find`

-- no unit has an answer for x
abbrev pub NoneAnswers : Dialect → Place → List (List ℕ) → Type 0
NoneAnswers dialect x units = AllByRecursion (λ u. answer (unit_rows dialect u) x ≡ None) units

-- the first bytes are units, of which u, the last, is the first that has an answer for x: the row r; h is its header
pub record IsFound (dialect : Dialect) (x : Place) (bytes : List ℕ) (units : List (List ℕ)) (u back : List ℕ)
    (h : HeaderData) (r : Row) : Type 0 where
  pub has : HasUnits dialect bytes (units ++ u ∷ []) back
  pub none_before : NoneAnswers dialect x units
  pub row : answer (unit_rows dialect u) x ≡ Some r
  pub header : header_of dialect u ≡ Some h

-- the line of the row's file, which the header's table may lack, and the line of the row
abbrev pub found_text : Strings → HeaderData → Row → List ℕ
found_text strings h r = file_text strings h r.file ++ row_line r

-- `find`: the two lines of the first unit that has an answer for x; nothing where none has, or where a fault comes
-- before
abbrev pub Finds : Dialect → Strings → Place → (limit : ℕ) (bytes : List ℕ) (left start now : Option (List ℕ))
    → Result Summary RunFault → Type 0
Finds dialect strings x limit bytes left start now (Ok summary) =
    (units : List (List ℕ)) × (u : List ℕ) × (back : List ℕ) × (h : HeaderData) × (r : Row)
    × IsFound dialect x (take limit bytes) units u back h r
    × (summary ≡ summary_of dialect (units ++ u ∷ [])) × Appends start now (found_text strings h r)
Finds dialect strings x limit bytes left start now (Err (fault.Write out)) =
    (units : List (List ℕ)) × (u : List ℕ) × (back : List ℕ) × (h : HeaderData) × (r : Row)
    × IsFound dialect x (take limit bytes) units u back h r
    × TellsOut start now (found_text strings h r) (fault.Write out)
Finds dialect strings x limit bytes left start now (Err fault.NotFound) =
    (units : List (List ℕ)) × (summary : Summary) × EndsAs dialect limit bytes left units [] [] (Ok summary)
    × NoneAnswers dialect x units × Keeps start now
Finds dialect strings x limit bytes left start now (Err f) =
    (units : List (List ℕ)) × (b : List ℕ) × (back : List ℕ) × EndsAs dialect limit bytes left units b back (Err f)
    × NoneAnswers dialect x units × Keeps start now

-- ---- `copy`

-- what becomes of the header of the unit at an offset
abbrev pub Made : Type 0
Made = (offset : ℕ) → HeaderData → HeaderData

-- the unit of the same rows, under the header with standard opcodes; nothing for a unit of another version, which has
-- no header
abbrev pub copied_unit : Dialect → List ℕ → List ℕ
copied_unit dialect u =
    option_map_or (λ h. unit_of dialect.order (with_standard_opcodes h) (unit_rows dialect u)) (header_of dialect u) []

abbrev pub copied_units : Dialect → List (List ℕ) → List ℕ
copied_units dialect units = flat_map (copied_unit dialect) units

-- u has a header, and its copy can be written
abbrev pub IsCopied : Dialect → List ℕ → Type 0
IsCopied dialect u =
    (h : HeaderData) × (header_of dialect u ≡ Some h) × (refusal (with_standard_opcodes h) (unit_rows dialect u) ≡ None)

abbrev pub AreCopied : Dialect → List (List ℕ) → Type 0
AreCopied dialect units = AllByRecursion (IsCopied dialect) units

-- memory was refused for the copy of b's rows, for no more bytes than ROW for each byte that was read
abbrev pub WantsForRows : (refuses : ℕ → Type 0) → Dialect → (bytes b : List ℕ) → Type 0
WantsForRows refuses dialect bytes b = (unit_rows dialect b ≢ []) × IsRefused refuses (ROW * length bytes)

-- these units are copied, and their copies are out
abbrev pub HasCopied : (are : List (List ℕ) → Type 0) (text : List (List ℕ) → List ℕ) → List (List ℕ)
    → (start now : Option (List ℕ)) → Type 0
HasCopied are text units start now = are units × Appends start now (text units)

-- Copies of all units, or of those before the fault. A unit of a version that isn't read is a fault, also where it is
-- cut off, and so is a whole unit whose copy would be too long. The fault's offset is that of the unit.
-- are: these units have copies; text: the copies; made: what becomes of a unit's header; Wants: memory is wanted for the
-- copy of the bytes at an offset, the front of a unit or one
abbrev pub CopiesBy : (are : List (List ℕ) → Type 0) (text : List (List ℕ) → List ℕ) → Made
    → (Wants : (offset : ℕ) → List ℕ → Type 0) → Dialect → (limit : ℕ) (bytes : List ℕ) (left start now : Option (List ℕ))
    → Result Summary RunFault → Type 0
CopiesBy are text made Wants dialect limit bytes left start now (Ok summary) =
    (units : List (List ℕ)) × EndsAs dialect limit bytes left units [] [] (Ok summary)
    × HasCopied are text units start now
CopiesBy are text made Wants dialect limit bytes left start now (Err (fault.ForeignUnit offset)) =
    (units : List (List ℕ)) × (b : List ℕ) × (back : List ℕ) × (version : ℕ)
    × HasBegun dialect (take limit bytes) units b back
    × (offset ≡ length (concat units)) × (foreign_in dialect b ≡ Some version) × HasCopied are text units start now
CopiesBy are text made Wants dialect limit bytes left start now (Err (fault.Emit offset f)) =
    (units : List (List ℕ)) × (u : List ℕ) × (back : List ℕ) × (h : HeaderData)
    × HasUnits dialect (take limit bytes) (units ++ u ∷ []) back
    × (offset ≡ length (concat units)) × (header_of dialect u ≡ Some h)
    × (refusal (made offset h) (unit_rows dialect u) ≡ Some f) × (f ≡ TooLong)
    × HasCopied are text units start now
-- memory is wanted for a cell of b's header, which the byte after b adds, or for b's copy; b is in no other way at fault
CopiesBy are text made Wants dialect limit bytes left start now (Err fault.NoMemory) =
    (units : List (List ℕ)) × (b : List ℕ) × (back : List ℕ) × HasBegun dialect (take limit bytes) units b back
    × Sound dialect b × (foreign_in dialect b ≡ None)
    × (RefusesCell dialect b back ⊎ Wants (length (concat units)) b) × HasCopied are text units start now
CopiesBy are text made Wants dialect limit bytes left start now (Err (fault.Write out)) =
    (units : List (List ℕ)) × (back : List ℕ) × HasUnits dialect (take limit bytes) units back × are units
    × TellsOut start now (text units) (fault.Write out)
-- b isn't the front of a unit of another version
CopiesBy are text made Wants dialect limit bytes left start now (Err f) =
    (units : List (List ℕ)) × (b : List ℕ) × (back : List ℕ) × EndsAs dialect limit bytes left units b back (Err f)
    × (foreign_in dialect b ≡ None)
    × HasCopied are text units start now

-- `copy`: each unit under its header with standard opcodes
abbrev pub Copies : (refuses : ℕ → Type 0) → Dialect → (limit : ℕ) (bytes : List ℕ) (left start now : Option (List ℕ))
    → Result Summary RunFault → Type 0
Copies refuses dialect limit bytes left start now result =
    CopiesBy (AreCopied dialect) (copied_units dialect) (λ offset h. with_standard_opcodes h)
    (λ offset b. WantsForRows refuses dialect bytes b) dialect limit bytes left start now result

-- ---- copies under headers that are made by the offsets of their units

-- the unit of the same rows, under the header that is made of its own; offset: that of the unit
abbrev pub unit_as : Made → Dialect → (offset : ℕ) → List ℕ → List ℕ
unit_as made dialect offset u =
    option_map_or (λ h. unit_of dialect.order (made offset h) (unit_rows dialect u)) (header_of dialect u) []

-- of units one after the other, the first at that offset
abbrev pub units_as : Made → Dialect → (offset : ℕ) → List (List ℕ) → List ℕ
units_as made dialect offset [] = []
units_as made dialect offset (u ∷ units) = unit_as made dialect offset u ++ units_as made dialect (offset + length u) units

-- u has a header, and the unit under the one that is made of it can be written
abbrev pub IsMade : Made → Dialect → (offset : ℕ) → List ℕ → Type 0
IsMade made dialect offset u =
    (h : HeaderData) × (header_of dialect u ≡ Some h) × (refusal (made offset h) (unit_rows dialect u) ≡ None)

abbrev pub AreMade : Made → Dialect → (offset : ℕ) → List (List ℕ) → Type 0
AreMade made dialect offset [] = ⊤
AreMade made dialect offset (u ∷ units) = IsMade made dialect offset u × AreMade made dialect (offset + length u) units

-- the units of a section, each under the header that is made of its own
abbrev pub CopiesAs : Made → (Wants : (offset : ℕ) → List ℕ → Type 0) → Dialect → (limit : ℕ) (bytes : List ℕ)
    (left start now : Option (List ℕ)) → Result Summary RunFault → Type 0
CopiesAs made Wants dialect limit bytes left start now result =
    CopiesBy (AreMade made dialect 0) (units_as made dialect 0) made Wants dialect limit bytes left start now result

-- ---- `copy_to_5`

-- the header in version 5, with the compilation directory of the unit at the offset, and standard opcodes
abbrev pub to_5 : (directories : ℕ → Option (List ℕ)) → Made
to_5 directories offset h = with_standard_opcodes (to_version_5 h (directories offset))

-- the header isn't of version 5, and memory was refused for the tables that are made of it, for no more items than these
-- have cells
abbrev pub WantsTables : (refuses : ℕ → Type 0) (directories : ℕ → Option (List ℕ)) (offset : ℕ) → HeaderData → Type 0
WantsTables refuses directories offset h =
    (h.params.version ≢ 5) × IsRefused refuses (header_cells (to_5 directories offset h))

-- u is a unit, and memory was refused for the tables of its header
abbrev pub WantsFor5 : (refuses : ℕ → Type 0) (directories : ℕ → Option (List ℕ)) → Dialect → (offset : ℕ) → List ℕ → Type 0
WantsFor5 refuses directories dialect offset u =
    IsUnit dialect u × (h : HeaderData) × (header_of dialect u ≡ Some h) × WantsTables refuses directories offset h

abbrev pub CopiesTo5 : (refuses : ℕ → Type 0) (directories : ℕ → Option (List ℕ)) → Dialect → (limit : ℕ)
    (bytes : List ℕ) (left start now : Option (List ℕ)) → Result Summary RunFault → Type 0
CopiesTo5 refuses directories dialect limit bytes left start now result =
    CopiesAs (to_5 directories)
    (λ offset b. WantsForRows refuses dialect bytes b ⊎ WantsFor5 refuses directories dialect offset b)
    dialect limit bytes left start now result
