-- What a request asks: which command, of which file, or of which section on the input.
use Rattle.std.specs.Prelude.{ℕ, ◌-◌, Bool, true, false, List, [], Option, Some, None, option_map, option_and_then, Result}
use Rattle.std.specs.Prelude.{◌≡◌, codes, if◌then◌else◌}
use Rattle.std.specs.Io.KnownBytes.{Consumes, Keeps}
use Rattle.std.specs.Option.{option_copied}
use Rattle.std.specs.Str.{bytes_eq}
use Rattle.dl_num.specs.declared.fixed.Order.{Order}
use Rattle.dl_num.specs.declared.fixed.Order.TheVariants.{Little, Big}
use Rattle.dl_head.specs.declared.dialect.Dialect.{Dialect}
use Rattle.dl_head.specs.Dialect.{version_5}
use Rattle.dl_dirs.specs.declared.compilation.CompilationDirectories.{CompilationDirectories}
use Rattle.dl_dirs.specs.Compilation.{directory_by}
use Rattle.dl_look.specs.declared.code_ranges.AddressRange.{AddressRange}
use Rattle.dl_look.specs.declared.place.Place.{Place}
use Rattle.dl_sections.specs.declared.options.TheConstants.{SECTION_LIMIT}
use Rattle.dl_sections.specs.declared.fault.RunFault.{RunFault}
use Rattle.dl_sections.specs.declared.around.Damage.{Damage}
use Rattle.dl_sections.specs.declared.around.Survey.{Survey}
use Rattle.dl_print.specs.declared.summary.Summary.{Summary}
use Rattle.dl_cmd.specs.Address.{address_in}
use Rattle.dl_cmd.specs.Range.{range_in}
use Rattle.dl_sections.specs.Commands.{Checks, Copies, CopiesTo5, Finds}
use Rattle.dl_sections.specs.AroundCommands.{ChecksAround}
use Rattle.dl_cmd.specs.Job.{DumpTexts, Request, Text, addr, check, copy, dump, find, index, lines, lint, sources}
use Rattle.dl_print.specs.ValueText.{Strings}
use Rattle.dl_open.specs.declared.named.Sections.{Sections}
use Rattle.dl_open.specs.declared.named.Sections.TheVariants as looked
use Rattle.dl_dump.specs.Commands.{DumpsDetails, DumpsDetailsAround}
use Rattle.dl_dump.specs.RangeCommands.{DumpsRange, DumpsRangeAround}
use Rattle.dl_dump.specs.UnitCommand.{DumpsUnit}
use Rattle.dl_dump.specs.declared.unit_dumping.UnitAt.{UnitAt}
use Rattle.dl_dump_json.specs.Commands.{DumpsJson, DumpsJsonAround}
use Rattle.dl_program.specs.Shown.{ShownTexts, directories_asked, shown_seen}
use Rattle.dl_program.specs.Units.{are_sizes, older_by, units_of}
use Rattle.dl_program.specs.declared.command.Command.{Command}
use Rattle.dl_program.specs.declared.command.Command.TheVariants.{Addr, Dump, DumpAround, DumpUnit, Check, CheckAround, Find, Copy}
use Rattle.dl_program.specs.declared.command.Command.TheVariants.{AddrAround, CopyTo5, DumpJson, DumpJsonAround, DumpRange, DumpRangeAround, Index}
use Rattle.dl_program.specs.declared.command.Command.TheVariants.{IndexAround, IndexUntil, IndexUntilAround, Lines, LinesAround, Sources, SourcesAround}
use Rattle.dl_program.specs.declared.command.Command.TheVariants.{SourcesUnit}
use Rattle.dl_program.specs.Answers.{all_whole, answered, answered_around, summed, summed_around, unit_shown}
use Rattle.dl_addr.specs.declared.question.WhichFound.{WhichFound}
use Rattle.dl_addr.specs.declared.question.FoundAround.{FoundAround}
use Rattle.dl_addr.specs.declared.question.Question.{Question}
use Rattle.dl_addr.specs.AroundCommands.{LocatesAround}
use Rattle.dl_addr.specs.Commands.{Locates}
use Rattle.dl_making.specs.declared.making.Table.{Table}
use Rattle.dl_making.specs.Writes.{Writes, WritesAround}
use Rattle.dl_making.specs.WritesUntil.{WritesUntil, WritesUntilAround}
use Rattle.dl_lines.specs.declared.question.LinesQuestion.{LinesQuestion}
use Rattle.dl_lines.specs.AroundCommands.{TellsLinesAround}
use Rattle.dl_lines.specs.Commands.{TellsLines}
use Rattle.dl_sources.specs.declared.question.SourcesAround as listed
use Rattle.dl_sources.specs.declared.question.SourcesQuestion.{SourcesQuestion}
use Rattle.dl_sources.specs.declared.question.Sums.{Sums}
use Rattle.dl_sources.specs.AroundCommands.{ListsAround}
use Rattle.dl_sources.specs.Commands.{Lists}
use Rattle.dl_sources.specs.UnitCommand.{ListsUnit}

-- the place of `find`; none where ADDRESS is no address
abbrev pub place_of : (address : Option Text) (op : ℕ) → Option Place
place_of address op = option_map (λ n. record { address = n; op_index = op }) (option_and_then address_in address)

-- a command, by the text of its word
pub data CommandData : Type 0 where
  dumps : ShownTexts → CommandData
  dumps_around : ShownTexts → CommandData
  dumps_unit : ShownTexts → (unit : ℕ) → CommandData
  dumps_range : ShownTexts → AddressRange → CommandData
  dumps_range_around : ShownTexts → AddressRange → CommandData
  dumps_json : CommandData
  dumps_json_around : CommandData
  checks : CommandData
  checks_around : CommandData
  finds : Place → CommandData
  copies : CommandData
  copies_to_5 : (comp_dir : Option Text) → CommandData
  answers : Question → CommandData
  answers_around : Question → CommandData
  indexes : Table → CommandData
  indexes_around : Table → CommandData
  indexes_until : Table → CommandData
  indexes_until_around : Table → CommandData
  tells_lines : LinesQuestion → CommandData
  tells_lines_around : LinesQuestion → CommandData
  tells_sources : SourcesQuestion → CommandData
  tells_sources_around : SourcesQuestion → CommandData
  tells_sources_of_unit : SourcesQuestion → (unit : ℕ) → CommandData

abbrev pub command_seen : Command → CommandData
command_seen (Dump details) = dumps (shown_seen details)
command_seen (DumpAround details) = dumps_around (shown_seen details)
command_seen (DumpUnit details unit) = dumps_unit (shown_seen details) unit
command_seen (DumpRange details range) = dumps_range (shown_seen details) range
command_seen (DumpRangeAround details range) = dumps_range_around (shown_seen details) range
command_seen DumpJson = dumps_json
command_seen DumpJsonAround = dumps_json_around
command_seen Check = checks
command_seen CheckAround = checks_around
command_seen (Find place) = finds place
command_seen Copy = copies
command_seen (CopyTo5 comp_dir) = copies_to_5 (option_map (λ s. s.now) comp_dir)
command_seen (Addr question) = answers question
command_seen (AddrAround question) = answers_around question
command_seen (Index table) = indexes table
command_seen (IndexAround table) = indexes_around table
command_seen (IndexUntil table) = indexes_until table
command_seen (IndexUntilAround table) = indexes_until_around table
command_seen (Lines question) = tells_lines question
command_seen (LinesAround question) = tells_lines_around question
command_seen (Sources question) = tells_sources question
command_seen (SourcesAround question) = tells_sources_around question
command_seen (SourcesUnit question unit) = tells_sources_of_unit question unit

-- the addresses from LOW on and below HIGH that a word says
abbrev pub address_range : Text → Option AddressRange
address_range word = option_map (λ r. record { start = r.0; size = r.1 - r.0 }) (range_in word)

-- the sequences of a range, after damaged units too or up to the first one
abbrev pub range_asked : (keep_going : Bool) → ShownTexts → AddressRange → CommandData
range_asked true shown range = dumps_range_around shown range
range_asked false shown range = dumps_range shown range

-- what lines `dump` prints: of the unit at an offset, of the sequences of a range, or of all units
abbrev pub text_by : (unit range : Option Text) (keep_going : Bool) → ShownTexts → Option CommandData
text_by (Some unit) range keep_going shown = option_map (dumps_unit shown) (address_in unit)
text_by None (Some range) keep_going shown = option_map (range_asked keep_going shown) (address_range range)
text_by None None true shown = Some (dumps_around shown)
text_by None None false shown = Some (dumps shown)

abbrev pub text_asked : DumpTexts → ShownTexts → Option CommandData
text_asked w shown = text_by w.unit w.range w.keep_going shown

abbrev pub json_asked : (keep_going : Bool) → CommandData
json_asked true = dumps_json_around
json_asked false = dumps_json

-- `dump` with these words
abbrev pub dump_asked : DumpTexts → Option CommandData
dump_asked w =
    if w.json then Some (json_asked w.keep_going) else text_asked w (record {
      header = w.header;
      operations = w.operations;
      paths = w.paths;
      directories = directories_asked w.comp_dir;
    })

-- the command; none where ADDRESS, OFFSET or LOW-HIGH says no address, where a section of an object file is named without FILE, of `addr`,
-- `lines`, `index` and `sources`, which are asked with what the file tells, and of `lint`, which is none
abbrev pub command_asked : Request → Option CommandData
command_asked (dump words) = dump_asked words
command_asked (check file big units true) = Some checks_around
command_asked (check file big units false) = Some checks
command_asked (find None big units address op (Some section) line_str str) = None
command_asked (find file big units address op section line_str str) = option_map finds (place_of address op)
command_asked (copy file big units true comp_dir) = Some (copies_to_5 comp_dir)
command_asked (copy file big units false comp_dir) = Some copies
command_asked (addr words) = None
command_asked (index words) = None
command_asked (lines words) = None
command_asked (sources words) = None
command_asked (lint words) = None

-- the same; none also where a size is no size
abbrev pub command_of : Request → Option CommandData
command_of request = if are_sizes (units_of request) then command_asked request else None

-- the path of the ELF file
abbrev pub file_of : Request → Option Text
file_of (dump words) = words.file
file_of (check file big units keep_going) = file
file_of (find file big units address op section line_str str) = file
file_of (copy file big units to_5 comp_dir) = file
file_of (addr words) = words.file
file_of (index words) = words.file
file_of (lines words) = words.file
file_of (sources words) = words.file
file_of (lint words) = words.file

-- `-` is no path of a file
abbrev pub unless_input : Option Text → Option Text
unless_input None = None
unless_input (Some path) = if bytes_eq path (codes "-") then None else Some path

-- the path of the ELF file in which addresses or lines are looked up, or whose addresses an index tells
abbrev pub looked_into : Request → Option Text
looked_into (find file big units address op section line_str str) = file
looked_into (addr words) = unless_input words.file
looked_into (index words) = if words.list then None else words.file
looked_into (lines words) = unless_input words.file
looked_into other = None

-- the path of the ELF file in whose place one with its debug information may be read
abbrev pub followed_path : Request → Option Text
followed_path (dump words) = words.file
followed_path (check file big units keep_going) = file
followed_path (sources words) = words.file
followed_path (lint words) = words.file
followed_path other = looked_into other

-- the section of an object file that is looked into
abbrev pub part_name_of : Request → Option Text
part_name_of (find file big units address op section line_str str) = section
part_name_of (addr words) = words.section
part_name_of (index words) = words.section
part_name_of (lines words) = words.section
part_name_of other = None

-- what is said of a section on the input; older: the size of an address in units before version 5
pub record SectionWords : Type 0 where
  pub big : Bool
  pub older : Option Text
  pub line_str : Option Text
  pub strings : Option Text

abbrev pub section_of : Request → SectionWords
section_of (dump words) =
    record { big = words.big; older = words.units.older; line_str = words.line_str; strings = words.strings }
section_of (check file big units keep_going) =
    record { big = big; older = units.older; line_str = None; strings = None }
section_of (find file big units address op section line_str str) =
    record { big = big; older = units.older; line_str = line_str; strings = str }
section_of (copy file big units to_5 comp_dir) =
    record { big = big; older = units.older; line_str = None; strings = None }
section_of (addr words) =
    record { big = words.big; older = words.units.older; line_str = words.line_str; strings = words.strings }
section_of (index words) = record { big = false; older = words.units.older; line_str = None; strings = None }
section_of (lines words) =
    record { big = words.big; older = words.units.older; line_str = words.line_str; strings = words.strings }
section_of (sources words) =
    record { big = words.big; older = words.units.older; line_str = words.line_str; strings = words.strings }
section_of (lint words) =
    record { big = words.big; older = words.units.older; line_str = words.line_str; strings = words.strings }

abbrev pub order_of : (big : Bool) → Order
order_of big = if big then Big else Little

abbrev pub dialect_of : SectionWords → Dialect
dialect_of w = record { order = order_of w.big; older = older_by w.older }

abbrev pub is_copy : Command → Bool
is_copy Copy = true
is_copy (CopyTo5 comp_dir) = true
is_copy other = false

-- what a command looks into of a file: the string sections where it tells their texts
abbrev pub sections_of : Command → Sections
sections_of Check = looked.Lines
sections_of CheckAround = looked.Lines
sections_of Copy = looked.Lines
sections_of (CopyTo5 comp_dir) = looked.Lines
sections_of other = looked.LinesAndTexts

-- it looks up addresses or lines, or tells what is looked up
abbrev pub looks_up : Command → Bool
looks_up (Find place) = true
looks_up (Addr question) = true
looks_up (AddrAround question) = true
looks_up (Index table) = true
looks_up (IndexAround table) = true
looks_up (IndexUntil table) = true
looks_up (IndexUntilAround table) = true
looks_up (Lines question) = true
looks_up (LinesAround question) = true
looks_up other = false

-- what is said of a command. start, now: what the output held at first, and holds now; hears: which damaged units were
-- told of, after which the command goes on; then what it answers, or why it stops
abbrev pub Outcome : (Reason : Type 0) → Type 1
Outcome Reason = (start now : Option (List ℕ)) (hears : List Damage → Type 0) → Result Survey Reason → Type 0

-- the command ends at the first damaged unit, of which its answer tells: it tells of none beside that
abbrev pub EndsThere : (Answers : Result Summary RunFault → Type 0) (hears : List Damage → Type 0)
    → Result Survey RunFault → Type 0
EndsThere Answers hears result =
    hears [] × (answer : Result Summary RunFault) × (result ≡ all_whole answer) × Answers answer

-- the command goes on after damaged units, of which its answer tells: it tells of none beside that
abbrev pub GoesOn : (Answers : Result Survey RunFault → Type 0) (hears : List Damage → Type 0)
    → Result Survey RunFault → Type 0
GoesOn Answers hears result = hears [] × Answers result

-- what the command answers, writes and tells. bytes: what was read of a section, which has `left` left. refuses: for how
-- many items memory is refused
abbrev pub Does : (refuses : ℕ → Type 0) → Command → Dialect → Strings → (limit : ℕ) (bytes : List ℕ) (left : Option (List ℕ)) → Outcome RunFault
Does refuses (Dump details) dialect s limit bytes left start now =
    EndsThere (DumpsDetails dialect (record { details = details; strings = s }) limit bytes left start now)
Does refuses (DumpAround details) dialect s limit bytes left start now =
    DumpsDetailsAround dialect (record { details = details; strings = s }) limit bytes left start now
Does refuses (DumpUnit details unit) dialect s limit bytes left start now = EndsThere (λ answer.
    (at : Result UnitAt RunFault) × (answer ≡ unit_shown at)
    × DumpsUnit dialect (record { details = details; strings = s }) unit limit bytes left start now at)
Does refuses (DumpRange details range) dialect s limit bytes left start now =
    EndsThere (DumpsRange refuses dialect (record { details = details; strings = s }) range limit bytes left start now)
Does refuses (DumpRangeAround details range) dialect s limit bytes left start now =
    DumpsRangeAround refuses dialect (record { details = details; strings = s }) range limit bytes left start now
Does refuses DumpJson dialect s limit bytes left start now = EndsThere (DumpsJson dialect s limit bytes left start now)
Does refuses DumpJsonAround dialect s limit bytes left start now = DumpsJsonAround dialect s limit bytes left start now
Does refuses Check dialect s limit bytes left start now = EndsThere (Checks dialect limit bytes left start now)
Does refuses CheckAround dialect s limit bytes left start now = ChecksAround dialect limit bytes left start now
Does refuses (Find place) dialect s limit bytes left start now = EndsThere (Finds dialect s place limit bytes left start now)
-- units of version 5 alone are copied
Does refuses Copy dialect s limit bytes left start now = EndsThere
    (Copies refuses (version_5 dialect.order) limit bytes left start now)
-- under headers of version 5, with the directory that is said
Does refuses (CopyTo5 comp_dir) dialect s limit bytes left start now = EndsThere (λ answer.
    (d : CompilationDirectories) × ((unit : ℕ) → directory_by d unit ≡ option_copied comp_dir)
    × CopiesTo5 refuses (directory_by d) dialect limit bytes left start now answer)
Does refuses (Addr question) dialect s limit bytes left start now = EndsThere (λ answer.
    (found : Result WhichFound RunFault) × (answer ≡ answered found)
    × Locates refuses dialect s question limit bytes left start now found)
Does refuses (AddrAround question) dialect s limit bytes left start now = GoesOn (λ answer.
    (found : Result FoundAround RunFault) × (answer ≡ answered_around found)
    × LocatesAround refuses dialect s question limit bytes left start now found)
Does refuses (Index table) dialect s limit bytes left start now = EndsThere (Writes refuses dialect s table limit bytes left start now)
Does refuses (IndexAround table) dialect s limit bytes left start now =
    GoesOn (WritesAround refuses dialect s table limit bytes left start now)
Does refuses (IndexUntil table) dialect s limit bytes left start now =
    EndsThere (WritesUntil refuses dialect s table limit bytes left start now)
Does refuses (IndexUntilAround table) dialect s limit bytes left start now =
    GoesOn (WritesUntilAround refuses dialect s table limit bytes left start now)
Does refuses (Lines question) dialect s limit bytes left start now = EndsThere (λ answer.
    (found : Result WhichFound RunFault) × (answer ≡ answered found)
    × TellsLines refuses dialect s question limit bytes left start now found)
Does refuses (LinesAround question) dialect s limit bytes left start now = GoesOn (λ answer.
    (found : Result FoundAround RunFault) × (answer ≡ answered_around found)
    × TellsLinesAround refuses dialect s question limit bytes left start now found)
Does refuses (Sources question) dialect s limit bytes left start now = EndsThere (λ answer.
    (sums : Result Sums RunFault) × (answer ≡ summed sums)
    × Lists refuses dialect s question limit bytes left start now sums)
Does refuses (SourcesAround question) dialect s limit bytes left start now = GoesOn (λ answer.
    (around : Result listed.SourcesAround RunFault) × (answer ≡ summed_around around)
    × ListsAround refuses dialect s question limit bytes left start now around)
Does refuses (SourcesUnit question unit) dialect s limit bytes left start now = EndsThere (λ answer.
    (sums : Result Sums RunFault) × (answer ≡ summed sums)
    × ListsUnit refuses dialect s question unit limit bytes left start now sums)

-- what `addr` writes of a section without bytes, so that each address has no answer
abbrev pub Unfound : (refuses : ℕ → Type 0) → Question → (start now : Option (List ℕ)) → Type 0
Unfound refuses question start now =
    (bytes : List ℕ) × (left : Option (List ℕ)) × (found : Result WhichFound RunFault) × Consumes (Some []) left bytes
    × Locates refuses (version_5 Little) (record { line_strings = None; strings = None }) question SECTION_LIMIT bytes left
    start now found

-- what a command writes where there is no line table; `addr` alone writes something
abbrev pub WithoutTable : (refuses : ℕ → Type 0) → Command → (start now : Option (List ℕ)) → Type 0
WithoutTable refuses (Addr question) start now = Unfound refuses question start now
WithoutTable refuses (AddrAround question) start now = Unfound refuses question start now
WithoutTable refuses other start now = Keeps start now
