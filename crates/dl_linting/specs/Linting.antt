-- What the program does for `lint`. bytes: what was read of the input, which has `left` left. start, now: what the output held at
-- first, and holds now. hears: which damaged units were told of. held: what the file of a path holds, where that is known; fails:
-- the errors that opening and reading it may give. refuses: for how many items memory is refused. f: the bytes of a file; t: its
-- line table as dl_file defines it.
use Rattle.std.specs.Prelude.{◌≡◌, ◌⊎◌, ℕ, ◌==◌, Bool, true, false, if◌then◌else◌, List, [], Option, Some, None, MatchOption, Result, Ok, Err}
use Rattle.std.specs.Option.{option_copied}
use Rattle.std.specs.Io.KnownBytes.{Consumes, Keeps}
use Rattle.std.specs.declared.io.Error.{Error}
use Rattle.dl_cmd.specs.Job.{LintTexts, Text}
use Rattle.dl_elf.specs.Source.{ForBytes}
use Rattle.dl_file.specs.Code.{IsCode}
use Rattle.dl_file.specs.LineTable.{LineTable}
use Rattle.dl_file.specs.declared.code.Code.{Code}
use Rattle.dl_findings.specs.Chosen.{is_chosen}
use Rattle.dl_findings.specs.RuleNames.{rule_place}
use Rattle.dl_findings.specs.declared.rule.Rule.{Rule}
use Rattle.dl_findings.specs.declared.rule.Rule.TheVariants as rule
use Rattle.dl_findings.specs.declared.rules.Rules.{Rules}
use Rattle.dl_findings.specs.declared.finding_told.FindingForm.{FindingForm}
use Rattle.dl_findings.specs.declared.finding_told.FindingForm.TheVariants as forms
use Rattle.dl_head.specs.declared.dialect.Dialect.{Dialect}
use Rattle.dl_lint.specs.Commands.{Lints, LintsAround}
use Rattle.dl_lint.specs.declared.question.LintQuestion.{LintQuestion}
use Rattle.dl_lint.specs.declared.question.Linted.{Linted}
use Rattle.dl_lint.specs.declared.question.LintedAround.{LintedAround}
use Rattle.dl_look.specs.declared.code_ranges.AddressRange.{AddressRange}
use Rattle.dl_look.specs.declared.code_ranges.CodeRanges.{CodeRanges}
use Rattle.dl_open.specs.Code.{AreLive, RefusesCode, linked_ranges}
use Rattle.dl_open.specs.Files.{FilesStop, StringsAre}
use Rattle.dl_open.specs.Tables.{HasNoDamage, HasTable, IsWhole, StringsStop, TableStops, bytes_of, file_dialect, stream_of}
use Rattle.dl_open.specs.declared.dialect.FileUnits.{FileUnits}
use Rattle.dl_open.specs.declared.named.Sections.TheVariants.{LinesAndTexts}
use Rattle.dl_open.specs.declared.stop.FileStop.{FileStop}
use Rattle.dl_open.specs.declared.stop.FileStop.TheVariants.{File}
use Rattle.dl_print.specs.ValueText.{Strings}
use Rattle.dl_sections.specs.declared.around.Damage.{Damage}
use Rattle.dl_sections.specs.declared.fault.RunFault.{RunFault}
use Rattle.dl_sections.specs.declared.fault.RunFault.TheVariants as fault
use Rattle.dl_sections.specs.declared.options.TheConstants.{SECTION_LIMIT}
use Rattle.dl_program.specs.Asked.{SectionWords, dialect_of}
use Rattle.dl_program.specs.Stops.{over_file}
use Rattle.dl_program.specs.Tables.{EndsAt}
use Rattle.dl_program.specs.Units.{are_sizes, file_units}
use Rattle.dl_program.specs.Work.{IsNotOpen, StopsUntold, stopped}
use Rattle.dl_program.specs.declared.stop.Stop.{Stop}
use Rattle.dl_program.specs.declared.stop.Stop.TheVariants.{NotUnderstood, Run}
use Rattle.dl_linting.specs.RuleWords.{AreAsked, IsFirstNoRule, no_rule_in}
use Rattle.dl_linting.specs.declared.section.Choice.{Choice}
use Rattle.dl_linting.specs.declared.section.Wish.{Wish}

-- ---- over a section

-- what `lint` answered, as `lint_around` does
abbrev pub whole : Result Linted RunFault → Result LintedAround RunFault
whole (Ok linted) = Ok (record { survey = record { summary = linted.summary; damaged = None }; counts = linted.counts })
whole (Err f) = Err f

-- what is answered, written and told, after damaged units too or up to the first one
abbrev pub TellsBy : (keep_going : Bool) → (refuses : ℕ → Type 0) → LintQuestion → Dialect → Strings → (limit : ℕ)
    (bytes : List ℕ) (left start now : Option (List ℕ)) → (hears : List Damage → Type 0) → Result LintedAround RunFault → Type 0
TellsBy true refuses question dialect s limit bytes left start now hears result =
    LintsAround refuses dialect s question limit bytes left start now hears result
TellsBy false refuses question dialect s limit bytes left start now hears result =
    hears [] × (answer : Result Linted RunFault) × (result ≡ whole answer)
    × Lints refuses dialect s question limit bytes left start now answer

abbrev pub Tells : (refuses : ℕ → Type 0) → Wish → Dialect → Strings → (limit : ℕ) (bytes : List ℕ) (left start now : Option (List ℕ))
    → (hears : List Damage → Type 0) → Result LintedAround RunFault → Type 0
Tells refuses wish dialect s limit bytes left start now hears result =
    TellsBy wish.keep_going refuses wish.question dialect s limit bytes left start now hears result

-- the section is read to its end
abbrev pub HasReadAll : Result LintedAround RunFault → Type 0
HasReadAll (Ok linted) = linted.survey.damaged ≡ None
HasReadAll (Err f) = ⊥

-- ---- over the line table of a file

pub record TellsTable (refuses : ℕ → Type 0) (units : FileUnits) (fails : Error → Type 0) (path : Text) (wish : Wish) (t : LineTable)
    (start now : Option (List ℕ)) (hears : List Damage → Type 0) (result : Result LintedAround FileStop) : Type 0 where
  pub strings : Strings
  pub whole : IsWhole t.line_str t.str strings
  pub read : List ℕ
  pub left : Option (List ℕ)
  pub bytes : Consumes (Some (bytes_of t.line)) left read
  pub answer : Result LintedAround RunFault
  pub done : Tells refuses wish (file_dialect units t) strings SECTION_LIMIT read left start now hears answer
  pub ends : EndsAt fails path (stream_of t.line) answer result
  pub undamaged : HasReadAll answer → HasNoDamage t.line

-- the program stops before that: nothing is written, and no damaged unit told of
abbrev pub StopsEarly : (FileStop → Type 0) → (start now : Option (List ℕ)) (hears : List Damage → Type 0)
    → Result LintedAround FileStop → Type 0
StopsEarly Reason start now hears result =
    (stop : FileStop) × (result ≡ Err stop) × Reason stop × Keeps start now × hears []

-- its string sections are read first
abbrev pub OnTable : (refuses : ℕ → Type 0) → FileUnits → (fails : Error → Type 0) (path : Text) → Wish → LineTable
    → (start now : Option (List ℕ)) (hears : List Damage → Type 0) → Result LintedAround FileStop → Type 0
OnTable refuses units fails path wish t start now hears result =
    StopsEarly (StringsStop refuses fails path t.line_str t.str) start now hears result
    ⊎ TellsTable refuses units fails path wish t start now hears result

-- of an open file
abbrev pub OnFile : (refuses : ℕ → Type 0) → FileUnits → (fails : Error → Type 0) (path : Text) → Wish → (f : List ℕ)
    → (start now : Option (List ℕ)) (hears : List Damage → Type 0) → Result LintedAround FileStop → Type 0
OnFile refuses units fails path wish f start now hears result =
    StopsEarly (TableStops refuses units fails path LinesAndTexts f) start now hears result
    ⊎ ((t : LineTable) × HasTable units fails LinesAndTexts f t × OnTable refuses units fails path wish t start now hears result)

-- ---- what is asked, by where the file has code

-- the rules that are told of a file: overlap where it is known where its code is, for in others, as in object files, addresses are
-- relative to their sections
abbrev pub is_told_of_file : Rules → (code : Option CodeRanges) → Rule → Bool
is_told_of_file rules (Some code) r = is_chosen rules r
is_told_of_file rules None r = if rule_place r == rule_place rule.Overlap then false else is_chosen rules r

-- what is chosen, where these rules are told, there is this code and ranges of it are looked for
pub record Asks (choice : Choice) (is_told : Rule → Bool) (code : Option CodeRanges) (ranges : List AddressRange) (wish : Wish)
    : Type 0 where
  pub rules : (r : Rule) → is_chosen wish.question.rules r ≡ is_told r
  pub form : wish.question.form ≡ choice.form
  pub keep_going : wish.keep_going ≡ choice.keep_going
  pub code_known : option_copied wish.question.code ≡ code
  pub ranges_known : wish.question.ranges.now ≡ ranges

-- of an open file: it can't be told where it has code
abbrev pub CodeStop : (refuses : ℕ → Type 0) → (fails : Error → Type 0) (path : Text) (f : List ℕ) → FileStop → Type 0
CodeStop refuses fails path f (File at why) = (at.now ≡ path) × RefusesCode refuses fails f why
CodeStop refuses fails path f other = ⊥

-- or it is told, and its sequences are live where they begin in code
abbrev pub OnCode : (refuses : ℕ → Type 0) → FileUnits → (fails : Error → Type 0) (path : Text) → Choice → (f : List ℕ)
    → (start now : Option (List ℕ)) (hears : List Damage → Type 0) → Result LintedAround FileStop → Type 0
OnCode refuses units fails path choice f start now hears result =
    StopsEarly (CodeStop refuses fails path f) start now hears result
    ⊎ ((code : Code) × IsCode f (Ok code) × (live : Option CodeRanges) × AreLive live code
    × (wish : Wish) × Asks choice (is_told_of_file choice.rules live) live (linked_ranges code) wish
    × OnFile refuses units fails path wish f start now hears result)

-- of one that is opened first
abbrev pub OnHeld : (refuses : ℕ → Type 0) → FileUnits → (fails : Error → Type 0) (path : Text) → Choice → (f : List ℕ)
    → (start now : Option (List ℕ)) (hears : List Damage → Type 0) → Result LintedAround FileStop → Type 0
OnHeld refuses units fails path choice f start now hears result =
    StopsEarly (IsNotOpen fails path) start now hears result
    ⊎ OnCode refuses units fails path choice f start now hears result

-- ---- what is done by the words

-- the file of a path: nothing is read of the input
abbrev pub OnNamed : (refuses : ℕ → Type 0) → (held : Text → Option (List ℕ)) (fails : Text → Error → Type 0) → FileUnits → (path : Text)
    → Choice → (bytes : List ℕ) (start now : Option (List ℕ)) (hears : List Damage → Type 0) → Result LintedAround Stop → Type 0
OnNamed refuses held fails units path choice bytes start now hears result =
    (bytes ≡ []) × (answer : Result LintedAround FileStop) × (result ≡ over_file answer)
    × ForBytes (held path) (λ f. OnHeld refuses units (fails path) path choice f start now hears answer)

-- or the section on the input, with the string sections that are named: each sequence is live, and no code is known
abbrev pub OnInput : (refuses : ℕ → Type 0) → (held : Text → Option (List ℕ)) (fails : Text → Error → Type 0) → SectionWords → Choice
    → (bytes : List ℕ) (left start now : Option (List ℕ)) (hears : List Damage → Type 0) → Result LintedAround Stop → Type 0
OnInput refuses held fails section choice bytes left start now hears result =
    ((s : Strings) × StringsAre held section.line_str section.strings s
    × (answer : Result LintedAround RunFault) × (result ≡ stopped answer) × (wish : Wish) × Asks choice (is_chosen choice.rules) None [] wish
    × Tells refuses wish (dialect_of section) s SECTION_LIMIT bytes left start now hears answer)
    ⊎ ((f : RunFault) × FilesStop refuses held fails section.line_str section.strings f
    × StopsUntold bytes start now hears result (Run f))

-- a JSON object for each finding, or a line of words
abbrev pub form_of : (json : Bool) → FindingForm
form_of json = if json then forms.Object else forms.Line

-- what words choose
abbrev pub IsChoice : LintTexts → Choice → Type 0
IsChoice w choice = AreAsked w choice.rules × (choice.form ≡ form_of w.json) × (choice.keep_going ≡ w.keep_going)

abbrev pub section_in : LintTexts → SectionWords
section_in w = record { big = w.big; older = w.units.older; line_str = w.line_str; strings = w.strings }

-- their sizes are sizes; then each rule that they name has to be one
abbrev pub LintsRuled : (refuses : ℕ → Type 0) → (held : Text → Option (List ℕ)) (fails : Text → Error → Type 0) → LintTexts
    → (bytes : List ℕ) (left start now : Option (List ℕ)) (hears : List Damage → Type 0) → Result LintedAround Stop → Type 0
LintsRuled refuses held fails w bytes left start now hears result =
    ((stop : Stop) × IsFirstNoRule w stop × StopsUntold bytes start now hears result stop)
    ⊎ ((no_rule_in w ≡ None) × (choice : Choice) × IsChoice w choice
    × MatchOption w.file (OnInput refuses held fails (section_in w) choice bytes left start now hears result)
    (λ path. OnNamed refuses held fails (file_units w.units) path choice bytes start now hears result))

abbrev pub LintsWords : (refuses : ℕ → Type 0) → (held : Text → Option (List ℕ)) (fails : Text → Error → Type 0) → LintTexts
    → (bytes : List ℕ) (left start now : Option (List ℕ)) (hears : List Damage → Type 0) → Result LintedAround Stop → Type 0
LintsWords refuses held fails w bytes left start now hears result =
    ((are_sizes w.units ≡ false) × StopsUntold bytes start now hears result NotUnderstood)
    ⊎ ((are_sizes w.units ≡ true) × LintsRuled refuses held fails w bytes left start now hears result)

-- a read of the section on the input is blamed, whose string sections can be read
abbrev pub BlamesSection : (refuses : ℕ → Type 0) → (held : Text → Option (List ℕ)) (fails : Text → Error → Type 0)
    → SectionWords → Result LintedAround Stop → Type 0
BlamesSection refuses held fails section result =
    (result ≡ Err (Run fault.Read)) × ¬ FilesStop refuses held fails section.line_str section.strings fault.Read

-- where no file is named
abbrev pub BlamesInput : (refuses : ℕ → Type 0) → (held : Text → Option (List ℕ)) (fails : Text → Error → Type 0)
    → LintTexts → Result LintedAround Stop → Type 0
BlamesInput refuses held fails w result = (w.file ≡ None) × BlamesSection refuses held fails (section_in w) result
