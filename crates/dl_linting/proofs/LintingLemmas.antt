-- What the program does for `lint`, by the parts of its work.
use Rattle.std.proofs.Common.{◌≡◌, ◌∙◌, ℕ, true, List, [], Option, None, Some, Result, Ok, Err, ap, refl, inl, inr, subst, sym}
use Rattle.std.specs.Prelude.{IfOk, OnOk}
use Rattle.std.specs.Io.KnownBytes.{Consumes}
use Rattle.std.specs.declared.io.Error.{Error}
use Rattle.dl_cmd.specs.Job.{LintTexts, Text}
use Rattle.dl_elf.specs.Source.{ForBytes}
use Rattle.dl_file.specs.LineTable.{LineTable}
use Rattle.dl_head.specs.declared.dialect.Dialect.{Dialect}
use Rattle.dl_lint.specs.declared.question.Linted.{Linted}
use Rattle.dl_lint.specs.declared.question.LintedAround.{LintedAround}
use Rattle.dl_open.specs.Tables.{HasNoDamage, IsWhole, bytes_of, file_dialect, stream_of}
use Rattle.dl_open.specs.declared.dialect.FileUnits.{FileUnits}
use Rattle.dl_open.specs.declared.named.Sections.TheVariants.{LinesAndTexts}
use Rattle.dl_elf.specs.declared.fault.ElfFault.TheVariants.{Read}
use Rattle.dl_open.specs.Code.{RefusesCode}
use Rattle.dl_open.specs.declared.fault.FileFault.{FileFault}
use Rattle.dl_open.specs.declared.fault.FileFault.TheVariants.{Elf, Open}
use Rattle.dl_open.specs.declared.stop.FileStop.{FileStop}
use Rattle.dl_open.specs.declared.stop.FileStop.TheVariants.{File}
use Rattle.dl_open.proofs.WiderLemmas.{has_table_wider, strings_wider, table_stops_weaker}
use Rattle.dl_print.specs.ValueText.{Strings}
use Rattle.dl_sections.specs.Blaming as run
use Rattle.dl_sections.specs.declared.around.Damage.{Damage}
use Rattle.dl_sections.specs.declared.fault.RunFault.{RunFault}
use Rattle.dl_sections.specs.declared.fault.RunFault.TheVariants as fault
use Rattle.dl_sections.specs.declared.options.TheConstants.{SECTION_LIMIT}
use Rattle.dl_sections.proofs.BlameLemmas.{same_answer}
use Rattle.dl_program.proofs.TableLemmas.{ends_wider}
use Rattle.dl_program.specs.Tables.{EndsAt}
use Rattle.dl_program.specs.Asked.{SectionWords}
use Rattle.dl_program.specs.Blaming as stops
use Rattle.dl_program.specs.Stops.{over_file}
use Rattle.dl_program.specs.Units.{are_sizes, file_units}
use Rattle.dl_program.specs.declared.stop.Stop.{Stop}
use Rattle.dl_program.specs.declared.stop.Stop.TheVariants.{NotRule, NotUnderstood}
use Rattle.dl_linting.specs.Linting.{BlamesInput, BlamesSection, CodeStop, HasReadAll, IsChoice, LintsWords, OnCode, OnFile, OnHeld, OnInput, OnTable}
use Rattle.dl_linting.specs.Linting.{Tells, TellsTable, section_in, whole}
use Rattle.dl_linting.specs.RuleWords.{IsFirstNoRule, no_rule_in}
use Rattle.dl_linting.specs.declared.section.Choice.{Choice}
use Rattle.dl_linting.specs.declared.section.Wish.{Wish}

-- ---- over a section

pub whole_read : (answer : Result Linted RunFault) → whole answer ≡ Err fault.Read → answer ≡ Err fault.Read
whole_read (Ok linted) e = absurd cc
whole_read (Err f) e = same_answer f e

pub whole_writer : (fails : Type 0) (answer : Result Linted RunFault) → run.BlamesWriter fails answer
    → run.BlamesWriter fails (whole answer)
whole_writer fails (Ok linted) blames = tt
whole_writer fails (Err f) blames = blames

pub whole_over : (P : Type 0) (answer : Result Linted RunFault) (result : Result LintedAround RunFault) → result ≡ whole answer
    → OnOk answer P → HasReadAll result → P
whole_over P (Ok linted) result is over read = over
whole_over P (Err f) result is over read = absurd (subst HasReadAll is read)

pub around_over : (P : Type 0) (result : Result LintedAround RunFault)
    → IfOk result (λ linted. linted.survey.damaged ≡ None → P) → HasReadAll result → P
around_over P (Ok linted) over read = over read
around_over P (Err f) over read = absurd read

-- with options that are known
pub told_with : (refuses : ℕ → Type 0) (wish : Wish) (dialect known : Dialect) (strings s : Strings) (limit : ℕ) (bytes : List ℕ)
    (left start now : Option (List ℕ)) (hears : List Damage → Type 0) (answer : Result LintedAround RunFault)
    → dialect ≡ known → strings ≡ s → limit ≡ SECTION_LIMIT
    → Tells refuses wish dialect strings limit bytes left start now hears answer
    → Tells refuses wish known s SECTION_LIMIT bytes left start now hears answer
told_with refuses wish dialect known strings s limit bytes left start now hears answer ordered in_options limited tells =
    subst (λ (d : Dialect). Tells refuses wish d s SECTION_LIMIT bytes left start now hears answer) ordered
    (subst (λ (z : Strings). Tells refuses wish dialect z SECTION_LIMIT bytes left start now hears answer) in_options
    (subst (λ (l : ℕ). Tells refuses wish dialect strings l bytes left start now hears answer) limited tells))

-- ---- over a file

-- the findings were told with these options, over a reader of the line section
pub told_table : (refuses : ℕ → Type 0) (units : FileUnits) (fails : Error → Type 0) (path : Text) (wish : Wish) (t : LineTable)
    (start now left remaining : Option (List ℕ)) (hears : List Damage → Type 0)
    (s strings : Strings) (dialect : Dialect) (limit : ℕ) (answer : Result LintedAround RunFault)
    (result : Result LintedAround FileStop)
    → ((read : List ℕ) → Consumes remaining left read → Consumes (Some (bytes_of t.line)) left read)
    → IsWhole t.line_str t.str s → dialect ≡ file_dialect units t → strings ≡ s → limit ≡ SECTION_LIMIT
    → (read : List ℕ) × Consumes remaining left read
    × Tells refuses wish dialect strings limit read left start now hears answer
    → EndsAt fails path (stream_of t.line) answer result → (HasReadAll answer → HasNoDamage t.line)
    → TellsTable refuses units fails path wish t start now hears result
told_table refuses units fails path wish t start now left remaining hears s strings dialect limit answer result known whole ordered
    in_options limited (read, consumes, tells) ends undamaged =
    record {
      strings = s;
      whole = whole;
      read = read;
      left = left;
      bytes = known read consumes;
      answer = answer;
      done = told_with refuses wish dialect (file_dialect units t) strings s limit read left start now hears answer ordered
          in_options limited tells;
      ends = ends;
      undamaged = undamaged;
    }

-- ---- the errors that opening and reading may give

table_wider : (refuses : ℕ → Type 0) (units : FileUnits) (fails wider : Error → Type 0) (path : Text) (wish : Wish) (t : LineTable)
    (start now : Option (List ℕ)) (hears : List Damage → Type 0) (result : Result LintedAround FileStop)
    → ((e : Error) → fails e → wider e) → OnTable refuses units fails path wish t start now hears result
    → OnTable refuses units wider path wish t start now hears result
table_wider refuses units fails wider path wish t start now hears result more (inl (stop, is, why, written, untold)) =
    inl (stop, is, strings_wider refuses fails wider path t.line_str t.str stop more why, written, untold)
table_wider refuses units fails wider path wish t start now hears result more (inr tells) = inr (record {
  strings = tells.strings;
  whole = tells.whole;
  read = tells.read;
  left = tells.left;
  bytes = tells.bytes;
  answer = tells.answer;
  done = tells.done;
  ends = ends_wider fails wider path (stream_of t.line) tells.answer result more tells.ends;
  undamaged = tells.undamaged;
})

file_wider : (refuses : ℕ → Type 0) (units : FileUnits) (fails wider : Error → Type 0) (path : Text) (wish : Wish) (f : List ℕ)
    (start now : Option (List ℕ)) (hears : List Damage → Type 0) (result : Result LintedAround FileStop)
    → ((e : Error) → fails e → wider e) → OnFile refuses units fails path wish f start now hears result
    → OnFile refuses units wider path wish f start now hears result
file_wider refuses units fails wider path wish f start now hears result more (inl (stop, is, why, written, untold)) =
    inl (stop, is, table_stops_weaker refuses units fails wider path LinesAndTexts f stop more why, written, untold)
file_wider refuses units fails wider path wish f start now hears result more (inr (t, has, table)) =
    inr (
      t,
      has_table_wider units fails wider LinesAndTexts f t more has,
      table_wider refuses units fails wider path wish t start now hears result more table,
    )

-- ---- by where a file has code

code_wider : (refuses : ℕ → Type 0) (fails wider : Error → Type 0) (f : List ℕ) (why : FileFault) → ((e : Error) → fails e → wider e)
    → RefusesCode refuses fails f why → RefusesCode refuses wider f why
code_wider refuses fails wider f (Open error) more is = more error is
code_wider refuses fails wider f (Elf (Read error)) more is = more error is
code_wider refuses fails wider f (Elf other) more is = is
code_wider refuses fails wider f other more is = is

code_stop_wider : (refuses : ℕ → Type 0) (fails wider : Error → Type 0) (path : Text) (f : List ℕ) (stop : FileStop)
    → ((e : Error) → fails e → wider e) → CodeStop refuses fails path f stop → CodeStop refuses wider path f stop
code_stop_wider refuses fails wider path f (File at refused) more (is, why) = (is, code_wider refuses fails wider f refused more why)
code_stop_wider refuses fails wider path f other more is = absurd is

pub on_code_wider : (refuses : ℕ → Type 0) (units : FileUnits) (fails wider : Error → Type 0) (path : Text) (choice : Choice) (f : List ℕ)
    (start now : Option (List ℕ)) (hears : List Damage → Type 0) (result : Result LintedAround FileStop)
    → ((e : Error) → fails e → wider e) → OnCode refuses units fails path choice f start now hears result
    → OnCode refuses units wider path choice f start now hears result
on_code_wider refuses units fails wider path choice f start now hears result more (inl (stop, is, why, written, untold)) =
    inl (stop, is, code_stop_wider refuses fails wider path f stop more why, written, untold)
on_code_wider refuses units fails wider path choice f start now hears result more (inr (code, is, live, are, wish, asks, does)) =
    inr (code, is, live, are, wish, asks, file_wider refuses units fails wider path wish f start now hears result more does)

-- ---- by the words

pub words_on_input : (refuses : ℕ → Type 0) (held : Text → Option (List ℕ)) (fails : Text → Error → Type 0) (w : LintTexts) (choice : Choice)
    (section : SectionWords) (bytes : List ℕ) (left start now : Option (List ℕ)) (hears : List Damage → Type 0)
    (result : Result LintedAround Stop) → are_sizes w.units ≡ true → no_rule_in w ≡ None → IsChoice w choice → w.file ≡ None
    → section ≡ section_in w → OnInput refuses held fails section choice bytes left start now hears result
    → LintsWords refuses held fails w bytes left start now hears result
words_on_input refuses held fails w choice section bytes left start now hears result sizes known is no_file said does =
    inr (
      sizes,
      inr (
        known,
        choice,
        is,
        rw no_file
            (subst (λ (z : SectionWords). OnInput refuses held fails z choice bytes left start now hears result) said does),
      ),
    )

pub words_on_named : (refuses : ℕ → Type 0) (held : Text → Option (List ℕ)) (fails : Text → Error → Type 0) (w : LintTexts) (choice : Choice)
    (units : FileUnits) (path : Text) (left start now : Option (List ℕ)) (hears : List Damage → Type 0)
    (answer : Result LintedAround FileStop) (result : Result LintedAround Stop) → are_sizes w.units ≡ true → no_rule_in w ≡ None
    → IsChoice w choice → w.file ≡ Some path → units ≡ file_units w.units → result ≡ over_file answer
    → ForBytes (held path) (λ f. OnHeld refuses units (fails path) path choice f start now hears answer)
    → LintsWords refuses held fails w [] left start now hears result
words_on_named refuses held fails w choice units path left start now hears answer result sizes known is named read told does =
    inr (
      sizes,
      inr (
        known,
        choice,
        is,
        rw named (
          refl,
          answer,
          told,
          subst (λ (u : FileUnits). ForBytes (held path) (λ f. OnHeld refuses u (fails path) path choice f start now hears answer)) read does,
        ),
      ),
    )

-- a read of the input that is blamed is one of the section
pub blamed_section : (refuses : ℕ → Type 0) (held : Text → Option (List ℕ)) (fails : Text → Error → Type 0) (w : LintTexts)
    (section : SectionWords) (result : Result LintedAround Stop) → section ≡ section_in w
    → BlamesInput refuses held fails w result → BlamesSection refuses held fails section result
blamed_section refuses held fails w section result said blamed =
    subst (λ (z : SectionWords). BlamesSection refuses held fails z result) (sym said) blamed.1

-- none is where a file is named
pub file_named : (refuses : ℕ → Type 0) (held : Text → Option (List ℕ)) (fails : Text → Error → Type 0) (w : LintTexts) (path : Text)
    (result : Result LintedAround Stop) → w.file ≡ Some path → ¬ BlamesInput refuses held fails w result
file_named refuses held fails w path result named blamed =
    let none : ◌≡◌ {A = Option Text} (Some path) None = sym named ∙ blamed.0 in cc

-- nor before the section is read
pub not_understood : (refuses : ℕ → Type 0) (held : Text → Option (List ℕ)) (fails : Text → Error → Type 0) (w : LintTexts)
    → ¬ BlamesInput refuses held fails w (Err NotUnderstood)
not_understood refuses held fails w blamed = let is = blamed.1.0 in absurd cc

pub no_rule_read : (refuses : ℕ → Type 0) (held : Text → Option (List ℕ)) (fails : Text → Error → Type 0) (w : LintTexts) (stop : Stop)
    → IsFirstNoRule w stop → ¬ BlamesInput refuses held fails w (Err stop)
no_rule_read refuses held fails w (NotRule word) told blamed = let is = blamed.1.0 in absurd cc
no_rule_read refuses held fails w other told blamed = absurd told

pub no_rule_writer : (fails : Type 0) (w : LintTexts) (stop : Stop) → IsFirstNoRule w stop → stops.IsBlamed fails stop
no_rule_writer fails w (NotRule word) told = tt
no_rule_writer fails w other told = absurd told
