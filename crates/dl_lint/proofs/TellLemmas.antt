-- Findings that are told one after the other.
use Rattle.std.proofs.Common.{◌≡◌, ◌∙◌, ℕ, ◌+◌, List, [], ◌∷◌, ◌++◌, length, true, false, Option, Some, None, Result, Ok, Err, Bool, refl, sym, ap, ap₂, subst, append-nil, append_assoc}
use Rattle.std.specs.Prelude.{⊤, cond, flat_map, slice_get}
use Rattle.std.specs.List.{range_with_len}
use Rattle.std.proofs.lemmas.List.Elements.{filter-append}
use Rattle.dl_table.specs.TableData.{TableData}
use Rattle.dl_table.specs.Value.{Value, line_str, str}
use Rattle.dl_field.specs.HeaderData.{HeaderData}
use Rattle.dl_head.specs.Numbers.{first_number}
use Rattle.dl_print.specs.ValueText.{Strings}
use Rattle.dl_findings.specs.declared.finding.Found.{Found}
use Rattle.dl_findings.specs.declared.finding.Found.TheVariants as found
use Rattle.dl_findings.specs.declared.finding.TableEntry.{TableEntry}
use Rattle.dl_findings.specs.declared.finding.TableEntry.TheVariants as entry
use Rattle.dl_findings.specs.declared.finding.TextSection.TheVariants as texts
use Rattle.dl_findings.specs.declared.rule.Rule.TheVariants as rule
use Rattle.dl_sequence_rules.specs.Dead.{dead_found}
use Rattle.dl_table_rules.specs.Duplicates.{entries_of, first_same}
use Rattle.dl_table_rules.specs.Texts.{lacks}
use Rattle.dl_table_rules.specs.Unused.{unused_in}
use Rattle.dl_table_rules.specs.TableFindings.{duplicate_at, duplicates_found, in_header, missing_at, missing_entry, missing_found}
use Rattle.dl_table_rules.specs.TableFindings.{missing_if, missing_in, missing_item, missing_value, numbers_found, same_found, unused_found}
use Rattle.dl_path.proofs.PrintLemmas.{loses_front, loses_same, loses_then, more_then}
use Rattle.dl_print.specs.Output.{PrintsMore, HasPrinted}
use Rattle.dl_print.specs.declared.fault.WriteFault.{WriteFault}
use Rattle.dl_findings.specs.Chosen.{is_chosen}
use Rattle.dl_findings.specs.Counting.{Counts, at_most_64_bits}
use Rattle.dl_lint.specs.Findings.{chosen}
use Rattle.dl_findings.specs.FindingTold.{findings_text}
use Rattle.dl_findings.specs.FindingText.{rule_of}
use Rattle.dl_lint.specs.Telling.{Adds, Tells, told_text}
use Rattle.dl_findings.specs.declared.finding.Finding.{Finding}
use Rattle.dl_lint.specs.declared.report.Report.{Report}
use Rattle.dl_findings.specs.declared.finding_told.FindingForm.{FindingForm}
use Rattle.dl_findings.specs.declared.rules.Rules.{Rules}
use Rattle.dl_lint.specs.declared.question.LintQuestion.{LintQuestion}
use Rattle.dl_lint.proofs.FindingLemmas.{text-append}

pub chosen-append : (rules : Rules) (a b : List Finding) → chosen rules (a ++ b) ≡ chosen rules a ++ chosen rules b
chosen-append rules a b = filter-append (λ (f : Finding). is_chosen rules (rule_of f.found)) a b

-- ---- what isn't chosen

pub none_of_each : {X : Type 0} (rules : Rules) (f : X → List Finding) (xs : List X) → ((x : X) → chosen rules (f x) ≡ [])
    → chosen rules (flat_map f xs) ≡ []
none_of_each rules f [] none = refl
none_of_each rules f (x ∷ xs) none =
    chosen-append rules (f x) (flat_map f xs) ∙ ap₂ (λ (a b : List Finding). a ++ b) (none x) (none_of_each rules f xs none)

none_of_one : (rules : Rules) (offset : ℕ) (f : Found) → is_chosen rules (rule_of f) ≡ false
    → chosen rules (in_header offset f ∷ []) ≡ []
none_of_one rules offset f out = ap (λ (b : Bool). cond b (in_header offset f ∷ []) []) out

module _ (rules : Rules) (offset : ℕ) where
  pub no_duplicates : (h : HeaderData) → is_chosen rules rule.DuplicateFile ≡ false → chosen rules (duplicates_found offset h) ≡ []
  no_duplicates h out =
      none_of_each rules (duplicate_at offset h) (range_with_len 0 (length h.files.entries))
      (λ place. by place (first_same (entries_of h.files) place)) where
        by : (place : ℕ) (o : Option ℕ) → chosen rules (same_found offset h place o) ≡ []
        by place None = refl
        by place (Some other) =
            none_of_one rules offset (found.DuplicateFile (first_number h.params + place) (first_number h.params + other)) out

  pub no_unused : (h : HeaderData) (named : List ℕ) → is_chosen rules rule.UnusedFile ≡ false
      → chosen rules (unused_found offset h named) ≡ []
  no_unused h named out = by (unused_in h named) where
    by : (numbers : List ℕ) → chosen rules (numbers_found offset numbers) ≡ []
    by [] = refl
    by (n ∷ numbers) = none_of_one rules offset (found.UnusedFile (length (n ∷ numbers)) n) out

  module _ (s : Strings) (out : is_chosen rules rule.MissingText ≡ false) where
    no_value : (e : TableEntry) (v : Value) → chosen rules (missing_value s offset e v) ≡ []
    no_value e (line_str n) = by (lacks s.line_strings n) where
      by : (b : Bool) → chosen rules (missing_if b offset e texts.DebugLineStr n) ≡ []
      by true = none_of_one rules offset (found.MissingText e texts.DebugLineStr n) out
      by false = refl
    no_value e (str n) = by (lacks s.strings n) where
      by : (b : Bool) → chosen rules (missing_if b offset e texts.DebugStr n) ≡ []
      by true = none_of_one rules offset (found.MissingText e texts.DebugStr n) out
      by false = refl
    no_value e v = refl

    no_table : (which : ℕ → TableEntry) (first : ℕ) (t : TableData) → chosen rules (missing_in s offset which first t) ≡ []
    no_table which first t =
        none_of_each rules (missing_at s offset which first t) (range_with_len 0 (length t.entries))
        (λ place. by (which (first + place)) (slice_get (entries_of t) place)) where
          by : (e : TableEntry) (o : Option (List (ℕ × Value))) → chosen rules (missing_entry s offset e o) ≡ []
          by e None = refl
          by e (Some items) = none_of_each rules (missing_item s offset e) items (λ item. no_value e item.1)

    pub no_missing : (h : HeaderData) → chosen rules (missing_found s offset h) ≡ []
    no_missing h =
        chosen-append rules (missing_in s offset entry.Directory (first_number h.params) h.directories)
        (missing_in s offset entry.File (first_number h.params) h.files)
        ∙ ap₂ (λ (a b : List Finding). a ++ b) (no_table entry.Directory (first_number h.params) h.directories)
        (no_table entry.File (first_number h.params) h.files)

  pub no_dead : (firsts : List ℕ) → is_chosen rules rule.DeadSequence ≡ false → chosen rules (dead_found offset firsts) ≡ []
  no_dead [] out = refl
  no_dead (first ∷ firsts) out =
      none_of_one rules offset (found.DeadSequence (at_most_64_bits (length (first ∷ firsts))) first) out

-- nothing is told of findings that aren't chosen
pub told_none : (before : Option (List ℕ)) (old : Report) (findings : List Finding) → chosen old.question.now.rules findings ≡ []
    → Tells {A = ⊤} before before old old findings (Ok tt)
told_none before old findings none = (
  λ start text h. subst (λ (l : List ℕ). HasPrinted start before l old.printer.now)
      (sym (ap (λ (l : List Finding). text ++ findings_text old.question.now.form l) none ∙ append-nil text)) h,
  record {
    question = refl;
    counts = λ told counts. subst (Counts old.counts)
        (sym (ap (λ (l : List Finding). told ++ l) none ∙ append-nil told)) counts;
  },
)

-- ---- one after the other

text_both : (report : Report) (a b : List Finding) → told_text report a ++ told_text report b ≡ told_text report (a ++ b)
text_both report a b =
    sym (ap (findings_text report.question.now.form) (chosen-append report.question.now.rules a b)
    ∙ text-append report.question.now.form (chosen report.question.now.rules a) (chosen report.question.now.rules b))

-- some of them were told
pub record Front (before mid : Option (List ℕ)) (old between : Report) (whole rest : List Finding) : Type 0 where
  pub front : List Finding
  pub cut : whole ≡ front ++ rest
  pub printed : PrintsMore before mid old.printer.now between.printer.now (told_text old front)
  pub adds : Adds old between front

pub none_yet : (before : Option (List ℕ)) (old : Report) (whole : List Finding) → Front before before old old whole whole
none_yet before old whole = record {
  front = [];
  cut = refl;
  printed = λ start text h. subst (λ (l : List ℕ). HasPrinted start before l old.printer.now) (sym (append-nil text)) h;
  adds = record { question = refl; counts = λ told counts. rw (append-nil told) counts };
}

module _ {before mid : Option (List ℕ)} {old between : Report} {whole rest : List Finding}
    (f : Front before mid old between whole rest) (b others : List Finding) (cut : rest ≡ b ++ others) where
  longer : whole ≡ (f.front ++ b) ++ others
  longer = f.cut ∙ ap (λ (l : List Finding). f.front ++ l) cut ∙ sym (append_assoc f.front b others)

  module _ (after : Option (List ℕ)) (new : Report) (a : List Finding) (e : a ≡ b) where
    here : chosen between.question.now.rules a ≡ chosen old.question.now.rules b
    here = ap (λ (l : List Finding). chosen between.question.now.rules l) e ∙ ap (λ (q : LintQuestion). chosen q.rules b) f.adds.question

    text_here : told_text old f.front ++ told_text between a
        ≡ told_text old (f.front ++ b)
    text_here =
        ap₂ (λ (form : FindingForm) (l : List Finding). told_text old f.front ++ findings_text form l)
        (ap (λ (q : LintQuestion). q.form) f.adds.question) here
        ∙ text_both old f.front b

    adds_both : Adds between new a → Adds old new (f.front ++ b)
    adds_both more = record {
      question = more.question ∙ f.adds.question;
      counts = λ told counts. subst (Counts new.counts)
          (append_assoc told (chosen old.question.now.rules f.front) (chosen between.question.now.rules a)
          ∙ ap (λ (l : List Finding). told ++ (chosen old.question.now.rules f.front ++ l)) here
          ∙ ap (λ (l : List Finding). told ++ l) (sym (chosen-append old.question.now.rules f.front b)))
          (more.counts (told ++ chosen old.question.now.rules f.front) (f.adds.counts told counts));
    }

    -- and then more
    pub more_told : Tells {A = ⊤} mid after between new a (Ok tt) → Front before after old new whole others
    more_told told = record {
      front = f.front ++ b;
      cut = longer;
      printed = subst (PrintsMore before after old.printer.now new.printer.now) text_here
          (more_then before mid after old.printer.now between.printer.now new.printer.now
          (told_text old f.front) (told_text between a) f.printed told.0);
      adds = adds_both told.1;
    }

    -- and then not all of it
    pub lost : (fault : WriteFault) → Tells {A = ⊤} mid after between new a (Err fault)
        → Tells {A = ⊤} before after old new whole (Err fault)
    lost fault told = (
      loses_same before after old.printer.now
          (told_text old (f.front ++ b) ++ told_text old others)
          (told_text old whole) fault
          (text_both old (f.front ++ b) others
          ∙ ap (λ (l : List Finding). told_text old l) (sym longer))
          (loses_front before after old.printer.now (told_text old (f.front ++ b))
          (told_text old others) fault
          (loses_same before after old.printer.now
          (told_text old f.front ++ told_text between a)
          (told_text old (f.front ++ b)) fault text_here
          (loses_then before mid after old.printer.now between.printer.now
          (told_text old f.front) (told_text between a) fault f.printed told.0))),
      tt,
    )

-- all of them
pub all_told : {before after : Option (List ℕ)} {old new : Report} {whole : List Finding}
    → Front before after old new whole [] → Tells {A = ⊤} before after old new whole (Ok tt)
all_told {before} {after} {old} {new} {whole} f =
    let e : f.front ≡ whole = sym (f.cut ∙ append-nil f.front) in (
      subst (λ (l : List Finding). PrintsMore before after old.printer.now new.printer.now (told_text old l)) e
          f.printed,
      subst (Adds old new) e f.adds,
    )

-- and those that are left
pub told_last : {before mid : Option (List ℕ)} {old between : Report} {whole rest : List Finding}
    (f : Front before mid old between whole rest) (b others : List Finding) (cut : rest ≡ b ++ others)
    (after : Option (List ℕ)) (new : Report) (a : List Finding) (e : a ≡ b) → others ≡ [] → (result : Result ⊤ WriteFault)
    → Tells mid after between new a result → Tells before after old new whole result
told_last {before} {mid} {old} {between} {whole} f b others cut after new a e none (Ok tt) told =
    all_told (subst (λ (l : List Finding). Front before after old new whole l) none
    (more_told f b others cut after new a e told))
told_last f b others cut after new a e none (Err fault) told = lost f b others cut after new a e fault told
