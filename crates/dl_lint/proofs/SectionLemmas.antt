-- What is told of a section that is read to its end.
use Rattle.std.proofs.Common.{◌≡◌, ◌∙◌, ◌⊎◌, ℕ, ◌+◌, ◌<◌, ◌≤◌, List, [], ◌∷◌, ◌++◌, length, take, drop, Bool, true, false, Option, Some, None}
use Rattle.std.proofs.Common.{Result, Ok, Err, refl, sym, ap, ap₂, subst, append-nil, arith, inl, inr}
use Rattle.std.specs.Prelude.{⊤, ◌≢◌, cond, flat_map, ◌&&◌, ◌||◌, nat_lt, OnOk, if◌then◌else◌, get_or, slice_get, slice_index_or}
use Rattle.std.proofs.Math.ListN.{drop_of_length-le}
use Rattle.std.proofs.lemmas.Bool.{ltb-false}
use Rattle.std.proofs.lemmas.List.{drop_more, take_more}
use Rattle.std.proofs.lemmas.Option.{slice_get_cases}
use Rattle.std.specs.Io.KnownBytes.{Appends}
use Rattle.std.specs.List.{find}
use Rattle.dl_look.specs.declared.code_ranges.AddressRange.{AddressRange}
use Rattle.dl_look.specs.declared.place.Place.{Place}
use Rattle.dl_print.proofs.Outs.{HasPrinted-out}
use Rattle.dl_print.specs.Output.{Flushes, HasPrinted}
use Rattle.dl_print.specs.Printed.{Printed}
use Rattle.dl_print.specs.ValueText.{Strings}
use Rattle.dl_print.specs.declared.fault.WriteFault.{WriteFault}
use Rattle.dl_sections.specs.declared.around.Damage.{Damage}
use Rattle.dl_sections.specs.declared.fault.RunFault.{RunFault}
use Rattle.dl_sections.specs.declared.fault.RunFault.TheVariants as fault
use Rattle.dl_sections.specs.RunOutput.{TellsOut as RunsOut}
use Rattle.dl_sections.specs.Section.{Visit}
use Rattle.dl_findings.specs.Chosen.{is_chosen}
use Rattle.dl_findings.specs.Counting.{Counts}
use Rattle.dl_findings.specs.FindingTold.{findings_text}
use Rattle.dl_findings.specs.declared.counts.FindingCounts.{FindingCounts}
use Rattle.dl_findings.specs.declared.finding.Finding.{Finding}
use Rattle.dl_findings.specs.declared.rule.Rule.TheVariants as rule
use Rattle.dl_findings.specs.declared.rules.Rules.{Rules}
use Rattle.dl_sequence_rules.specs.Covering.{covers_place}
use Rattle.dl_sequence_rules.specs.NoCode.{is_without, no_code_found, no_code_of}
use Rattle.dl_sequence_rules.specs.Overlaps.{first_of_both, overlap_at, overlap_found, overlap_found_at, overlap_of, overlap_of_one, overlap_with}
use Rattle.dl_sequence_rules.specs.SequenceFindings.{overlaps_after, section_found}
use Rattle.dl_sequence_rules.specs.declared.ended.Ended.{Ended}
use Rattle.dl_lint.specs.Findings.{chosen, findings_in, findings_of_section}
use Rattle.dl_lint.specs.Linting.{FinishesBy, HasLinted, strings_of, text_by, whole_by, whole_text_by}
use Rattle.dl_lint.specs.Sequences.{ended_in, live_in}
use Rattle.dl_lint.specs.Telling.{Tells, TellsAll, TellsSection, told_text}
use Rattle.dl_lint.specs.Wanting.{keeps_sequences, wants_ranges}
use Rattle.dl_lint.specs.declared.linting.Linter.{Linter}
use Rattle.dl_lint.specs.declared.question.LintQuestion.{LintQuestion}
use Rattle.dl_lint.specs.declared.report.Report.{Report}
use Rattle.dl_lint.proofs.FindingLemmas.{text-append}
use Rattle.dl_lint.proofs.TellLemmas.{chosen-append, none_of_each}

-- ---- what isn't chosen

neither : (a b : Bool) → (a || b) ≡ false → (a ≡ false) × (b ≡ false)
neither true b e = absurd cc
neither false b e = (refl, e)

one_isnt : (a b : Bool) → (a && b) ≡ false → (a ≡ false) ⊎ (b ≡ false)
one_isnt true b e = inr e
one_isnt false b e = inl refl

has_none : (ranges : List AddressRange) → nat_lt 0 (length ranges) ≡ false → ranges ≡ []
has_none [] e = refl
has_none (r ∷ ranges) e = absurd (omega (arith, ltb-false 0 (length (r ∷ ranges)) e))

module _ (rules : Rules) (unchosen : is_chosen rules rule.Overlap ≡ false) where
  no_overlap : (earlier : List Ended) (s : Ended) → chosen rules (overlap_found earlier s) ≡ []
  no_overlap earlier s = by (first_of_both earlier s) where
    with_other : (x : Place) (o : Option Ended) → chosen rules (overlap_with s x o) ≡ []
    with_other x None = refl
    with_other x (Some other) = ap (λ (b : Bool). cond b (overlap_of s x other ∷ []) []) unchosen

    by : (o : Option Place) → chosen rules (overlap_found_at earlier s o) ≡ []
    by None = refl
    by (Some x) = with_other x (find (covers_place x) earlier)

  pub no_overlaps : (earlier sequences : List Ended) → chosen rules (overlaps_after earlier sequences) ≡ []
  no_overlaps earlier [] = refl
  no_overlaps earlier (s ∷ sequences) =
      chosen-append rules (overlap_found earlier s) (overlaps_after (earlier ++ s ∷ []) sequences)
      ∙ ap₂ (λ (a b : List Finding). a ++ b) (no_overlap earlier s) (no_overlaps (earlier ++ s ∷ []) sequences)

module _ (rules : Rules) (unchosen : is_chosen rules rule.NoCode ≡ false) where
  no_range : (offset : ℕ) (sequences : List Ended) (r : AddressRange) → chosen rules (no_code_found offset sequences r) ≡ []
  no_range offset sequences r = by (is_without sequences r) where
    by : (b : Bool) → chosen rules (if b then no_code_of offset r ∷ [] else []) ≡ []
    by true = ap (λ (b : Bool). cond b (no_code_of offset r ∷ []) []) unchosen
    by false = refl

  pub no_code_unchosen : (offset : ℕ) (sequences : List Ended) (ranges : List AddressRange)
      → chosen rules (flat_map (no_code_found offset sequences) ranges) ≡ []
  no_code_unchosen offset sequences ranges = none_of_each rules (no_code_found offset sequences) ranges (no_range offset sequences)

no_code : (q : LintQuestion) → wants_ranges q ≡ false → (offset : ℕ) (sequences : List Ended)
    → chosen q.rules (flat_map (no_code_found offset sequences) q.ranges.now) ≡ []
no_code q none offset sequences = elim (one_isnt (is_chosen q.rules rule.NoCode) (nat_lt 0 (length q.ranges.now)) none) [
  | inl unchosen ↦ no_code_unchosen q.rules unchosen offset sequences q.ranges.now
  | inr none_there ↦
      ap (λ (ranges : List AddressRange). chosen q.rules (flat_map (no_code_found offset sequences) ranges)) (has_none q.ranges.now none_there)
]

pub no_section : (q : LintQuestion) → keeps_sequences q ≡ false → (offset : ℕ) (sequences : List Ended)
    → chosen q.rules (section_found offset q.ranges.now sequences) ≡ []
no_section q none offset sequences =
    let isnt = neither (is_chosen q.rules rule.Overlap) (wants_ranges q) none in
    chosen-append q.rules (overlaps_after [] sequences) (flat_map (no_code_found offset sequences) q.ranges.now)
    ∙ ap₂ (λ (a b : List Finding). a ++ b) (no_overlaps q.rules isnt.0 [] sequences) (no_code q isnt.1 offset sequences)

-- nothing is told of it
pub section_none : (refuses : ℕ → Type 0) (before : Option (List ℕ)) (old : Report) (ended : List Ended)
    → keeps_sequences old.question.now ≡ false → TellsSection {A = ⊤} refuses before before old old ended (Ok tt)
section_none refuses before old ended none =
    let nothing = no_section old.question.now none 0 ended in (
      λ start text printed out. subst (Appends start before)
          (sym (ap (λ (l : List Finding). text ++ findings_text old.question.now.form l) nothing ∙ append-nil text)) out,
      record {
        question = refl;
        counts = λ told counts. subst (Counts old.counts)
            (sym (ap (λ (l : List Finding). told ++ l) nothing ∙ append-nil told)) counts;
      },
    )

-- ---- one after the other

-- the next sequence, with those before it
pub next_overlap : (sequences : List Ended) (i : ℕ) → i < length sequences
    → overlaps_after (take i sequences) (drop i sequences)
    ≡ overlap_at sequences i ++ overlaps_after (take (i + 1) sequences) (drop (i + 1) sequences)
next_overlap sequences i lt = by (slice_get_cases sequences i).1 where
  by : ((s : Ended) × (i < length sequences) × (slice_get sequences i ≡ Some s) × (get_or sequences i s ≡ s))
      ⊎ ((length sequences ≤ i) × (slice_get sequences i ≡ None))
      → overlaps_after (take i sequences) (drop i sequences)
      ≡ overlap_at sequences i ++ overlaps_after (take (i + 1) sequences) (drop (i + 1) sequences)
  by (inl (s, within, is, here)) =
      ap (overlaps_after (take i sequences))
      (drop_more sequences i s lt ∙ ap (λ (x : Ended). x ∷ drop (i + 1) sequences) here)
      ∙ ap₂ (λ (found : List Finding) (earlier : List Ended). found ++ overlaps_after earlier (drop (i + 1) sequences))
      (sym (ap (overlap_of_one (take i sequences)) is))
      (sym (take_more sequences i s lt ∙ ap (λ (x : Ended). take i sequences ++ x ∷ []) here))
  by (inr (past, none)) = absurd (omega (arith, lt, past))

pub no_overlap_left : (sequences : List Ended) (i : ℕ) → length sequences ≤ i
    → overlaps_after (take i sequences) (drop i sequences) ≡ []
no_overlap_left sequences i past = ap (overlaps_after (take i sequences)) (drop_of_length-le sequences past)

-- the next range
pub next_range : (sequences : List Ended) (ranges : List AddressRange) (i : ℕ) (d : AddressRange) → i < length ranges
    → flat_map (no_code_found 0 sequences) (drop i ranges)
    ≡ no_code_found 0 sequences (slice_index_or ranges i d) ++ flat_map (no_code_found 0 sequences) (drop (i + 1) ranges)
next_range sequences ranges i d lt = ap (flat_map (no_code_found 0 sequences)) (drop_more ranges i d lt)

pub no_range_left : (sequences : List Ended) (ranges : List AddressRange) (i : ℕ) → length ranges ≤ i
    → flat_map (no_code_found 0 sequences) (drop i ranges) ≡ []
no_range_left sequences ranges i past = ap (flat_map (no_code_found 0 sequences)) (drop_of_length-le ranges past)

-- ---- what was told goes out

pub all_out : (before mid after : Option (List ℕ)) (old between : Report) (found : List Finding) (printer : Printed)
    → Tells {A = ⊤} before mid old between found (Ok tt) → (result : Result ⊤ WriteFault)
    → Flushes mid after between.printer.now printer result → OnOk result (printer.pending ≡ [])
    → TellsAll before after old (record between { printer = record between.printer { now = printer } }) found result
all_out before mid after old between found printer told (Ok done) flushes empty = (
  λ start text printed. HasPrinted-out start after (text ++ told_text old found) printer
      (flushes start (text ++ told_text old found) (told.0 start text printed)) empty,
  record { question = told.1.question; counts = told.1.counts },
)
all_out before mid after old between found printer told (Err f) flushes empty =
    (λ start text printed. flushes start (text ++ told_text old found) (told.0 start text printed), tt)

-- or a write failed before
pub some_out : (before after : Option (List ℕ)) (old new : Report) (found : List Finding) (f : WriteFault)
    → Tells {A = ⊤} before after old new found (Err f) → TellsAll {A = ⊤} before after old new found (Err f)
some_out before after old new found f told = (told.0, tt)

-- ---- of the section

pub section_told : (refuses : ℕ → Type 0) (before after : Option (List ℕ)) (old new : Report) (ended : List Ended)
    → TellsAll {A = ⊤} before after old new (section_found 0 old.question.now.ranges.now ended) (Ok tt)
    → TellsSection {A = ⊤} refuses before after old new ended (Ok tt)
section_told refuses before after old new ended told = (λ start text printed out. told.0 start text printed, told.1)

pub section_lost : (refuses : ℕ → Type 0) (before after : Option (List ℕ)) (old new : Report) (ended : List Ended) (f : WriteFault)
    → TellsAll {A = ⊤} before after old new (section_found 0 old.question.now.ranges.now ended) (Err f)
    → TellsSection {A = ⊤} refuses before after old new ended (Err (fault.Write f.out))
section_lost refuses before after old new ended f told = λ start text printed out. told.0 start text printed

-- no read fails then
pub unread : (refuses : ℕ → Type 0) (before after : Option (List ℕ)) (old new : Report) (ended : List Ended) (f : RunFault)
    → TellsSection {A = ⊤} refuses before after old new ended (Err f) → ◌≢◌ {A = Result FindingCounts RunFault} (Err f) (Err fault.Read)
unread refuses before after old new ended fault.Read told e = told
unread refuses before after old new ended f told e = absurd cc

-- ---- of all that was read

module _ {M D : Type 0} {hears : D → D → List Damage → Type 0} {first old : Linter M D} {start before : Option (List ℕ)}
    {visits : List Visit} (refuses : M → ℕ → Type 0) (linted : HasLinted hears first old start before visits)
    (out : Appends start before (text_by first visits)) (report : Report) (asked : report.question.now ≡ first.report.question.now)
    (printer : report.printer.now ≡ old.report.printer.now) (counts : report.counts ≡ old.report.counts) where
  abbrev q : LintQuestion
  q = first.report.question.now

  abbrev s : Strings
  s = strings_of first

  abbrev pub kept : List Ended
  kept = ended_in (live_in q) visits

  -- by what is kept
  pub is_kept : keeps_sequences report.question.now ≡ true → old.sequences.now.ended.items ≡ kept
  is_kept keeps = linted.sequences.ended (rw (← asked) keeps)

  found_whole : findings_in s q visits ++ chosen report.question.now.rules (section_found 0 report.question.now.ranges.now kept)
      ≡ whole_by first visits
  found_whole =
      ap (λ (p : LintQuestion). findings_in s q visits ++ chosen p.rules (section_found 0 p.ranges.now kept)) asked

  text_whole : text_by first visits ++ told_text report (section_found 0 report.question.now.ranges.now kept)
      ≡ whole_text_by first visits
  text_whole =
      ap (λ (p : LintQuestion). text_by first visits ++ findings_text p.form (chosen p.rules (section_found 0 p.ranges.now kept)))
      asked
      ∙ sym (text-append q.form (findings_in s q visits) (chosen q.rules (findings_of_section q visits)))

  is_printed : HasPrinted start before (text_by first visits) report.printer.now
  is_printed = subst (HasPrinted start before (text_by first visits)) (sym printer) linted.printed

  pub finishes_all : (new : Report) (after : Option (List ℕ))
      → TellsSection {A = ⊤} (refuses first.memory.now) before after report new kept (Ok tt)
      → FinishesBy refuses first start after visits (Ok new.counts)
  finishes_all new after told = (
    subst (Counts new.counts) found_whole (told.1.counts (findings_in s q visits)
        (subst (λ (c : FindingCounts). Counts c (findings_in s q visits)) (sym counts) linted.counts)),
    subst (Appends start after) text_whole (told.0 start (text_by first visits) is_printed out),
  )

  pub finishes_some : (new : Report) (after : Option (List ℕ)) (f : RunFault)
      → TellsSection {A = ⊤} (refuses first.memory.now) before after report new kept (Err f)
      → FinishesBy refuses first start after visits (Err f)
  finishes_some new after (fault.Write lost) told =
      subst (λ (l : List ℕ). RunsOut start after l (fault.Write lost)) text_whole
      (told start (text_by first visits) is_printed out)
  finishes_some new after fault.NoMemory told = ((rw (← asked) told.1, told.2), rw told.0 out)
  finishes_some new after f told = absurd told

-- what comes of the end of the section, whatever was told before
abbrev pub Ends : {M D : Type 0} (refuses : M → ℕ → Type 0) (hears : D → D → List Damage → Type 0) (first old : Linter M D)
    (start before after : Option (List ℕ)) → Result FindingCounts RunFault → Type 0
Ends refuses hears first old start before after counts =
    (visits : List Visit) → HasLinted hears first old start before visits → Appends start before (text_by first visits)
    → FinishesBy refuses first start after visits counts
