-- How a linter goes on.
use Rattle.std.proofs.Common.{◌≡◌, ◌∙◌, ℕ, List, [], ◌∷◌, ◌++◌, Option, Some, None, true, Ok, Err, refl, sym, ap, subst, append-nil}
use Rattle.std.specs.Prelude.{⊤}
use Rattle.std.specs.List.{last_or}
use Rattle.dl_field.specs.HeaderData.{HeaderData}
use Rattle.dl_head.specs.declared.header.HeaderLengths.{HeaderLengths}
use Rattle.std.specs.Io.KnownBytes.{Appends}
use Rattle.std.proofs.lemmas.List.Concat.{flat_map-append}
use Rattle.dl_head.specs.declared.fault.FaultKind.{FaultKind}
use Rattle.dl_print.proofs.Outs.{HasPrinted-out}
use Rattle.dl_print.specs.Output.{Flushes, HasPrinted}
use Rattle.dl_print.specs.Printed.{Printed}
use Rattle.dl_print.specs.declared.fault.WriteFault.{WriteFault}
use Rattle.dl_rows.specs.declared.row.Row.{Row}
use Rattle.dl_rows.specs.Items.{a_row}
use Rattle.dl_rows.specs.declared.sink.Flow.{Flow}
use Rattle.dl_rows.specs.declared.sink.Flow.TheVariants as flow
use Rattle.dl_sections.specs.declared.around.Damage.{Damage}
use Rattle.dl_print.specs.ValueText.{Strings}
use Rattle.dl_sections.specs.declared.fault.RunFault.{RunFault}
use Rattle.dl_sections.specs.declared.fault.RunFault.TheVariants as fault
use Rattle.dl_sections.specs.DamageTold.{damage_of_visit, damages_told}
use Rattle.dl_sections.specs.RunOutput.{TellsOut}
use Rattle.dl_sections.specs.Section.{Visit, of_damage, of_header, of_item}
use Rattle.dl_sections.specs.Visiting.{GoesOn, StopsIn}
use Rattle.dl_findings.specs.declared.finding.Finding.{Finding}
use Rattle.dl_lint.specs.declared.linting.Linter.{Linter}
use Rattle.dl_operation_rules.specs.declared.operations.Operations.{Operations}
use Rattle.dl_lint.specs.declared.reached.Reached.{Reached}
use Rattle.dl_lint.specs.declared.sequences_seen.SequencesSeen.{SequencesSeen}
use Rattle.dl_lint.specs.declared.unit_files.UnitFiles.{UnitFiles}
use Rattle.dl_findings.specs.Chosen.{is_chosen}
use Rattle.dl_findings.specs.Counting.{Counts}
use Rattle.dl_findings.specs.declared.rule.Rule.TheVariants as rule
use Rattle.dl_table_rules.specs.Keeping.{AreEnds}
use Rattle.dl_lint.specs.Findings.{chosen, findings_at, findings_in}
use Rattle.dl_findings.specs.FindingTold.{findings_text}
use Rattle.dl_operation_rules.specs.Keeping.{Knows}
use Rattle.dl_operation_rules.specs.Operations.{nothing_seen, seen}
use Rattle.dl_lint.specs.Keeping.{KnowsFiles, KnowsSequences, reached_by}
use Rattle.dl_lint.specs.Linting.{HasLinted, RefusesSome, WantsFiles, lint_story, strings_of, text_by}
use Rattle.dl_lint.specs.Telling.{Tells, told_text}
use Rattle.dl_lint.proofs.FindingLemmas.{findings-push, text-append}
use Rattle.dl_lint.proofs.FilesLemmas.{files_quiet}
use Rattle.dl_lint.proofs.SequenceLemmas.{sequences_quiet}
use Rattle.dl_lint.specs.Wanting.{RefusesAt}
use Rattle.dl_lint.specs.declared.question.LintQuestion.{LintQuestion}
use Rattle.dl_lint.proofs.KeptLemmas.{reached_quiet}
use Rattle.dl_lint.proofs.OperationLemmas.{knows_on}

pub last_or-push : {X : Type 0} (o : Option X) (xs : List X) (x : X) → last_or o (xs ++ x ∷ []) ≡ Some x
last_or-push o [] x = refl
last_or-push o (y ∷ xs) x = last_or-push (Some y) xs x

module _ {M D : Type 0} {hears : D → D → List Damage → Type 0} {first old : Linter M D} {start before : Option (List ℕ)}
    {visits : List Visit} (linted : HasLinted hears first old start before visits) where
  abbrev pub q : LintQuestion
  q = first.report.question.now

  abbrev pub s : Strings
  s = strings_of first

  -- the findings of one visit more
  found_more : (v : Visit)
      → findings_in s q visits ++ chosen old.report.question.now.rules (findings_at s old.report.question.now visits v)
      ≡ findings_in s q (visits ++ v ∷ [])
  found_more v =
      ap (λ (p : LintQuestion). findings_in s q visits ++ chosen p.rules (findings_at s p visits v)) linted.question
      ∙ sym (findings-push s q visits v)

  text_more : (v : Visit)
      → findings_text q.form (findings_in s q visits) ++ told_text old.report (findings_at s old.report.question.now visits v)
      ≡ findings_text q.form (findings_in s q (visits ++ v ∷ []))
  text_more v =
      let more = chosen old.report.question.now.rules (findings_at s old.report.question.now visits v) in
      ap (λ (p : LintQuestion). findings_text q.form (findings_in s q visits) ++ findings_text p.form more) linted.question
      ∙ sym (text-append q.form (findings_in s q visits) more)
      ∙ ap (findings_text q.form) (found_more v)

  -- they are told
  pub lints : (new : Linter M D) (after : Option (List ℕ)) (v : Visit)
      → Tells {A = ⊤} before after old.report new.report (findings_at s old.report.question.now visits v) (Ok tt)
      → new.memory ≡ old.memory → new.ends ≡ old.ends
      → new.damages ≡ old.damages → damage_of_visit v ≡ [] → new.at ≡ reached_by (visits ++ v ∷ [])
      → Knows new.operations (seen (visits ++ v ∷ [])) → KnowsFiles q.rules new.files.now (visits ++ v ∷ [])
      → KnowsSequences q new.sequences.now (visits ++ v ∷ [])
      → HasLinted hears first new start after (visits ++ v ∷ [])
  lints new after v told memory ends damages quiet at knows files sequences = record {
    memory = rw memory linted.memory;
    question = told.1.question ∙ linted.question;
    damages = rw damages linted.damages;
    heard = rw (damages, flat_map-append damage_of_visit visits (v ∷ []), quiet, append-nil) linted.heard;
    reached = at;
    knows = knows;
    files = files;
    sequences = sequences;
    ends = rw ends linted.ends;
    counts = subst (Counts new.report.counts) (found_more v) (told.1.counts (findings_in s q visits) linted.counts);
    printed = subst (λ (l : List ℕ). HasPrinted start after l new.report.printer.now) (text_more v)
        (told.0 start (findings_text q.form (findings_in s q visits)) linted.printed);
  }

  -- or a write failed
  pub loses : (new : Linter M D) (after : Option (List ℕ)) (v : Visit) (f : WriteFault)
      → Tells {A = ⊤} before after old.report new.report (findings_at s old.report.question.now visits v) (Err f)
      → (refuses : M → ℕ → Type 0) → StopsIn (lint_story refuses hears) first new start after visits (v ∷ []) (fault.Write f.out)
  loses new after v f told refuses = (
    v ∷ [],
    [],
    refl,
    subst (λ (l : List ℕ). TellsOut start after l (fault.Write f.out)) (text_more v)
        (told.0 start (findings_text q.form (findings_in s q visits)) linted.printed),
  )

  -- nothing is found at more visits
  pub lints_nothing : (at : Reached) (operations : Operations) (named : UnitFiles) (more : List Visit)
      → findings_in s q (visits ++ more) ≡ findings_in s q visits → damages_told more ≡ []
      → at ≡ reached_by (visits ++ more) → Knows operations (seen (visits ++ more))
      → KnowsFiles q.rules named (visits ++ more) → KnowsSequences q old.sequences.now (visits ++ more)
      → HasLinted hears first (record old { at = at; operations = operations; files = record old.files { now = named } }) start before (visits ++ more)
  lints_nothing at operations named more none quiet reached knows files sequences =
      let same : findings_in s q visits ≡ findings_in s q (visits ++ more) = sym none in
      record {
        memory = linted.memory;
        question = linted.question;
        damages = linted.damages;
        heard = rw (flat_map-append damage_of_visit visits more, quiet, append-nil) linted.heard;
        reached = reached;
        knows = knows;
        files = files;
        sequences = sequences;
        ends = linted.ends;
        counts = subst (Counts old.report.counts) same linted.counts;
        printed = subst (λ (l : List Finding). HasPrinted start before (findings_text q.form l) old.report.printer.now) same
            linted.printed;
      }

  -- memory was refused at a visit; what was told of it before is forgotten
  pub wants_at : (v : Visit) (f : RunFault) → f ≡ fault.NoMemory
      → (refuses : M → ℕ → Type 0) → RefusesAt (refuses old.memory.now) old.report.question.now (visits ++ v ∷ []) v
      → StopsIn (lint_story refuses hears) first old start before visits (v ∷ []) f
  wants_at v f why refuses refused =
      subst (StopsIn (lint_story refuses hears) first old start before visits (v ∷ [])) (sym why) (
        v ∷ [],
        [],
        refl,
        (
          visits,
          v,
          refl,
          linted,
          (
            refl,
            subst (RefusesSome (refuses first.memory.now) q (visits ++ v ∷ [])) (sym (last_or-push None visits v))
                (rw (← linted.question, ← linted.memory) refused),
          ),
        ),
      )

  -- memory was refused for the files of a header
  pub wants : (refuses : M → ℕ → Type 0) (n : ℕ) (l : HeaderLengths) (h : HeaderData) (f : RunFault)
      → WantsFiles (refuses old.memory.now) old.report.question.now.rules h f
      → StopsIn (lint_story refuses hears) first old start before visits (of_header n l h ∷ []) f
  wants refuses n l h f why = wants_at (of_header n l h) f why.0 refuses (why.1, why.2)

module _ {M D : Type 0} {hears : D → D → List Damage → Type 0} {first old : Linter M D} {start before : Option (List ℕ)}
    {visits : List Visit} (linted : HasLinted hears first old start before visits) where
  -- sequences are kept otherwise
  pub keeps : (sequences : SequencesSeen) → KnowsSequences first.report.question.now sequences visits
      → HasLinted hears first (record old { sequences = record old.sequences { now = sequences } }) start before visits
  keeps sequences knows = record {
    memory = linted.memory;
    question = linted.question;
    damages = linted.damages;
    heard = linted.heard;
    reached = linted.reached;
    knows = linted.knows;
    files = linted.files;
    sequences = knows;
    ends = linted.ends;
    counts = linted.counts;
    printed = linted.printed;
  }

  -- memory was refused for the sequence that a row ends
  pub wants_row : (refuses : M → ℕ → Type 0) (new : SequencesSeen) (h : HeaderData) (r : Row) (f : RunFault) → f ≡ fault.NoMemory
      → ((q : LintQuestion) (visits : List Visit) → KnowsSequences q old.sequences.now visits → KnowsSequences q new visits)
      → ((visits : List Visit) (h : HeaderData) → KnowsSequences old.report.question.now old.sequences.now visits → old.at ≡ reached_by visits
      → RefusesAt (refuses old.memory.now) old.report.question.now (visits ++ of_item (a_row h r) ∷ []) (of_item (a_row h r)))
      → StopsIn (lint_story refuses hears) first (record old { sequences = record old.sequences { now = new } }) start before visits
      (of_item (a_row h r) ∷ []) f
  wants_row refuses new h r f why kept refused =
      wants_at (keeps new (kept first.report.question.now visits linted.sequences)) (of_item (a_row h r)) f why refuses
      (refused visits h (rw linted.question linted.sequences) linted.reached)

-- of a damaged unit nothing is found
pub found_damage : (s : Strings) (q : LintQuestion) (visits : List Visit) (unit offset : ℕ) (kind : FaultKind)
    → findings_in s q (visits ++ of_damage unit offset kind ∷ []) ≡ findings_in s q visits
found_damage s q visits unit offset kind =
    findings-push s q visits (of_damage unit offset kind) ∙ append-nil (findings_in s q visits)

module _ {M D : Type 0} {hears : D → D → List Damage → Type 0} {first old : Linter M D} {start held : Option (List ℕ)}
    {visits : List Visit} (linted : HasLinted hears first old start held visits) where
  -- it is told
  pub tells_damage : (new : D) (unit : ℕ) (damage : Damage)
      → hears first.damages.now new (damages_told visits ++ damage ∷ [])
      → HasLinted hears first (record old { damages = record old.damages { now = new } }) start held
      (visits ++ of_damage unit damage.offset damage.kind ∷ [])
  tells_damage new unit damage heard =
      let v = of_damage unit damage.offset damage.kind in
      let same = sym (found_damage (strings_of first) first.report.question.now visits unit damage.offset damage.kind) in
      record {
        memory = linted.memory;
        question = linted.question;
        damages = linted.damages;
        heard = subst (λ (l : List Damage). hears first.damages.now new l)
            (sym (flat_map-append damage_of_visit visits (v ∷ []))) heard;
        reached = linted.reached ∙ sym (reached_quiet visits v refl refl refl refl refl);
        knows = knows_on old.operations visits v linted.knows;
        files = files_quiet first.report.question.now.rules visits v refl (λ n. refl) (λ h e. cc) old.files.now refl linted.files;
        sequences = sequences_quiet first.report.question.now visits v refl refl refl old.sequences.now linted.sequences;
        ends = linted.ends;
        counts = subst (Counts old.report.counts) same linted.counts;
        printed = subst (λ (l : List Finding). HasPrinted start held (findings_text first.report.question.now.form l) old.report.printer.now) same
            linted.printed;
      }

-- all that was printed goes out
module _ {M D : Type 0} (refuses : M → ℕ → Type 0) (hears : D → D → List Damage → Type 0) (first old : Linter M D) (printer : Printed)
    (start before after : Option (List ℕ)) (visits : List Visit) where
  pub settles : (flow : Flow) → GoesOn (lint_story refuses hears) first old start before visits flow
      → Flushes {A = ⊤} before after old.report.printer.now printer (Ok tt) → printer.pending ≡ []
      → GoesOn (lint_story refuses hears) first
      (record old { report = record old.report { printer = record old.report.printer { now = printer } } }) start after
      visits flow
      × Appends start after (text_by first visits)
  settles flow.On linted flushes empty =
      let printed = flushes start (text_by first visits) linted.printed in (
        record {
          memory = linted.memory;
          question = linted.question;
          damages = linted.damages;
          heard = linted.heard;
          reached = linted.reached;
          knows = linted.knows;
          files = linted.files;
          sequences = linted.sequences;
          ends = linted.ends;
          counts = linted.counts;
          printed = printed;
        },
        HasPrinted-out start after (text_by first visits) printer printed empty,
      )
  settles flow.Stop goes flushes empty = absurd goes

-- nothing was told yet
pub begins : {M D : Type 0} {hears : D → D → List Damage → Type 0} {first : Linter M D} {start : Option (List ℕ)}
    → hears first.damages.now first.damages.now [] → first.at ≡ reached_by [] → Knows first.operations nothing_seen
    → KnowsFiles first.report.question.now.rules first.files.now []
    → KnowsSequences first.report.question.now first.sequences.now []
    → (is_chosen first.report.question.now.rules rule.MissingText ≡ true
    → AreEnds first.ends (strings_of first).line_strings (strings_of first).strings)
    → Counts first.report.counts []
    → HasPrinted start start [] first.report.printer.now → HasLinted hears first first start start []
begins none at knows files sequences ends counts printed = record {
  memory = refl;
  question = refl;
  damages = refl;
  heard = none;
  reached = at;
  knows = knows;
  files = files;
  sequences = sequences;
  ends = ends;
  counts = counts;
  printed = printed;
}
