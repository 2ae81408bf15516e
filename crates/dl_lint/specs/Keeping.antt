-- What is kept of visits. No promise rests on this file.
use Rattle.std.specs.Prelude.{◌≡◌, ℕ, ◌+◌, ◌-◌, ◌%◌, ◌^◌, ◌<◌, ◌≤◌, ◌==◌, ◌||◌, ◌⊎◌, Bool, true, false, if◌then◌else◌, List, [], ◌∷◌, length, IfSome, MatchOption, Some, None, is_none}
use Rattle.dl_field.specs.HeaderData.{HeaderData}
use Rattle.std.specs.List.{before_last, list_any}
use Rattle.dl_rows.specs.declared.row.Row.{Row}
use Rattle.dl_head.specs.Numbers.{file_numbered}
use Rattle.dl_rows.specs.declared.plain_run.PlainRows.{PlainRows}
use Rattle.dl_rows.specs.declared.plain_run.PlainRun.{PlainRun}
use Rattle.dl_look.specs.Answer.{first_place, is_below, is_rising, last_place}
use Rattle.dl_sections.specs.Copying.{offset_after as unit_offset}
use Rattle.dl_sections.specs.Section.{Visit}
use Rattle.dl_sections.specs.Visiting.{header_told}
use Rattle.dl_findings.specs.Chosen.{is_chosen}
use Rattle.dl_findings.specs.declared.rule.Rule.TheVariants as rule
use Rattle.dl_findings.specs.declared.rules.Rules.{Rules}
use Rattle.dl_table_rules.specs.Keeping.{AreNamed}
use Rattle.dl_table_rules.specs.Unused.{is_among}
use Rattle.dl_operation_rules.specs.Operations.{at_address}
use Rattle.dl_sequence_rules.specs.Keeping.{AreDead, IsAddressCoverage, IsCoverage}
use Rattle.dl_sequence_rules.specs.SequenceFindings.{overlaps_after}
use Rattle.dl_sequence_rules.specs.declared.ended.Ended.{Ended}
use Rattle.dl_findings.specs.Counting.{at_most_64_bits}
use Rattle.dl_lint.specs.Before.{end_offset, is_operation, of_unit, offset_after, operation_offset, rows_told}
use Rattle.dl_lint.specs.Before.{sequence_told}
use Rattle.dl_lint.specs.Sequences.{dead_told, ended_in, live_in}
use Rattle.dl_lint.specs.TableRules.{files_named}
use Rattle.dl_lint.specs.Wanting.{keeps_sequences}
use Rattle.dl_lint.specs.declared.reached.Offsets.{Offsets}
use Rattle.dl_lint.specs.declared.reached.Reached.{Reached}
use Rattle.dl_lint.specs.declared.reached.Sequence.{Sequence}
use Rattle.dl_lint.specs.declared.question.LintQuestion.{LintQuestion}
use Rattle.dl_lint.specs.declared.section_report.Covered.{Covered}
use Rattle.dl_lint.specs.declared.section_report.Crowded.{Crowded}
use Rattle.dl_lint.specs.declared.sequences_seen.SequencesSeen.{SequencesSeen}
use Rattle.dl_lint.specs.declared.unit_files.UnitFiles.{UnitFiles}

abbrev pub is_some_row : List Row → Bool
is_some_row [] = false
is_some_row (r ∷ rows) = true

abbrev pub is_statement : Row → Bool
is_statement r = r.is_stmt

-- of the rows of a sequence
abbrev pub sequence_of : List Row → Sequence
sequence_of rows = record {
  has_begun = is_some_row rows;
  first = first_place rows;
  has_statement = list_any is_statement rows;
  rising = is_rising rows;
}

-- of the visits of a section up to some one
abbrev pub reached_by : List Visit → Reached
reached_by visits = record {
  operation = operation_offset visits;
  begun = offset_after visits (before_last is_operation (of_unit visits));
  next = end_offset visits;
  rows = at_most_64_bits (length (rows_told visits));
  last = last_place (rows_told visits);
  sequence = sequence_of (sequence_told visits);
}

-- ---- of a plain run

-- those of the last operation, of so many bytes, of a run of so many, where no operation has begun before
pub record AreOf (at : Reached) (bytes last : ℕ) (o : Offsets) : Type 0 where
  pub whole : at.begun ≡ at.next
  pub some : 1 ≤ bytes
  pub end : o.end ≡ at.next + bytes
  pub begin : o.begin + last ≡ o.end
  pub fits : o.end < 2 ^ 64

-- a sequence with its rows, of which there are some
abbrev pub with_rows : Sequence → PlainRows → Sequence
with_rows s rows = record s {
  has_begun = true;
  first = if s.has_begun then s.first else at_address rows.first;
  has_statement = s.has_statement || rows.has_statement;
}

-- what is kept after it
abbrev pub after_run : Reached → Offsets → PlainRows → Reached
after_run at o rows =
    if rows.count == 0 then record at { operation = o.begin; begun = o.end; next = o.end } else record {
      operation = o.begin;
      begun = o.end;
      next = o.end;
      rows = at_most_64_bits (at.rows + rows.count);
      last = at_address rows.last;
      sequence = with_rows at.sequence rows;
    }

-- where its first row is no multiple of the least length of an instruction from the first one of its sequence, or the rule isn't
-- known to find nothing
abbrev pub first_of : Sequence → (address : ℕ) → ℕ
first_of s address = if s.has_begun then s.first.address else address

pub record FitsLength (least first address : ℕ) : Type 0 where
  pub after : first ≤ address
  pub whole : (address - first) % least ≡ 0

-- the rules of rows find nothing at its rows
pub record AreGoodRows (at : Reached) (h : HeaderData) (run : PlainRun) : Type 0 where
  pub files : (file : ℕ) → is_among run.files.now file ≡ true → is_none (file_numbered h file) ≡ false
  pub rises : at.sequence.has_begun ≡ true → is_below (at_address run.rows.first) at.last ≡ false
  pub whole : (h.params.minimum_instruction_length ≤ 1)
      ⊎ FitsLength h.params.minimum_instruction_length (first_of at.sequence run.rows.first) run.rows.first

-- ---- of files

-- where their rule is chosen, those of the current unit that rows have named
pub record KnowsFiles (rules : Rules) (files : UnitFiles) (visits : List Visit) : Type 0 where
  pub unit : files.unit ≡ unit_offset 0 visits
  pub named : is_chosen rules rule.UnusedFile ≡ true → (h : HeaderData) → header_told None visits ≡ Some h
      → AreNamed files.named h (files_named visits)

-- ---- of sequences

-- where rules on them are chosen, the dead ones of the current unit, and those that cover places
pub record KnowsSequences (q : LintQuestion) (seen : SequencesSeen) (visits : List Visit) : Type 0 where
  pub dead : is_chosen q.rules rule.DeadSequence ≡ true → AreDead seen.dead (dead_told (live_in q) visits)
  pub ended : keeps_sequences q ≡ true → seen.ended.items ≡ ended_in (live_in q) visits

-- its sequences have the overlaps of these, and it tells which of them is the first that covers a place
pub record IsCrowded (crowded : Crowded) (sequences : List Ended) : Type 0 where
  pub coverage : IsCoverage crowded.coverage crowded.sequences.items
  pub same : overlaps_after [] crowded.sequences.items ≡ overlaps_after [] sequences

-- where their rules find something, by which sequences these are first
pub record AreCovered (q : LintQuestion) (covered : Covered) (sequences : List Ended) : Type 0 where
  pub places : MatchOption covered.places (is_chosen q.rules rule.Overlap ≡ false) (λ c. IsCrowded c sequences)
  pub addresses : IfSome covered.addresses (λ c. IsAddressCoverage c sequences)
