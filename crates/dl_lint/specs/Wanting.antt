-- For what `lint` asks for memory beside what reading a section takes, and that it was refused. refuses: for how many items memory
-- is refused.
use Rattle.std.specs.Prelude.{◌≡◌, ℕ, ◌+◌, ◌*◌, Bool, true, ◌&&◌, ◌||◌, List, length, nat_lt}
use Rattle.dl_memory.specs.Refusals.{IsRefused}
use Rattle.dl_findings.specs.Chosen.{is_chosen}
use Rattle.dl_findings.specs.declared.rule.Rule.TheVariants as rule
use Rattle.dl_findings.specs.declared.rules.Rules.{Rules}
use Rattle.dl_rows.specs.Items.{a_row}
use Rattle.dl_sections.specs.Section.{Visit, of_header, of_item}
use Rattle.dl_lint.specs.Sequences.{ended_in, live_in}
use Rattle.dl_lint.specs.declared.question.LintQuestion.{LintQuestion}

-- rules that keep something of each file of a unit
abbrev pub keeps_files : Rules → Bool
keeps_files rules = is_chosen rules rule.DuplicateFile || is_chosen rules rule.UnusedFile

-- `no-code` finds something where there are ranges of code alone
abbrev pub wants_ranges : LintQuestion → Bool
wants_ranges q = is_chosen q.rules rule.NoCode && nat_lt 0 (length q.ranges.now)

-- where something is kept of each sequence
abbrev pub keeps_sequences : LintQuestion → Bool
keeps_sequences q = is_chosen q.rules rule.Overlap || wants_ranges q

-- at the last of these visits, for no more items than a header has files, or than sequences were kept
abbrev pub RefusesAt : (refuses : ℕ → Type 0) → LintQuestion → List Visit → (last : Visit) → Type 0
RefusesAt refuses q visits (of_header offset lengths h) =
    (keeps_files q.rules ≡ true) × IsRefused refuses (length h.files.entries)
RefusesAt refuses q visits (of_item (a_row h r)) =
    (keeps_sequences q ≡ true) × IsRefused refuses (length (ended_in (live_in q) visits))
RefusesAt refuses q visits other = ⊥

-- at the end of the section, for the places where sequences begin and end
abbrev pub RefusesPlaces : (refuses : ℕ → Type 0) → LintQuestion → List Visit → Type 0
RefusesPlaces refuses q visits =
    (keeps_sequences q ≡ true) × IsRefused refuses (2 * length (ended_in (live_in q) visits) + 1)
