-- The first files were told.
use Rattle.std.proofs.Common.{◌≡◌, ◌+◌, ◌-◌, ◌≤◌, ℕ, Bool, List, Some}
use Rattle.dl_lines.specs.declared.question.Wanted.{Wanted}
use Rattle.dl_lines.specs.Places.{CodePlace, path_in}
use Rattle.dl_lines.specs.Searching.{Judging}
use Rattle.dl_lines.specs.Seeking.{known_of}
use Rattle.dl_lines.proofs.seeker.LineSeeker.judge_files.Given as goal

abbrev pub invariant-loop-entry : goal.invariant-loop-entry
invariant-loop-entry g l = record {
  within : l.entry ≤ l.len;
  same : l.self ≡ record l.initial.self { searches = l.self.searches };
  judged : (wanted : List Wanted) (exact : Bool) (ended : List CodePlace) (rows files : ℕ)
      → Judging l.initial.self.searches.items wanted exact ended (path_in (known_of l.initial.self) l.offset (Some l.header)) rows files l.first
      → Judging l.self.searches.items wanted exact ended (path_in (known_of l.initial.self) l.offset (Some l.header)) rows files
      (l.first + l.entry);
}

abbrev pub decreases-loop-entry : goal.decreases-loop-entry
decreases-loop-entry g l = l.len - l.entry
