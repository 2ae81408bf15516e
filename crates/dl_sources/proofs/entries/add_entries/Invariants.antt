use Rattle.std.proofs.Common.{◌-◌, ◌++◌, ◌≤◌, List}
use Rattle.std.specs.List.{flat_map}
use Rattle.dl_sources.specs.Entries.{numbers_from}
use Rattle.dl_sources.specs.Holding.{Holds}
use Rattle.dl_sources.specs.Sources.{Mention}
use Rattle.dl_sources.specs.UnitEntries.{entry_seen}
use Rattle.dl_sources.proofs.entries.add_entries.Given as goal

abbrev pub invariant-loop-place : goal.invariant-loop-place
invariant-loop-place g l =
    (l.place ≤ l.count)
    × ((mentions : List Mention) → Holds l.fn.table mentions
    → Holds l.table (mentions ++ flat_map (entry_seen l.fn.unit) (numbers_from l.first l.place)))

abbrev pub decreases-loop-place : goal.decreases-loop-place
decreases-loop-place g l = l.count - l.place
