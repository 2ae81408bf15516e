-- The places so far, and those of the entries that are left, are those of all entries; there is a byte for each of them.
use Rattle.std.proofs.Common.{◌≡◌, ◌+◌, ◌-◌, ◌≤◌, ◌++◌, length}
use Rattle.dl_reloc.specs.Compact.{compact_after}
use Rattle.dl_reloc.specs.Places.{placed_all, placed_compact}
use Rattle.dl_reloc.proofs.places.push_compact_places.Given as goal

abbrev pub invariant-loop : goal.invariant-loop
invariant-loop g l = record {
  all : l.places.items
      ++ placed_all l.target
      (compact_after l.target.class l.header l.entry (l.header.count - l.counter) l.rest).entries l.table l.wide
      ≡ l.initial.places.items ++ placed_compact l.target l.section l.table l.wide;
  room : length l.places.items + length l.rest ≤ length l.initial.places.items + length l.section;
}
