-- The directories so far are added.
use Rattle.std.proofs.Common.{◌≡◌, ◌++◌, flat_map, take}
use Rattle.dl_emit.specs.Conversion.{directory_entry, entries_in}
use Rattle.dl_emit.specs.Parts.{held_in, IsExact}
use Rattle.dl_emit.proofs.new_tables.push_directories.Given as goal

abbrev pub invariant-loop-i : goal.invariant-loop-i
invariant-loop-i g l = record {
  exact : IsExact l.parts;
  held : held_in l.parts ≡ held_in l.fn.parts ++ flat_map directory_entry (take l.i (entries_in l.old));
}
