-- The path and the numbers so far are added.
use Rattle.std.proofs.Common.{◌≡◌, ◌++◌, ◌∷◌, map, take}
use Rattle.dl_table.specs.EntryHeld.{entry_items}
use Rattle.dl_table.specs.Value.{number, text}
use Rattle.dl_emit.specs.Conversion.{kept_numbers, number_in, path_in}
use Rattle.dl_emit.specs.Parts.{held_in, IsExact}
use Rattle.dl_emit.proofs.new_tables.push_file.Given as goal

abbrev pub invariant-loop-content : goal.invariant-loop-content
invariant-loop-content g l = record {
  exact : IsExact l.parts;
  held : held_in l.parts ≡ held_in l.fn.parts ++ text (path_in (entry_items l.file))
      ∷ map (λ content. number (number_in (entry_items l.file) content))
      (take l.content-index (kept_numbers l.fn.kept.times l.fn.kept.sizes));
}
