-- The values so far were printed, and the iterator has the others.
use Rattle.std.proofs.Common.{◌≡◌, ℕ, List, ◌++◌}
use Rattle.std.specs.List.{flat_map}
use Rattle.dl_table.specs.Value.{Value}
use Rattle.dl_table.specs.ValuesLeft.{values_left}
use Rattle.dl_print.specs.Output.{PrintsMore}
use Rattle.dl_print.specs.ValueText.{strings_of}
use Rattle.dl_dump_json.specs.Values.{value_member}
use Rattle.dl_dump_json.proofs.entry.print_values.Given as goal

abbrev pub invariant-loop-content : goal.invariant-loop-content
invariant-loop-content g l = record {
  done : List (ℕ × Value);
  split : values_left l.initial.content-iterator ≡ done ++ values_left l.content-iterator;
  printed : PrintsMore (g.W.Write.contents l.initial.output) (g.W.Write.contents l.output) l.initial.printer l.printer
      (flat_map (value_member (strings_of l.strings)) done);
}
