-- The entries so far were printed.
use Rattle.std.proofs.Common.{ℕ, List, ◌+◌, take}
use Rattle.dl_table.specs.EntryData.{with_content}
use Rattle.dl_table.specs.Value.{Value}
use Rattle.dl_print.specs.Output.{PrintsMore}
use Rattle.dl_print.specs.ValueText.{strings_of}
use Rattle.dl_dump_json.specs.Members.{elements}
use Rattle.dl_dump_json.specs.Values.{entry_object}
use Rattle.dl_dump_json.proofs.entry.print_entries.Given as goal

abbrev pub invariant-loop-place : goal.invariant-loop-place
invariant-loop-place g l =
    PrintsMore (g.W.Write.contents l.initial.output) (g.W.Write.contents l.output) l.initial.printer l.printer
    (elements (λ (place : ℕ) (values : List Value). entry_object (strings_of l.strings) (l.first + place)
    (with_content l.table.pairs values)) 0 (take l.place l.table.entries))
