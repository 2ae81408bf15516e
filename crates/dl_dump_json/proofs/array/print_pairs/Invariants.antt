-- The elements so far were printed.
use Rattle.std.proofs.Common.{take}
use Rattle.std.specs.Prelude.{ℕ}
use Rattle.dl_table.specs.declared.table.Pair.{Pair}
use Rattle.dl_dump_json.specs.Fields.{pair_object}
use Rattle.dl_print.specs.Output.{PrintsMore}
use Rattle.dl_dump_json.specs.Members.{elements}
use Rattle.dl_dump_json.proofs.array.print_pairs.Given as goal

abbrev pub invariant-loop-place : goal.invariant-loop-place
invariant-loop-place g l =
    PrintsMore (g.W.Write.contents l.initial.output) (g.W.Write.contents l.output) l.initial.printer l.printer
    (elements (λ (place : ℕ) (p : Pair). pair_object p) 0 (take l.place l.pairs))
