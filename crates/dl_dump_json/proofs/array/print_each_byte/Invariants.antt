-- The elements so far were printed.
use Rattle.std.proofs.Common.{take}
use Rattle.std.specs.Prelude.{ℕ, decimal}
use Rattle.dl_print.specs.Output.{PrintsMore}
use Rattle.dl_dump_json.specs.Members.{elements}
use Rattle.dl_dump_json.proofs.array.print_each_byte.Given as goal

abbrev pub invariant-loop-place : goal.invariant-loop-place
invariant-loop-place g l =
    PrintsMore (g.W.Write.contents l.initial.output) (g.W.Write.contents l.output) l.initial.printer l.printer
    (elements (λ (place n : ℕ). decimal n) 0 (take l.place l.bytes))
