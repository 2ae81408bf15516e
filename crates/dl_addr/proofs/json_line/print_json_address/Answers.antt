use Rattle.std.proofs.Common.{ℕ, Option, sym, subst}
use Rattle.dl_print.specs.Output.{Prints}
use Rattle.dl_addr.specs.Json.{json_address}
use Rattle.dl_addr.proofs.json_line.print_json_address.Goals as goal

pub returns-in-Some-clause-printed : goal.returns-in-Some-clause-printed
returns-in-Some-clause-printed g c =
    let old = g.W.Write.contents c.args.output.now in
    let new = g.W.Write.contents c.print_given.new.output in
    subst (λ (o : Option ℕ). Prints old new c.args.printer.now c.print_given.new.printer
    (json_address o) c.print_given.result) (sym c.in-Some.is) c.print_given.ensures.printed

pub returns-in-None-clause-printed : goal.returns-in-None-clause-printed
returns-in-None-clause-printed g c =
    let old = g.W.Write.contents c.args.output.now in
    let new = g.W.Write.contents c.put.new.output in
    subst (λ (o : Option ℕ). Prints old new c.args.printer.now c.put.new.self (json_address o) c.put.result)
    (sym c.in-None.is) c.put.ensures.printed
