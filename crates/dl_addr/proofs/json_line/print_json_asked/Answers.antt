use Rattle.std.proofs.lemmas.Result.{err_from_is_err_and}
use Rattle.std.specs.Option.{option_copied}
use Rattle.dl_addr.specs.Json.{json_address, json_section}
use Rattle.dl_path.proofs.PrintLemmas.{loses_front}
use Rattle.dl_addr.proofs.json_line.print_json_asked.Goals as goal

pub returns-in_err-print_json_address-clause-printed : goal.returns-in_err-print_json_address-clause-printed
returns-in_err-print_json_address-clause-printed g c start text h =
    let p = err_from_is_err_and c.from_residual.result c.from_residual.ensures.1 in
    let a = json_address c.args.address in
    let b = json_section c.args.address (option_copied c.args.section) in
    let old = g.W.Write.contents c.args.output.now in
    let new = g.W.Write.contents c.print_json_address.new.output in
    rw (p.1, p.2) (loses_front old new c.args.printer.now a b _ c.in_err-print_json_address.ensures.printed start text h)
