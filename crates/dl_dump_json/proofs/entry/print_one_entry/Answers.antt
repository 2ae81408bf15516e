use Rattle.std.proofs.lemmas.Result.{err_from_is_err_and}
use Rattle.dl_path.proofs.PrintLemmas.{loses_front, prints_then}
use Rattle.dl_table.specs.EntryHeld.{entry_items}
use Rattle.dl_print.specs.ValueText.{strings_of}
use Rattle.dl_dump_json.specs.Members.{comma_before}
use Rattle.dl_dump_json.specs.Values.{entry_object}
use Rattle.dl_dump_json.proofs.entry.print_one_entry.Goals as goal

pub returns-in_err-print_comma-clause-printed : goal.returns-in_err-print_comma-clause-printed
returns-in_err-print_comma-clause-printed g c start text h =
    let e = err_from_is_err_and c.from_residual.result c.from_residual.ensures.1 in
    rw (e.1, e.2) (loses_front _ _ _ (comma_before c.args.place) (entry_object (strings_of c.args.strings.now) c.args.number (entry_items c.args.entry)) _ c.in_err-print_comma.ensures.printed start text h)

pub returns-clause-printed : goal.returns-clause-printed
returns-clause-printed g c =
    prints_then _ _ _ _ _ _ (comma_before c.args.place) (entry_object (strings_of c.args.strings.now) c.args.number (entry_items c.args.entry)) _ c.in_ok-print_comma.ensures.printed
    c.print_entry.ensures.printed
