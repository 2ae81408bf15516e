use Rattle.std.proofs.Common.{◌++◌, codes}
use Rattle.std.proofs.lemmas.Result.{err_from_is_err_and}
use Rattle.dl_path.proofs.PrintLemmas.{loses_front, loses_then, prints_then}
use Rattle.std.specs.Prelude.{decimal, flat_map}
use Rattle.dl_table.specs.EntryHeld.{entry_items}
use Rattle.dl_print.specs.ValueText.{strings_of}
use Rattle.dl_dump_json.specs.Values.{entry_object, value_member}
use Rattle.dl_dump_json.proofs.entry.print_entry.Goals as goal

pub returns-in_err-number-clause-printed : goal.returns-in_err-number-clause-printed
unfolding entry_object
returns-in_err-number-clause-printed g c start text h =
    let e = err_from_is_err_and c.from_residual.result c.from_residual.ensures.1 in
    rw (e.1, e.2) (loses_front _ _ _ (codes "{\"number\":" ++ decimal c.args.number) (flat_map (value_member (strings_of c.args.strings.now)) (entry_items c.args.entry) ++ (codes "}")) _ c.in_err-number.ensures.printed start text h)

pub returns-in_err-print_values-clause-printed : goal.returns-in_err-print_values-clause-printed
unfolding entry_object
returns-in_err-print_values-clause-printed g c start text h =
    let e = err_from_is_err_and c.from_residual-in_err-print_values.result c.from_residual-in_err-print_values.ensures.1 in
    rw (e.1, e.2) (loses_then _ _ _ _ _ (codes "{\"number\":" ++ decimal c.args.number) (flat_map (value_member (strings_of c.args.strings.now)) (entry_items c.args.entry) ++ (codes "}")) _ c.in_ok-number.ensures.printed
    (loses_front _ _ _ (flat_map (value_member (strings_of c.args.strings.now)) (entry_items c.args.entry)) (codes "}") _ c.in_err-print_values.ensures.printed) start text h)

pub returns-clause-printed : goal.returns-clause-printed
unfolding entry_object
returns-clause-printed g c =
    prints_then _ _ _ _ _ _ (codes "{\"number\":" ++ decimal c.args.number) (flat_map (value_member (strings_of c.args.strings.now)) (entry_items c.args.entry) ++ (codes "}")) _ c.in_ok-number.ensures.printed
    (prints_then _ _ _ _ _ _ (flat_map (value_member (strings_of c.args.strings.now)) (entry_items c.args.entry)) (codes "}") _ c.in_ok-print_values.ensures.printed
    c.put.ensures.printed)
