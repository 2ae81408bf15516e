use Rattle.std.proofs.Common.{◌++◌, codes}
use Rattle.std.proofs.lemmas.Result.{err_from_is_err_and}
use Rattle.dl_path.proofs.PrintLemmas.{loses_front, loses_then, prints_then}
use Rattle.dl_print.specs.ValueText.{strings_of}
use Rattle.dl_dump_json.specs.Fields.{fields_members}
use Rattle.dl_dump_json.specs.Units.{tables_members, unit_start}
use Rattle.dl_dump_json.proofs.unit.print_unit.Goals as goal

pub returns-in_err-print_start-clause-printed : goal.returns-in_err-print_start-clause-printed
returns-in_err-print_start-clause-printed g c start text h =
    let e = err_from_is_err_and c.from_residual.result c.from_residual.ensures.1 in
    rw (e.1, e.2) (loses_front _ _ _ (unit_start c.args.offset c.args.header.now.params.format) (fields_members c.args.lengths.now c.args.header.now ++ (tables_members (strings_of c.args.strings.now) c.args.header.now ++ (codes "}\n"))) _ (rw c.params.ensures.value at c.in_err-print_start.ensures.printed) start text h)

pub returns-in_err-print_fields-clause-printed : goal.returns-in_err-print_fields-clause-printed
returns-in_err-print_fields-clause-printed g c start text h =
    let e = err_from_is_err_and c.from_residual-in_err-print_fields.result c.from_residual-in_err-print_fields.ensures.1 in
    rw (e.1, e.2) (loses_then _ _ _ _ _ (unit_start c.args.offset c.args.header.now.params.format) (fields_members c.args.lengths.now c.args.header.now ++ (tables_members (strings_of c.args.strings.now) c.args.header.now ++ (codes "}\n"))) _ (rw c.params.ensures.value at c.in_ok-print_start.ensures.printed)
    (loses_front _ _ _ (fields_members c.args.lengths.now c.args.header.now) (tables_members (strings_of c.args.strings.now) c.args.header.now ++ (codes "}\n")) _ c.in_err-print_fields.ensures.printed) start text h)

pub returns-in_err-print_tables-clause-printed : goal.returns-in_err-print_tables-clause-printed
returns-in_err-print_tables-clause-printed g c start text h =
    let e = err_from_is_err_and c.from_residual-in_err-print_tables.result c.from_residual-in_err-print_tables.ensures.1 in
    rw (e.1, e.2) (loses_then _ _ _ _ _ (unit_start c.args.offset c.args.header.now.params.format) (fields_members c.args.lengths.now c.args.header.now ++ (tables_members (strings_of c.args.strings.now) c.args.header.now ++ (codes "}\n"))) _ (rw c.params.ensures.value at c.in_ok-print_start.ensures.printed)
    (loses_then _ _ _ _ _ (fields_members c.args.lengths.now c.args.header.now) (tables_members (strings_of c.args.strings.now) c.args.header.now ++ (codes "}\n")) _ c.in_ok-print_fields.ensures.printed
    (loses_front _ _ _ (tables_members (strings_of c.args.strings.now) c.args.header.now) (codes "}\n") _ c.in_err-print_tables.ensures.printed)) start text h)

pub returns-clause-printed : goal.returns-clause-printed
returns-clause-printed g c =
    prints_then _ _ _ _ _ _ (unit_start c.args.offset c.args.header.now.params.format) (fields_members c.args.lengths.now c.args.header.now ++ (tables_members (strings_of c.args.strings.now) c.args.header.now ++ (codes "}\n"))) _ (rw c.params.ensures.value at c.in_ok-print_start.ensures.printed)
    (prints_then _ _ _ _ _ _ (fields_members c.args.lengths.now c.args.header.now) (tables_members (strings_of c.args.strings.now) c.args.header.now ++ (codes "}\n")) _ c.in_ok-print_fields.ensures.printed
    (prints_then _ _ _ _ _ _ (tables_members (strings_of c.args.strings.now) c.args.header.now) (codes "}\n") _ c.in_ok-print_tables.ensures.printed
    c.put.ensures.printed))
