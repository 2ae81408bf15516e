use Rattle.std.proofs.Common.{codes}
use Rattle.std.proofs.lemmas.Result.{err_from_is_err_and}
use Rattle.dl_path.proofs.PrintLemmas.{loses_front, prints_then}
use Rattle.dl_head.specs.Numbers.{first_number}
use Rattle.dl_print.specs.ValueText.{strings_of}
use Rattle.dl_dump_json.specs.Units.{table_member, tables_members}
use Rattle.dl_dump_json.proofs.unit.print_tables.Goals as goal

pub returns-in_err-print_table-clause-printed : goal.returns-in_err-print_table-clause-printed
unfolding tables_members
returns-in_err-print_table-clause-printed g c start text h =
    let e = err_from_is_err_and c.from_residual.result c.from_residual.ensures.1 in
    rw (e.1, e.2) (loses_front _ _ _ (table_member (strings_of c.args.strings.now) (codes "directories") (first_number c.args.header.now.params) c.args.header.now.directories) (table_member (strings_of c.args.strings.now) (codes "files") (first_number c.args.header.now.params) c.args.header.now.files) _ (rw (c.first_number-first.ensures.value, c.directories.ensures) at c.in_err-print_table.ensures.printed) start text h)

pub returns-clause-printed : goal.returns-clause-printed
unfolding tables_members
returns-clause-printed g c =
    prints_then _ _ _ _ _ _ (table_member (strings_of c.args.strings.now) (codes "directories") (first_number c.args.header.now.params) c.args.header.now.directories) (table_member (strings_of c.args.strings.now) (codes "files") (first_number c.args.header.now.params) c.args.header.now.files) _ (rw (c.first_number-first.ensures.value, c.directories.ensures) at c.in_ok-print_table.ensures.printed)
    (rw (c.first_number-first.ensures.value, c.files.ensures) at c.print_table-2.ensures.printed)
