use Rattle.std.proofs.lemmas.Result.{err_from_is_err_and}
use Rattle.dl_path.proofs.PrintLemmas.{loses_front, prints_then}
use Rattle.dl_table.specs.Held.{value_lent}
use Rattle.dl_print.specs.ValueText.{content_name, strings_of}
use Rattle.dl_dump_json.specs.Members.{name_start}
use Rattle.dl_dump_json.specs.Values.{value_json, value_member}
use Rattle.dl_dump_json.proofs.entry.print_named_value.Goals as goal

pub returns-in_err-print_content_start-clause-printed : goal.returns-in_err-print_content_start-clause-printed
unfolding value_member
returns-in_err-print_content_start-clause-printed g c start text h =
    let e = err_from_is_err_and c.from_residual.result c.from_residual.ensures.1 in
    rw (e.1, e.2) (loses_front _ _ _ (name_start (content_name c.args.content)) (value_json (strings_of c.args.strings.now) (value_lent c.args.value)) _ c.in_err-print_content_start.ensures.printed start text h)

pub returns-clause-printed : goal.returns-clause-printed
unfolding value_member
returns-clause-printed g c =
    prints_then _ _ _ _ _ _ (name_start (content_name c.args.content)) (value_json (strings_of c.args.strings.now) (value_lent c.args.value)) _ c.in_ok-print_content_start.ensures.printed
    c.print_value.ensures.printed
