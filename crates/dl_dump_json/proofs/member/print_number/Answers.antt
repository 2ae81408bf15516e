use Rattle.std.proofs.lemmas.Result.{err_from_is_err_and}
use Rattle.dl_path.proofs.PrintLemmas.{loses_front, prints_then}
use Rattle.std.specs.Prelude.{decimal}
use Rattle.dl_dump_json.specs.Members.{name_start, number_member}
use Rattle.dl_dump_json.proofs.member.print_number.Goals as goal

pub returns-in_err-print_name-clause-printed : goal.returns-in_err-print_name-clause-printed
unfolding number_member
returns-in_err-print_name-clause-printed g c start text h =
    let e = err_from_is_err_and c.from_residual.result c.from_residual.ensures.1 in
    rw (e.1, e.2) (loses_front _ _ _ (name_start c.args.name.now) (decimal c.args.number) _ c.in_err-print_name.ensures.printed start text h)

pub returns-clause-printed : goal.returns-clause-printed
unfolding number_member
returns-clause-printed g c =
    prints_then _ _ _ _ _ _ (name_start c.args.name.now) (decimal c.args.number) _ c.in_ok-print_name.ensures.printed
    c.number.ensures.printed
