use Rattle.std.proofs.Common.{◌++◌, codes}
use Rattle.std.proofs.lemmas.Result.{err_from_is_err_and}
use Rattle.dl_path.proofs.PrintLemmas.{loses_front, loses_then, prints_then}
use Rattle.dl_dump_json.specs.Fields.{lengths_members, sizes_members}
use Rattle.dl_dump_json.specs.Members.{number_member}
use Rattle.dl_dump_json.proofs.fields.print_lengths.Goals as goal

pub returns-in_err-print_number-clause-printed : goal.returns-in_err-print_number-clause-printed
unfolding lengths_members
returns-in_err-print_number-clause-printed g c start text h =
    let e = err_from_is_err_and c.from_residual.result c.from_residual.ensures.1 in
    rw (e.1, e.2) (loses_front _ _ _ (number_member (codes "unit_length") c.args.lengths.now.unit_length) (sizes_members c.args.params.now ++ (number_member (codes "header_length") c.args.lengths.now.header_length)) _ c.in_err-print_number.ensures.printed start text h)

pub returns-in_err-print_sizes-clause-printed : goal.returns-in_err-print_sizes-clause-printed
unfolding lengths_members
returns-in_err-print_sizes-clause-printed g c start text h =
    let e = err_from_is_err_and c.from_residual-in_err-print_sizes.result c.from_residual-in_err-print_sizes.ensures.1 in
    rw (e.1, e.2) (loses_then _ _ _ _ _ (number_member (codes "unit_length") c.args.lengths.now.unit_length) (sizes_members c.args.params.now ++ (number_member (codes "header_length") c.args.lengths.now.header_length)) _ c.in_ok-print_number.ensures.printed
    (loses_front _ _ _ (sizes_members c.args.params.now) (number_member (codes "header_length") c.args.lengths.now.header_length) _ c.in_err-print_sizes.ensures.printed) start text h)

pub returns-clause-printed : goal.returns-clause-printed
unfolding lengths_members
returns-clause-printed g c =
    prints_then _ _ _ _ _ _ (number_member (codes "unit_length") c.args.lengths.now.unit_length) (sizes_members c.args.params.now ++ (number_member (codes "header_length") c.args.lengths.now.header_length)) _ c.in_ok-print_number.ensures.printed
    (prints_then _ _ _ _ _ _ (sizes_members c.args.params.now) (number_member (codes "header_length") c.args.lengths.now.header_length) _ c.in_ok-print_sizes.ensures.printed
    c.print_number-2.ensures.printed)
