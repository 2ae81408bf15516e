use Rattle.std.proofs.Common.{◌++◌, codes}
use Rattle.std.proofs.lemmas.Result.{err_from_is_err_and}
use Rattle.dl_path.proofs.PrintLemmas.{loses_front, loses_then, prints_then}
use Rattle.dl_dump_json.specs.Fields.{fields_members, formats_members, lengths_members, params_members}
use Rattle.dl_dump_json.specs.Members.{number_member}
use Rattle.dl_dump_json.proofs.fields.print_fields.Goals as goal

pub returns-in_err-print_lengths-clause-printed : goal.returns-in_err-print_lengths-clause-printed
unfolding fields_members
returns-in_err-print_lengths-clause-printed g c start text h =
    let e = err_from_is_err_and c.from_residual.result c.from_residual.ensures.1 in
    rw (e.1, e.2) (loses_front _ _ _ (lengths_members c.args.lengths.now c.args.header.now.params) (params_members c.args.header.now.params ++ (formats_members c.args.header.now ++ (number_member (codes "padding") c.args.lengths.now.padding))) _ (rw c.params-params.ensures.value at c.in_err-print_lengths.ensures.printed) start text h)

pub returns-in_err-print_params-clause-printed : goal.returns-in_err-print_params-clause-printed
unfolding fields_members
returns-in_err-print_params-clause-printed g c start text h =
    let e = err_from_is_err_and c.from_residual-in_err-print_params.result c.from_residual-in_err-print_params.ensures.1 in
    rw (e.1, e.2) (loses_then _ _ _ _ _ (lengths_members c.args.lengths.now c.args.header.now.params) (params_members c.args.header.now.params ++ (formats_members c.args.header.now ++ (number_member (codes "padding") c.args.lengths.now.padding))) _ (rw c.params-params.ensures.value at c.in_ok-print_lengths.ensures.printed)
    (loses_front _ _ _ (params_members c.args.header.now.params) (formats_members c.args.header.now ++ (number_member (codes "padding") c.args.lengths.now.padding)) _ c.in_err-print_params.ensures.printed) start text h)

pub returns-in_err-print_formats-clause-printed : goal.returns-in_err-print_formats-clause-printed
unfolding fields_members
returns-in_err-print_formats-clause-printed g c start text h =
    let e = err_from_is_err_and c.from_residual-in_err-print_formats.result c.from_residual-in_err-print_formats.ensures.1 in
    rw (e.1, e.2) (loses_then _ _ _ _ _ (lengths_members c.args.lengths.now c.args.header.now.params) (params_members c.args.header.now.params ++ (formats_members c.args.header.now ++ (number_member (codes "padding") c.args.lengths.now.padding))) _ (rw c.params-params.ensures.value at c.in_ok-print_lengths.ensures.printed)
    (loses_then _ _ _ _ _ (params_members c.args.header.now.params) (formats_members c.args.header.now ++ (number_member (codes "padding") c.args.lengths.now.padding)) _ c.in_ok-print_params.ensures.printed
    (loses_front _ _ _ (formats_members c.args.header.now) (number_member (codes "padding") c.args.lengths.now.padding) _ c.in_err-print_formats.ensures.printed)) start text h)

pub returns-clause-printed : goal.returns-clause-printed
unfolding fields_members
returns-clause-printed g c =
    prints_then _ _ _ _ _ _ (lengths_members c.args.lengths.now c.args.header.now.params) (params_members c.args.header.now.params ++ (formats_members c.args.header.now ++ (number_member (codes "padding") c.args.lengths.now.padding))) _ (rw c.params-params.ensures.value at c.in_ok-print_lengths.ensures.printed)
    (prints_then _ _ _ _ _ _ (params_members c.args.header.now.params) (formats_members c.args.header.now ++ (number_member (codes "padding") c.args.lengths.now.padding)) _ c.in_ok-print_params.ensures.printed
    (prints_then _ _ _ _ _ _ (formats_members c.args.header.now) (number_member (codes "padding") c.args.lengths.now.padding) _ c.in_ok-print_formats.ensures.printed
    c.print_number.ensures.printed))
