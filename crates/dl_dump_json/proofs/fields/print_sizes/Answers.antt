use Rattle.std.proofs.Common.{◌++◌, codes}
use Rattle.std.proofs.lemmas.Result.{err_from_is_err_and}
use Rattle.dl_path.proofs.PrintLemmas.{loses_front, loses_then, prints_then}
use Rattle.dl_dump_json.specs.Fields.{segments_member, sizes_members}
use Rattle.dl_dump_json.specs.Members.{number_member}
use Rattle.dl_dump_json.proofs.fields.print_sizes.Goals as goal

pub returns-in_err-print_number-clause-printed : goal.returns-in_err-print_number-clause-printed
unfolding sizes_members
returns-in_err-print_number-clause-printed g c start text h =
    let e = err_from_is_err_and c.from_residual.result c.from_residual.ensures.1 in
    rw (e.1, e.2) (loses_front _ _ _ (number_member (codes "version") c.args.params.now.version) (number_member (codes "address_size") c.args.params.now.address_size ++ (segments_member c.args.params.now)) _ c.in_err-print_number.ensures.printed start text h)

pub returns-in_err-print_byte-clause-printed : goal.returns-in_err-print_byte-clause-printed
unfolding sizes_members
returns-in_err-print_byte-clause-printed g c start text h =
    let e = err_from_is_err_and c.from_residual-in_err-print_byte.result c.from_residual-in_err-print_byte.ensures.1 in
    rw (e.1, e.2) (loses_then _ _ _ _ _ (number_member (codes "version") c.args.params.now.version) (number_member (codes "address_size") c.args.params.now.address_size ++ (segments_member c.args.params.now)) _ c.in_ok-print_number.ensures.printed
    (loses_front _ _ _ (number_member (codes "address_size") c.args.params.now.address_size) (segments_member c.args.params.now) _ c.in_err-print_byte.ensures.printed) start text h)

pub returns-clause-printed : goal.returns-clause-printed
unfolding sizes_members
returns-clause-printed g c =
    prints_then _ _ _ _ _ _ (number_member (codes "version") c.args.params.now.version) (number_member (codes "address_size") c.args.params.now.address_size ++ (segments_member c.args.params.now)) _ c.in_ok-print_number.ensures.printed
    (prints_then _ _ _ _ _ _ (number_member (codes "address_size") c.args.params.now.address_size) (segments_member c.args.params.now) _ c.in_ok-print_byte.ensures.printed
    c.print_segments.ensures.printed)
