use Rattle.std.proofs.Common.{◌++◌, codes}
use Rattle.std.proofs.lemmas.Result.{err_from_is_err_and}
use Rattle.dl_path.proofs.PrintLemmas.{loses_front, loses_then, prints_then}
use Rattle.std.proofs.Common.{w8}
use Rattle.std.proofs.lemmas.Int.{to_z-of_z}
use Rattle.dl_dump_json.specs.Fields.{lines_members}
use Rattle.dl_dump_json.specs.Members.{number_member, signed_member}
use Rattle.dl_dump_json.proofs.fields.print_lines.Goals as goal

pub returns-in_err-print_byte-clause-printed : goal.returns-in_err-print_byte-clause-printed
unfolding lines_members
returns-in_err-print_byte-clause-printed g c start text h =
    let e = err_from_is_err_and c.from_residual.result c.from_residual.ensures.1 in
    rw (e.1, e.2) (loses_front _ _ _ (number_member (codes "default_is_stmt") c.args.header.now.params.default_is_stmt) (signed_member (codes "line_base") c.args.header.now.params.line_base ++ (number_member (codes "line_range") c.args.header.now.params.line_range)) _ (rw c.params-params.ensures.value at c.in_err-print_byte.ensures.printed) start text h)

pub returns-in_err-print_signed-clause-printed : goal.returns-in_err-print_signed-clause-printed
unfolding lines_members
returns-in_err-print_signed-clause-printed g c start text h =
    let e = err_from_is_err_and c.from_residual-in_err-print_signed.result c.from_residual-in_err-print_signed.ensures.1 in
    rw (e.1, e.2) (loses_then _ _ _ _ _ (number_member (codes "default_is_stmt") c.args.header.now.params.default_is_stmt) (signed_member (codes "line_base") c.args.header.now.params.line_base ++ (number_member (codes "line_range") c.args.header.now.params.line_range)) _ (rw c.params-params.ensures.value at c.in_ok-print_byte.ensures.printed)
    (loses_front _ _ _ (signed_member (codes "line_base") c.args.header.now.params.line_base) (number_member (codes "line_range") c.args.header.now.params.line_range) _ (rw (c.params-params.ensures.value, to_z-of_z w8 c.args.header.now.params.line_base c.params-params.ensures.sound.line_base) at c.in_err-print_signed.ensures.printed)) start text h)

pub returns-clause-printed : goal.returns-clause-printed
unfolding lines_members
returns-clause-printed g c =
    prints_then _ _ _ _ _ _ (number_member (codes "default_is_stmt") c.args.header.now.params.default_is_stmt) (signed_member (codes "line_base") c.args.header.now.params.line_base ++ (number_member (codes "line_range") c.args.header.now.params.line_range)) _ (rw c.params-params.ensures.value at c.in_ok-print_byte.ensures.printed)
    (prints_then _ _ _ _ _ _ (signed_member (codes "line_base") c.args.header.now.params.line_base) (number_member (codes "line_range") c.args.header.now.params.line_range) _ (rw (c.params-params.ensures.value, to_z-of_z w8 c.args.header.now.params.line_base c.params-params.ensures.sound.line_base) at c.in_ok-print_signed.ensures.printed)
    (rw c.params-params.ensures.value at c.print_byte-2.ensures.printed))
