use Rattle.std.proofs.lemmas.Result.{err_from_is_err_and}
use Rattle.dl_path.proofs.PrintLemmas.{loses_front, prints_then}
use Rattle.std.proofs.Math.Facts.{to_z-of_z}
use Rattle.dl_dump_json.specs.Members.{name_start, signed_member, signed_number}
use Rattle.dl_dump_json.proofs.member.print_signed.Goals as goal

pub returns-in_err-print_name-clause-printed : goal.returns-in_err-print_name-clause-printed
unfolding signed_member
returns-in_err-print_name-clause-printed g c start text h =
    let e = err_from_is_err_and c.from_residual.result c.from_residual.ensures.1 in
    rw (e.1, e.2) (loses_front _ _ _ (name_start c.args.name.now) (signed_number c.args.number) _ c.in_err-print_name.ensures.printed start text h)

pub returns-clause-printed : goal.returns-clause-printed
unfolding signed_member
returns-clause-printed g c =
    prints_then _ _ _ _ _ _ (name_start c.args.name.now) (signed_number c.args.number) _ c.in_ok-print_name.ensures.printed
    (rw (to_z-of_z (record { sfits = c.ranges.number.sfits })) at c.print_signed_number.ensures.printed)
