use Rattle.std.proofs.Common.{◌++◌}
use Rattle.std.proofs.lemmas.Result.{err_from_is_err_and}
use Rattle.dl_path.proofs.PrintLemmas.{loses_front, loses_then, prints_then}
use Rattle.dl_dump_json.specs.Rows.{address_member, flags_members, last_members, numbers_members}
use Rattle.dl_dump_json.proofs.row.print_row.Goals as goal

pub returns-in_err-print_address-clause-printed : goal.returns-in_err-print_address-clause-printed
returns-in_err-print_address-clause-printed g c start text h =
    let e = err_from_is_err_and c.from_residual.result c.from_residual.ensures.1 in
    rw (e.1, e.2) (loses_front _ _ _ (address_member c.args.row.now.address) (numbers_members c.args.row.now ++ (flags_members c.args.row.now ++ (last_members c.args.row.now.isa c.args.row.now.discriminator))) _ c.in_err-print_address.ensures.printed start text h)

pub returns-in_err-print_numbers-clause-printed : goal.returns-in_err-print_numbers-clause-printed
returns-in_err-print_numbers-clause-printed g c start text h =
    let e = err_from_is_err_and c.from_residual-in_err-print_numbers.result c.from_residual-in_err-print_numbers.ensures.1 in
    rw (e.1, e.2) (loses_then _ _ _ _ _ (address_member c.args.row.now.address) (numbers_members c.args.row.now ++ (flags_members c.args.row.now ++ (last_members c.args.row.now.isa c.args.row.now.discriminator))) _ c.in_ok-print_address.ensures.printed
    (loses_front _ _ _ (numbers_members c.args.row.now) (flags_members c.args.row.now ++ (last_members c.args.row.now.isa c.args.row.now.discriminator)) _ c.in_err-print_numbers.ensures.printed) start text h)

pub returns-in_err-print_flags-clause-printed : goal.returns-in_err-print_flags-clause-printed
returns-in_err-print_flags-clause-printed g c start text h =
    let e = err_from_is_err_and c.from_residual-in_err-print_flags.result c.from_residual-in_err-print_flags.ensures.1 in
    rw (e.1, e.2) (loses_then _ _ _ _ _ (address_member c.args.row.now.address) (numbers_members c.args.row.now ++ (flags_members c.args.row.now ++ (last_members c.args.row.now.isa c.args.row.now.discriminator))) _ c.in_ok-print_address.ensures.printed
    (loses_then _ _ _ _ _ (numbers_members c.args.row.now) (flags_members c.args.row.now ++ (last_members c.args.row.now.isa c.args.row.now.discriminator)) _ c.in_ok-print_numbers.ensures.printed
    (loses_front _ _ _ (flags_members c.args.row.now) (last_members c.args.row.now.isa c.args.row.now.discriminator) _ c.in_err-print_flags.ensures.printed)) start text h)

pub returns-clause-printed : goal.returns-clause-printed
returns-clause-printed g c =
    prints_then _ _ _ _ _ _ (address_member c.args.row.now.address) (numbers_members c.args.row.now ++ (flags_members c.args.row.now ++ (last_members c.args.row.now.isa c.args.row.now.discriminator))) _ c.in_ok-print_address.ensures.printed
    (prints_then _ _ _ _ _ _ (numbers_members c.args.row.now) (flags_members c.args.row.now ++ (last_members c.args.row.now.isa c.args.row.now.discriminator)) _ c.in_ok-print_numbers.ensures.printed
    (prints_then _ _ _ _ _ _ (flags_members c.args.row.now) (last_members c.args.row.now.isa c.args.row.now.discriminator) _ c.in_ok-print_flags.ensures.printed
    c.print_last.ensures.printed))
