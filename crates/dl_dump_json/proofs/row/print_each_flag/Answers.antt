use Rattle.std.proofs.Common.{◌++◌, codes}
use Rattle.std.proofs.lemmas.Result.{err_from_is_err_and}
use Rattle.dl_path.proofs.PrintLemmas.{loses_front, loses_then, prints_then}
use Rattle.dl_dump_json.specs.Rows.{flag_member, flags_members}
use Rattle.dl_dump_json.proofs.row.print_each_flag.Goals as goal

pub returns-in_err-print_flag-clause-printed : goal.returns-in_err-print_flag-clause-printed
unfolding flags_members
returns-in_err-print_flag-clause-printed g c start text h =
    let e = err_from_is_err_and c.from_residual.result c.from_residual.ensures.1 in
    rw (e.1, e.2) (loses_front _ _ _ (flag_member (codes ",\"is_stmt\":") c.args.row.now.is_stmt) (flag_member (codes ",\"basic_block\":") c.args.row.now.basic_block ++ (flag_member (codes ",\"end_sequence\":") c.args.row.now.end_sequence ++ (flag_member (codes ",\"prologue_end\":") c.args.row.now.prologue_end ++ (flag_member (codes ",\"epilogue_begin\":") c.args.row.now.epilogue_begin)))) _ c.in_err-print_flag.ensures.printed start text h)

pub returns-in_err-print_flag-2-clause-printed : goal.returns-in_err-print_flag-2-clause-printed
unfolding flags_members
returns-in_err-print_flag-2-clause-printed g c start text h =
    let e = err_from_is_err_and c.from_residual-in_err-print_flag-2.result c.from_residual-in_err-print_flag-2.ensures.1 in
    rw (e.1, e.2) (loses_then _ _ _ _ _ (flag_member (codes ",\"is_stmt\":") c.args.row.now.is_stmt) (flag_member (codes ",\"basic_block\":") c.args.row.now.basic_block ++ (flag_member (codes ",\"end_sequence\":") c.args.row.now.end_sequence ++ (flag_member (codes ",\"prologue_end\":") c.args.row.now.prologue_end ++ (flag_member (codes ",\"epilogue_begin\":") c.args.row.now.epilogue_begin)))) _ c.in_ok-print_flag.ensures.printed
    (loses_front _ _ _ (flag_member (codes ",\"basic_block\":") c.args.row.now.basic_block) (flag_member (codes ",\"end_sequence\":") c.args.row.now.end_sequence ++ (flag_member (codes ",\"prologue_end\":") c.args.row.now.prologue_end ++ (flag_member (codes ",\"epilogue_begin\":") c.args.row.now.epilogue_begin))) _ c.in_err-print_flag-2.ensures.printed) start text h)

pub returns-in_err-print_flag-3-clause-printed : goal.returns-in_err-print_flag-3-clause-printed
unfolding flags_members
returns-in_err-print_flag-3-clause-printed g c start text h =
    let e = err_from_is_err_and c.from_residual-in_err-print_flag-3.result c.from_residual-in_err-print_flag-3.ensures.1 in
    rw (e.1, e.2) (loses_then _ _ _ _ _ (flag_member (codes ",\"is_stmt\":") c.args.row.now.is_stmt) (flag_member (codes ",\"basic_block\":") c.args.row.now.basic_block ++ (flag_member (codes ",\"end_sequence\":") c.args.row.now.end_sequence ++ (flag_member (codes ",\"prologue_end\":") c.args.row.now.prologue_end ++ (flag_member (codes ",\"epilogue_begin\":") c.args.row.now.epilogue_begin)))) _ c.in_ok-print_flag.ensures.printed
    (loses_then _ _ _ _ _ (flag_member (codes ",\"basic_block\":") c.args.row.now.basic_block) (flag_member (codes ",\"end_sequence\":") c.args.row.now.end_sequence ++ (flag_member (codes ",\"prologue_end\":") c.args.row.now.prologue_end ++ (flag_member (codes ",\"epilogue_begin\":") c.args.row.now.epilogue_begin))) _ c.in_ok-print_flag-2.ensures.printed
    (loses_front _ _ _ (flag_member (codes ",\"end_sequence\":") c.args.row.now.end_sequence) (flag_member (codes ",\"prologue_end\":") c.args.row.now.prologue_end ++ (flag_member (codes ",\"epilogue_begin\":") c.args.row.now.epilogue_begin)) _ c.in_err-print_flag-3.ensures.printed)) start text h)

pub returns-in_err-print_flag-4-clause-printed : goal.returns-in_err-print_flag-4-clause-printed
unfolding flags_members
returns-in_err-print_flag-4-clause-printed g c start text h =
    let e = err_from_is_err_and c.from_residual-in_err-print_flag-4.result c.from_residual-in_err-print_flag-4.ensures.1 in
    rw (e.1, e.2) (loses_then _ _ _ _ _ (flag_member (codes ",\"is_stmt\":") c.args.row.now.is_stmt) (flag_member (codes ",\"basic_block\":") c.args.row.now.basic_block ++ (flag_member (codes ",\"end_sequence\":") c.args.row.now.end_sequence ++ (flag_member (codes ",\"prologue_end\":") c.args.row.now.prologue_end ++ (flag_member (codes ",\"epilogue_begin\":") c.args.row.now.epilogue_begin)))) _ c.in_ok-print_flag.ensures.printed
    (loses_then _ _ _ _ _ (flag_member (codes ",\"basic_block\":") c.args.row.now.basic_block) (flag_member (codes ",\"end_sequence\":") c.args.row.now.end_sequence ++ (flag_member (codes ",\"prologue_end\":") c.args.row.now.prologue_end ++ (flag_member (codes ",\"epilogue_begin\":") c.args.row.now.epilogue_begin))) _ c.in_ok-print_flag-2.ensures.printed
    (loses_then _ _ _ _ _ (flag_member (codes ",\"end_sequence\":") c.args.row.now.end_sequence) (flag_member (codes ",\"prologue_end\":") c.args.row.now.prologue_end ++ (flag_member (codes ",\"epilogue_begin\":") c.args.row.now.epilogue_begin)) _ c.in_ok-print_flag-3.ensures.printed
    (loses_front _ _ _ (flag_member (codes ",\"prologue_end\":") c.args.row.now.prologue_end) (flag_member (codes ",\"epilogue_begin\":") c.args.row.now.epilogue_begin) _ c.in_err-print_flag-4.ensures.printed))) start text h)

pub returns-clause-printed : goal.returns-clause-printed
unfolding flags_members
returns-clause-printed g c =
    prints_then _ _ _ _ _ _ (flag_member (codes ",\"is_stmt\":") c.args.row.now.is_stmt) (flag_member (codes ",\"basic_block\":") c.args.row.now.basic_block ++ (flag_member (codes ",\"end_sequence\":") c.args.row.now.end_sequence ++ (flag_member (codes ",\"prologue_end\":") c.args.row.now.prologue_end ++ (flag_member (codes ",\"epilogue_begin\":") c.args.row.now.epilogue_begin)))) _ c.in_ok-print_flag.ensures.printed
    (prints_then _ _ _ _ _ _ (flag_member (codes ",\"basic_block\":") c.args.row.now.basic_block) (flag_member (codes ",\"end_sequence\":") c.args.row.now.end_sequence ++ (flag_member (codes ",\"prologue_end\":") c.args.row.now.prologue_end ++ (flag_member (codes ",\"epilogue_begin\":") c.args.row.now.epilogue_begin))) _ c.in_ok-print_flag-2.ensures.printed
    (prints_then _ _ _ _ _ _ (flag_member (codes ",\"end_sequence\":") c.args.row.now.end_sequence) (flag_member (codes ",\"prologue_end\":") c.args.row.now.prologue_end ++ (flag_member (codes ",\"epilogue_begin\":") c.args.row.now.epilogue_begin)) _ c.in_ok-print_flag-3.ensures.printed
    (prints_then _ _ _ _ _ _ (flag_member (codes ",\"prologue_end\":") c.args.row.now.prologue_end) (flag_member (codes ",\"epilogue_begin\":") c.args.row.now.epilogue_begin) _ c.in_ok-print_flag-4.ensures.printed
    c.print_flag-5.ensures.printed)))
