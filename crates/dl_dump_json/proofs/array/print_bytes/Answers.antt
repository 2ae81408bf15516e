use Rattle.std.proofs.Common.{◌++◌, codes}
use Rattle.std.proofs.lemmas.Result.{err_from_is_err_and}
use Rattle.dl_path.proofs.PrintLemmas.{loses_front, loses_then, prints_then}
use Rattle.std.specs.Prelude.{decimal}
use Rattle.dl_dump_json.specs.Members.{array, array_member, elements, name_start}
use Rattle.dl_dump_json.proofs.array.print_bytes.Goals as goal

pub returns-in_err-print_name-clause-printed : goal.returns-in_err-print_name-clause-printed
unfolding array_member array
returns-in_err-print_name-clause-printed g c start text h =
    let e = err_from_is_err_and c.from_residual.result c.from_residual.ensures.1 in
    rw (e.1, e.2) (loses_front _ _ _ (name_start c.args.name.now) (codes "[" ++ (elements (λ place n. decimal n) 0 c.args.bytes.now ++ (codes "]"))) _ c.in_err-print_name.ensures.printed start text h)

pub returns-in_err-put-clause-printed : goal.returns-in_err-put-clause-printed
unfolding array_member array
returns-in_err-put-clause-printed g c start text h =
    let e = err_from_is_err_and c.from_residual-in_err-put.result c.from_residual-in_err-put.ensures.1 in
    rw (e.1, e.2) (loses_then _ _ _ _ _ (name_start c.args.name.now) (codes "[" ++ (elements (λ place n. decimal n) 0 c.args.bytes.now ++ (codes "]"))) _ c.in_ok-print_name.ensures.printed
    (loses_front _ _ _ (codes "[") (elements (λ place n. decimal n) 0 c.args.bytes.now ++ (codes "]")) _ c.in_err-put.ensures.printed) start text h)

pub returns-in_err-print_each_byte-clause-printed : goal.returns-in_err-print_each_byte-clause-printed
unfolding array_member array
returns-in_err-print_each_byte-clause-printed g c start text h =
    let e = err_from_is_err_and c.from_residual-in_err-print_each_byte.result c.from_residual-in_err-print_each_byte.ensures.1 in
    rw (e.1, e.2) (loses_then _ _ _ _ _ (name_start c.args.name.now) (codes "[" ++ (elements (λ place n. decimal n) 0 c.args.bytes.now ++ (codes "]"))) _ c.in_ok-print_name.ensures.printed
    (loses_then _ _ _ _ _ (codes "[") (elements (λ place n. decimal n) 0 c.args.bytes.now ++ (codes "]")) _ c.in_ok-put.ensures.printed
    (loses_front _ _ _ (elements (λ place n. decimal n) 0 c.args.bytes.now) (codes "]") _ c.in_err-print_each_byte.ensures.printed)) start text h)

pub returns-clause-printed : goal.returns-clause-printed
unfolding array_member array
returns-clause-printed g c =
    prints_then _ _ _ _ _ _ (name_start c.args.name.now) (codes "[" ++ (elements (λ place n. decimal n) 0 c.args.bytes.now ++ (codes "]"))) _ c.in_ok-print_name.ensures.printed
    (prints_then _ _ _ _ _ _ (codes "[") (elements (λ place n. decimal n) 0 c.args.bytes.now ++ (codes "]")) _ c.in_ok-put.ensures.printed
    (prints_then _ _ _ _ _ _ (elements (λ place n. decimal n) 0 c.args.bytes.now) (codes "]") _ c.in_ok-print_each_byte.ensures.printed
    c.put-2.ensures.printed))
