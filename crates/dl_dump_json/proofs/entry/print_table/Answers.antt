use Rattle.std.proofs.Common.{◌++◌, codes, ◌+◌}
use Rattle.std.proofs.lemmas.Result.{err_from_is_err_and}
use Rattle.dl_path.proofs.PrintLemmas.{loses_front, loses_then, prints_then}
use Rattle.dl_table.specs.EntryData.{with_content}
use Rattle.dl_print.specs.ValueText.{strings_of}
use Rattle.dl_dump_json.specs.Members.{array, array_member, elements, name_start}
use Rattle.dl_dump_json.specs.Values.{entry_object}
use Rattle.dl_dump_json.proofs.entry.print_table.Goals as goal

pub returns-in_err-print_name-clause-printed : goal.returns-in_err-print_name-clause-printed
unfolding array_member array
returns-in_err-print_name-clause-printed g c start text h =
    let e = err_from_is_err_and c.from_residual.result c.from_residual.ensures.1 in
    rw (e.1, e.2) (loses_front _ _ _ (name_start c.args.name.now) (codes "[" ++ (elements (λ place values. entry_object (strings_of c.args.strings.now) (c.args.first + place) (with_content c.args.table.now.pairs values)) 0 c.args.table.now.entries ++ (codes "]"))) _ c.in_err-print_name.ensures.printed start text h)

pub returns-in_err-put-clause-printed : goal.returns-in_err-put-clause-printed
unfolding array_member array
returns-in_err-put-clause-printed g c start text h =
    let e = err_from_is_err_and c.from_residual-in_err-put.result c.from_residual-in_err-put.ensures.1 in
    rw (e.1, e.2) (loses_then _ _ _ _ _ (name_start c.args.name.now) (codes "[" ++ (elements (λ place values. entry_object (strings_of c.args.strings.now) (c.args.first + place) (with_content c.args.table.now.pairs values)) 0 c.args.table.now.entries ++ (codes "]"))) _ c.in_ok-print_name.ensures.printed
    (loses_front _ _ _ (codes "[") (elements (λ place values. entry_object (strings_of c.args.strings.now) (c.args.first + place) (with_content c.args.table.now.pairs values)) 0 c.args.table.now.entries ++ (codes "]")) _ c.in_err-put.ensures.printed) start text h)

pub returns-in_err-print_entries-clause-printed : goal.returns-in_err-print_entries-clause-printed
unfolding array_member array
returns-in_err-print_entries-clause-printed g c start text h =
    let e = err_from_is_err_and c.from_residual-in_err-print_entries.result c.from_residual-in_err-print_entries.ensures.1 in
    rw (e.1, e.2) (loses_then _ _ _ _ _ (name_start c.args.name.now) (codes "[" ++ (elements (λ place values. entry_object (strings_of c.args.strings.now) (c.args.first + place) (with_content c.args.table.now.pairs values)) 0 c.args.table.now.entries ++ (codes "]"))) _ c.in_ok-print_name.ensures.printed
    (loses_then _ _ _ _ _ (codes "[") (elements (λ place values. entry_object (strings_of c.args.strings.now) (c.args.first + place) (with_content c.args.table.now.pairs values)) 0 c.args.table.now.entries ++ (codes "]")) _ c.in_ok-put.ensures.printed
    (loses_front _ _ _ (elements (λ place values. entry_object (strings_of c.args.strings.now) (c.args.first + place) (with_content c.args.table.now.pairs values)) 0 c.args.table.now.entries) (codes "]") _ c.in_err-print_entries.ensures.printed)) start text h)

pub returns-clause-printed : goal.returns-clause-printed
unfolding array_member array
returns-clause-printed g c =
    prints_then _ _ _ _ _ _ (name_start c.args.name.now) (codes "[" ++ (elements (λ place values. entry_object (strings_of c.args.strings.now) (c.args.first + place) (with_content c.args.table.now.pairs values)) 0 c.args.table.now.entries ++ (codes "]"))) _ c.in_ok-print_name.ensures.printed
    (prints_then _ _ _ _ _ _ (codes "[") (elements (λ place values. entry_object (strings_of c.args.strings.now) (c.args.first + place) (with_content c.args.table.now.pairs values)) 0 c.args.table.now.entries ++ (codes "]")) _ c.in_ok-put.ensures.printed
    (prints_then _ _ _ _ _ _ (elements (λ place values. entry_object (strings_of c.args.strings.now) (c.args.first + place) (with_content c.args.table.now.pairs values)) 0 c.args.table.now.entries) (codes "]") _ c.in_ok-print_entries.ensures.printed
    c.put-2.ensures.printed))
