use Rattle.std.proofs.Common.{◌++◌, ◌∷◌, []}
use Rattle.std.proofs.lemmas.Result.{err_from_is_err_and}
use Rattle.dl_path.proofs.PrintLemmas.{loses_front, loses_same, loses_then, prints_same, prints_then}
use Rattle.dl_findings.specs.FindingRecord.{eight_bytes_each, found_numbers, row_numbers}
use Rattle.dl_findings.proofs.RecordLemmas.{three_parts}
use Rattle.dl_findings.proofs.finding_record.print_record.Goals as goal

pub returns-in_err-print_bytes_of-clause-printed : goal.returns-in_err-print_bytes_of-clause-printed
returns-in_err-print_bytes_of-clause-printed g c start text h =
    let e = err_from_is_err_and c.from_residual.result c.from_residual.ensures.1 in
    rw (e.1, e.2, ← c.rule.ensures, ← c.place-place.ensures.place) (loses_same _ _ _ _ _ _ (three_parts (c.args.finding.now.offset ∷ c.place-place.result ∷ []) (row_numbers c.args.finding.now.row) (found_numbers c.args.finding.now.found))
    (loses_front _ _ _ (eight_bytes_each (c.args.finding.now.offset ∷ c.place-place.result ∷ [])) (eight_bytes_each (row_numbers c.args.finding.now.row) ++ eight_bytes_each (found_numbers c.args.finding.now.found)) _ c.in_err-print_bytes_of.ensures.printed) start text h)

pub returns-in_err-print_bytes_of-2-clause-printed : goal.returns-in_err-print_bytes_of-2-clause-printed
returns-in_err-print_bytes_of-2-clause-printed g c start text h =
    let e = err_from_is_err_and c.from_residual-in_err-print_bytes_of-2.result c.from_residual-in_err-print_bytes_of-2.ensures.1 in
    rw (e.1, e.2, ← c.rule.ensures, ← c.place-place.ensures.place, ← c.numbers_of_row.ensures)
    (loses_same _ _ _ _ _ _ (three_parts (c.args.finding.now.offset ∷ c.place-place.result ∷ []) c.numbers_of_row.result (found_numbers c.args.finding.now.found))
    (loses_then _ _ _ _ _ (eight_bytes_each (c.args.finding.now.offset ∷ c.place-place.result ∷ [])) (eight_bytes_each c.numbers_of_row.result ++ eight_bytes_each (found_numbers c.args.finding.now.found)) _ c.in_ok-print_bytes_of.ensures.printed
    (loses_front _ _ _ (eight_bytes_each c.numbers_of_row.result) (eight_bytes_each (found_numbers c.args.finding.now.found)) _ c.in_err-print_bytes_of-2.ensures.printed)) start text h)

pub returns-clause-printed : goal.returns-clause-printed
returns-clause-printed g c =
    rw (← c.rule.ensures, ← c.place-place.ensures.place, ← c.numbers_of_row.ensures, ← c.numbers_of_found.ensures)
    (prints_same _ _ _ _ _ _ _ (three_parts (c.args.finding.now.offset ∷ c.place-place.result ∷ []) c.numbers_of_row.result c.numbers_of_found.result)
    (prints_then _ _ _ _ _ _ (eight_bytes_each (c.args.finding.now.offset ∷ c.place-place.result ∷ [])) (eight_bytes_each c.numbers_of_row.result ++ eight_bytes_each c.numbers_of_found.result) _ c.in_ok-print_bytes_of.ensures.printed
    (prints_then _ _ _ _ _ _ (eight_bytes_each c.numbers_of_row.result) (eight_bytes_each c.numbers_of_found.result) _ c.in_ok-print_bytes_of-2.ensures.printed
    c.print_bytes_of-3.ensures.printed)))
