use Rattle.dl_sections.proofs.Names.{◌++◌, append_assoc, err_from_is_err_and, header_bytes}
use Rattle.dl_sections.proofs.Names.{program_len, refl, unit_of}
use Rattle.dl_sections.proofs.CopierLemmas.{front_stops, unit_text}
use Rattle.dl_sections.proofs.copying.Copier.write.Goals as goal

pub returns-in_err-write_header-clause-printed : goal.returns-in_err-write_header-clause-printed
returns-in_err-write_header-clause-printed g c rows grown =
    let p = err_from_is_err_and c.from_residual.result c.from_residual.ensures.1 in
    let program = c.args.self.now.program in
    let h = c.args.header.now in
    rw (p.1, p.2) (front_stops _ _ _ _ _ _ (header_bytes program.order h (program_len h.params rows))
    (program.first ++ program.last) (unit_of program.order h rows) c.in_err-write_header.field-0.0
    (λ none. unit_text program program h rows program.first program.last grown none refl refl refl)
    (c.in_err-write_header.ensures.printed rows grown))

pub returns-in_err-print_parts-clause-printed : goal.returns-in_err-print_parts-clause-printed
returns-in_err-print_parts-clause-printed g c rows grown =
    let p = err_from_is_err_and c.from_residual-in_err-print_parts.result c.from_residual-in_err-print_parts.ensures.1 in
    let ensures = c.in_ok-write_header.ensures in
    let printed = ensures.printed rows grown in
    let text = unit_text c.args.self.now.program c.write_header.new.self.program c.args.header.now rows
    c.first_bytes-first.result.now c.last_bytes-last.result.now grown printed.0 ensures.program
    c.first_bytes-first.ensures c.last_bytes-last.ensures in
    rw (p.1, p.2) (
      printed.0,
      λ start before has. rw (append_assoc, text) at
          (c.in_err-print_parts.ensures.printed start (before ++ _) (printed.1 start before has)),
    )

pub returns-clause-printed : goal.returns-clause-printed
returns-clause-printed g c rows grown =
    let ensures = c.in_ok-write_header.ensures in
    let printed = ensures.printed rows grown in
    let text = unit_text c.args.self.now.program c.write_header.new.self.program c.args.header.now rows
    c.first_bytes-first.result.now c.last_bytes-last.result.now grown printed.0 ensures.program
    c.first_bytes-first.ensures c.last_bytes-last.ensures in (
      printed.0,
      λ start before has. rw (append_assoc, text) at
          (c.in_ok-print_parts.ensures.printed start (before ++ _) (printed.1 start before has)),
    )
