use Rattle.dl_print.specs.HeaderText.{file_text}
use Rattle.dl_sections.proofs.Names.{◌∙◌, ◌≡◌, [], answer, answer_under, err_from_is_err_and, of_end, refl, row_line}
use Rattle.dl_sections.proofs.Names.{seeks, strings_of, sym, TellsOut-more, true}
use Rattle.dl_sections.proofs.SeekerLemmas.{has_found, no_answer, seeks_on, stops_printing}
use Rattle.dl_sections.proofs.finding.SeekerVisitor.end.Goals.{in_default-via-in-Some+in_default, in_default-via-in_default}
use Rattle.dl_sections.proofs.finding.SeekerVisitor.end.Goals as goal

pub returns-in_default-clause-heard : goal.returns-in_default-clause-heard
returns-in_default-clause-heard g c first start visits s told =
    let new = record c.args.self.now { finder = c.new-self.result } in
    let answers = c.answer-answer.ensures first.place s.rows s.stands in
    let none : answer_under c.args.header (answer s.rows first.place) ≡ seeks [] = elim c.in_default.branch [
      | in_default-via-in-Some+in_default w ↦ rw w.in_default.is-1 refl
      | in_default-via-in_default w ↦ no_answer c.args.header (sym answers ∙ w.in_default.is-0)
    ] in
    seeks_on s new (of_end c.args.header) [] refl refl s.not_found refl none
    (rw s.place at c.new-self.ensures)

pub returns-in_err-file-clause-heard : goal.returns-in_err-file-clause-heard
returns-in_err-file-clause-heard g c first start visits s told =
    let p = err_from_is_err_and c.from_residual.result c.from_residual.ensures.1 in
    let own = c.in-Some-Some in
    let answers = c.answer-answer.ensures first.place s.rows s.stands in
    let text = file_text (strings_of c.args.self.now.strings) own.header own.row.file in
    let tells = c.in_err-file.ensures.printed start [] s.printed in
    rw (p.1, p.2) (stops_printing s own.is-1 (sym answers ∙ own.is-0) (record c.args.self.now {
      printer = c.file.new.self;
      finder = c.new-self.result;
    }) (g.W.Write.contents c.file.new.output) _ (TellsOut-more start _ text (row_line own.row) _ tells))

pub returns-in_err-row-clause-heard : goal.returns-in_err-row-clause-heard
returns-in_err-row-clause-heard g c first start visits s told =
    let p = err_from_is_err_and c.from_residual-in_err-row.result c.from_residual-in_err-row.ensures.1 in
    let own = c.in-Some-Some in
    let answers = c.answer-answer.ensures first.place s.rows s.stands in
    let text = file_text (strings_of c.args.self.now.strings) own.header own.row.file in
    let tells = c.in_err-row.ensures.printed start text (c.in_ok-file.ensures.printed start [] s.printed) in
    rw (p.1, p.2) (stops_printing s own.is-1 (sym answers ∙ own.is-0) (record c.args.self.now {
      printer = c.row.new.self;
      finder = c.new-self.result;
    }) (g.W.Write.contents c.row.new.output) _ tells)

pub returns-clause-heard : goal.returns-clause-heard
returns-clause-heard g c first start visits s told =
    let own = c.in-Some-Some in
    let answers = c.answer-answer.ensures first.place s.rows s.stands in
    let text = file_text (strings_of c.args.self.now.strings) own.header own.row.file in
    let printed = c.in_ok-file.ensures.printed start [] s.printed in
    has_found s own.is-1 (sym answers ∙ own.is-0) (record c.args.self.now {
      printer = c.row.new.self;
      finder = c.new-self.result;
      found = true;
    }) (g.W.Write.contents c.row.new.output) refl (c.in_ok-row.ensures.printed start text printed)
