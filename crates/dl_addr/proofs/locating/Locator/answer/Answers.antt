use Rattle.std.proofs.Common.{[], refl, ◌∙◌}
use Rattle.dl_look.specs.LiveRows.{live_rows}
use Rattle.dl_sections.specs.RowsTold.{rows_after}
use Rattle.dl_addr.specs.Locating.{code_of, ended_rows}
use Rattle.dl_addr.proofs.LocatorLemmas.{nothing_seen, something_seen}
use Rattle.dl_addr.proofs.locating.Locator.answer.Goals as goal

pub returns-in-None : goal.returns-in-None
returns-in-None g c first start held visits places s made =
    let given = c.answer.ensures places (ended_rows (code_of first) [] visits)
    (live_rows (code_of first) (rows_after [] visits)) (s.looks places made).stand in
    nothing_seen first c.args.self.now start held visits places s made c.args.number c.answer.result given c.in-None.is

pub returns-in-Some : goal.returns-in-Some
returns-in-Some g c first start held visits places s made =
    let given = c.answer.ensures places (ended_rows (code_of first) [] visits)
    (live_rows (code_of first) (rows_after [] visits)) (s.looks places made).stand in
    c.answer_of.ensures
    ∙ something_seen first c.args.self.now start held visits places s made c.args.number c.answer.result given
    c.in-Some.row _ c.in-Some.is refl
