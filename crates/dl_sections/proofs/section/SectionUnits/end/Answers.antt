use Rattle.std.proofs.Common.{◌∷◌, ◌++◌, [], Option, subst, sym, ◌∙◌}
use Rattle.std.specs.Prelude.{MatchResult}
use Rattle.std.proofs.lemmas.Result.{err_from_is_err_and}
use Rattle.dl_field.specs.HeaderData.{HeaderData}
use Rattle.dl_rows.specs.LineUnit.{ends_open, unit_rows}
use Rattle.dl_sections.specs.Section.{of_end, header_of, open_visit}
use Rattle.dl_sections.specs.Visiting.{GoesOn, StopsIn}
use Rattle.dl_sections.proofs.HeadersTold.{header_told-open}
use Rattle.dl_sections.proofs.VisitLemmas.{stops_before, ends_after}
use Rattle.dl_sections.proofs.section.SectionUnits.end.Goals as goal

pub returns-in_err-close-clause-heard : goal.returns-in_err-close-clause-heard
returns-in_err-close-clause-heard g c b stands first start visits tells told =
    let p = err_from_is_err_and c.from_residual.result c.from_residual.ensures.1 in
    let dialect = c.args.self.now.reader.dialect in
    rw (
      p.1,
      p.2,
    ) (stops_before g.V.Visitor.story first c.close.new.visitor start (g.W.Write.contents c.close.new.output)
    visits (open_visit (ends_open (unit_rows dialect b))) (of_end (header_of dialect b) ∷ []) _
    (c.in_err-close.ensures.heard b stands first start visits tells))

pub returns-clause-heard : goal.returns-clause-heard
returns-clause-heard g c b stands first start visits tells told =
    let story = g.V.Visitor.story in
    let dialect = c.args.self.now.reader.dialect in
    let more = open_visit (ends_open (unit_rows dialect b)) in
    let now = g.W.Write.contents c.end.new.output in
    let header = c.next_unit.ensures.header b stands in
    let same = header_told-open visits (ends_open (unit_rows dialect b)) ∙ told ∙ sym header in
    let heard = subst (λ (h : Option HeaderData). MatchResult c.end.result
    (GoesOn story first c.end.new.self start now ((visits ++ more) ++ of_end h ∷ []))
    (StopsIn story first c.end.new.self start now (visits ++ more) (of_end h ∷ [])))
    header (c.end.ensures.heard first start (visits ++ more) (c.in_ok-close.ensures.heard b stands first start visits tells)
    same) in
    ends_after story first c.end.new.self start now visits more (of_end (header_of dialect b) ∷ []) c.end.result heard
