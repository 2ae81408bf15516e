use Rattle.std.proofs.Common.{[], refl}
use Rattle.dl_sections.proofs.ToldLemmas.{told_start, all_told, stopped_blames, stopped_told}
use Rattle.dl_sections.proofs.section.SectionUnits.feed_program.Goals as goal

pub returns-in-Some-clause-told : goal.returns-in-Some-clause-told
returns-in-Some-clause-told g c b stands =
    stopped_told g.V.Visitor.story g.W.Destination.fails g.W.Write.contents b c.args.piece.now c.args.self.now _ _ c.feed_program-fed.new.sink _
    _ c.in-Some.fault c.feed_program-fed.result c.in-Some.is c.feed_program-fed.ensures.dialect
    (c.feed_program-fed.ensures.fed b [] _ stands (told_start g.V.Visitor.story g.W.Destination.fails g.W.Write.contents _ refl)) (search)
    (search)

pub returns-in-None-clause-told : goal.returns-in-None-clause-told
returns-in-None-clause-told g c b stands =
    all_told g.V.Visitor.story g.W.Destination.fails g.W.Write.contents b c.args.piece.now c.args.self.now c.feed_program-fed.new.self _
    c.feed_program-fed.new.sink _ _ c.feed_program-fed.result c.in-None.is c.feed_program-fed.ensures.dialect refl refl
    (c.feed_program-fed.ensures.fed b [] _ stands (told_start g.V.Visitor.story g.W.Destination.fails g.W.Write.contents _ refl)) (search)
    (search)

pub returns-in-Some-clause-blames_writer : goal.returns-in-Some-clause-blames_writer
returns-in-Some-clause-blames_writer g c b stands =
    stopped_blames g.V.Visitor.story g.W.Destination.fails g.W.Write.contents b c.args.piece.now c.args.self.now _ _
    c.feed_program-fed.new.sink c.in-Some.fault c.feed_program-fed.result c.in-Some.is
    (c.feed_program-fed.ensures.fed b [] _ stands (told_start g.V.Visitor.story g.W.Destination.fails g.W.Write.contents _ refl))
