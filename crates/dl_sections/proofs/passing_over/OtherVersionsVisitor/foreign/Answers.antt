use Rattle.dl_sections.proofs.Names.{◌++◌, ◌∷◌, [], of_version, Some, Spans, versions_told}
use Rattle.dl_sections.proofs.PassingLemmas.{told-push}
use Rattle.dl_sections.proofs.passing_over.OtherVersionsVisitor.foreign.Goals.{in-Some, in-None}
use Rattle.dl_sections.proofs.passing_over.OtherVersionsVisitor.foreign.Goals as goal

pub returns-clause-heard : goal.returns-clause-heard
returns-clause-heard g c first start visits (kept, spans) =
    let before = versions_told visits in
    let more : Spans (before ++ c.args.version ∷ []) (Some c.match-self.self) = elim c.match-self.branch [
      | in-Some w ↦ rw w.self-is (w.with.ensures before (rw w.in-Some.is at spans))
      | in-None w ↦ rw (w.self-is, rw w.in-None.is at spans) w.of.ensures
    ] in
    (kept, rw (told-push visits (of_version c.args._offset c.args.version)) more)
