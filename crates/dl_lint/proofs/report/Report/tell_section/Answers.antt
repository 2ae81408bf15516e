use Rattle.std.proofs.Common.{◌∙◌, List, Err, subst, sym, refl}
use Rattle.std.specs.Prelude.{⊤}
use Rattle.dl_lint.proofs.SectionLemmas.{section_none}
use Rattle.dl_sections.specs.declared.fault.RunFault.TheVariants as fault
use Rattle.dl_sequence_rules.specs.declared.ended.Ended.{Ended}
use Rattle.dl_lint.specs.Telling.{TellsSection}
use Rattle.dl_lint.proofs.report.Report.tell_section.Goals as goal

pub returns-then-not-keeps_sequences-clause-told : goal.returns-then-not-keeps_sequences-clause-told
returns-then-not-keeps_sequences-clause-told g c ended kept =
    section_none (g.M.Memory.refuses c.args.memory.now) (g.W.Write.contents c.args.output.now) c.args.self.now ended
    (sym c.keeps_sequences.ensures ∙ c.if-not-keeps_sequences.true)

pub returns-in-Err-clause-told : goal.returns-in-Err-clause-told
returns-in-Err-clause-told g c ended kept =
    let old = g.W.Write.contents c.args.output.now in
    let wants = g.M.Memory.refuses c.args.memory.now in
    let keeps = sym c.keeps_sequences.ensures ∙ c.if-not-keeps_sequences.false in
    subst (λ (l : List Ended). TellsSection {A = ⊤} wants old old c.args.self.now c.args.self.now l (Err fault.NoMemory))
    (c.ended-ended.ensures ∙ kept keeps) (refl, keeps, c.in-Err.ensures.refused)
