use Rattle.std.proofs.Common.{List, ◌∙◌, ap}
use Rattle.std.proofs.lemmas.Result.{IfOk-weaker}
use Rattle.dl_reloc.specs.declared.placed.Placed.{Placed}
use Rattle.dl_object.specs.Kept.{section_at}
use Rattle.dl_object.proofs.SamePlaces.{same_kept}
use Rattle.dl_object.proofs.section.keep_section.Goals as goal

pub returns-clause-kept : goal.returns-clause-kept
returns-clause-kept g c =
    IfOk-weaker c.keep_units-2.result _ _
    (λ done k. same_kept c.args.places.now c.as_slice.result.now c.args.section
    (λ at. ap (λ (l : List Placed). section_at l at) c.as_slice.ensures.value ∙ c.in_ok-sorted.ensures.same at)
    c.args.dialect k) c.keep_units-2.ensures.kept
