use Rattle.std.proofs.Common.{arith, [], ◌∷◌, refl, subst, sym}
use Rattle.dl_rows.specs.Items.{an_operation}
use Rattle.dl_sections.specs.Section.{of_item}
use Rattle.dl_sections.proofs.VisitLemmas.{rows_after-append}
use Rattle.dl_stretch.specs.Stands.{Stands}
use Rattle.dl_making.specs.Making.{code_of}
use Rattle.dl_making.proofs.MakerLemmas.{goes_on}
use Rattle.dl_making.proofs.maker.MakerVisitor.operation.Goals as goal

pub returns-clause-heard : goal.returns-clause-heard
returns-clause-heard g c first start visits s =
    let more = of_item (an_operation c.args._header.now c.args._operation) ∷ [] in
    goes_on first c.args.self.now c.args.self.now start (g.W.Write.contents c.args._output.now) visits more s
    (λ rows n y. refl) (record { memory = refl; code = refl; directories = refl; strings = refl }) refl refl refl
    (omega arith) refl
    (λ units e stands. subst (Stands (code_of first) c.args.self.now.runs units) (sym (rows_after-append [] visits more)) stands)
