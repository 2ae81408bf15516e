use Rattle.std.proofs.Common.{arith, [], ◌∷◌, refl, subst, sym}
use Rattle.dl_sections.specs.Section.{of_header}
use Rattle.dl_sections.proofs.VisitLemmas.{rows_after-append}
use Rattle.dl_stretch.specs.Stands.{Stands}
use Rattle.dl_making.specs.Making.{code_of}
use Rattle.dl_making.proofs.MakerLemmas.{goes_on}
use Rattle.dl_making.proofs.maker.MakerVisitor.header.Goals as goal

pub returns-clause-heard : goal.returns-clause-heard
returns-clause-heard g c first start visits s =
    let more = of_header c.args.offset c.args._lengths c.args._header.now ∷ [] in
    goes_on first c.args.self.now (record c.args.self.now {
      unit =
          c.args.offset;
    }) start (g.W.Write.contents c.args._output.now) visits more s
    (λ rows n x. refl) (record { memory = refl; code = refl; directories = refl; strings = refl }) refl refl refl
    (omega arith) refl
    (λ units e stands. subst (Stands (code_of first) c.args.self.now.runs units) (sym (rows_after-append [] visits more)) stands)
