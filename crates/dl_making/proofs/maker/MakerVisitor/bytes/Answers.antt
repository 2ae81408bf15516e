use Rattle.std.proofs.Common.{arith, List, [], ◌∷◌, refl, subst, sym}
use Rattle.dl_rows.specs.Items.{a_byte}
use Rattle.dl_sections.specs.Section.{Visit, of_item}
use Rattle.dl_sections.proofs.VisitLemmas.{bytes_by_one, rows_after-append}
use Rattle.dl_stretch.specs.Stands.{Stands}
use Rattle.dl_making.specs.Making.{Making, code_of}
use Rattle.dl_making.proofs.MakerLemmas.{goes_on}
use Rattle.dl_making.proofs.maker.MakerVisitor.bytes.Goals as goal

pub returns-clause-heard : goal.returns-clause-heard
returns-clause-heard g c first start visits s =
    bytes_by_one (λ (v : List Visit). Making g.M.Memory.refuses first c.args.self.now start (g.W.Write.contents c.args._output.now) v)
    (λ visits x s. (
    let more = of_item (a_byte x) ∷ [] in
    goes_on first c.args.self.now c.args.self.now start (g.W.Write.contents c.args._output.now) visits more s
    (λ rows n y. refl) (record { memory = refl; code = refl; directories = refl; strings = refl }) refl refl refl
    (omega arith) refl
    (λ units e stands. subst (Stands (code_of first) c.args.self.now.runs units) (sym (rows_after-append [] visits more)) stands))) visits c.args._bytes.now s
