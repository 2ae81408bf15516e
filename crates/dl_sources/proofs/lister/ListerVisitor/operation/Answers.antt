use Rattle.std.proofs.Common.{arith, refl}
use Rattle.dl_rows.specs.Items.{an_operation}
use Rattle.dl_sections.specs.Section.{of_item}
use Rattle.dl_sources.proofs.ListingLemmas.{goes_on, listed_same}
use Rattle.dl_sources.proofs.lister.ListerVisitor.operation.Goals as goal

pub returns-clause-heard : goal.returns-clause-heard
returns-clause-heard g c first start visits s =
    let l = c.args.self.now in
    let v = of_item (an_operation c.args._header.now c.args._operation) in
    goes_on first l l start (g.W.Write.contents c.args._output.now) visits v s
    (record { memory = refl; strings = refl; question = refl }) refl refl
    (λ listed. listed_same first visits v l refl listed.counts listed.table (omega (arith, listed.few)))
