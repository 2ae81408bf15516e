use Rattle.std.proofs.Common.{List, arith, refl}
use Rattle.dl_rows.specs.Items.{a_byte}
use Rattle.dl_sections.specs.Section.{Visit, of_item}
use Rattle.dl_sections.proofs.VisitLemmas.{bytes_by_one}
use Rattle.dl_sources.specs.Listing.{Listing}
use Rattle.dl_sources.proofs.ListingLemmas.{goes_on, listed_same}
use Rattle.dl_sources.proofs.lister.ListerVisitor.bytes.Goals as goal

pub returns-clause-heard : goal.returns-clause-heard
returns-clause-heard g c first start visits s =
    let l = c.args.self.now in
    let held = g.W.Write.contents c.args._output.now in
    bytes_by_one (λ (v : List Visit). Listing g.M.Memory.refuses first l start held v)
    (λ before x told. goes_on first l l start held before (of_item (a_byte x)) told
    (record { memory = refl; strings = refl; question = refl }) refl refl
    (λ listed. listed_same first before (of_item (a_byte x)) l refl listed.counts listed.table (omega (arith, listed.few))))
    visits c.args._bytes.now s
