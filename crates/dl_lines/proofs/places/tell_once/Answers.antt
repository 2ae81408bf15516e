use Rattle.std.proofs.Common.{sym, ap, ◌∙◌}
use Rattle.dl_lines.specs.FoundPlaces.{place_told}
use Rattle.dl_lines.specs.Printing.{found_place, found_places}
use Rattle.dl_lines.proofs.BestLemmas.{on_ok}
use Rattle.dl_lines.proofs.LineLemmas.{place_seen}
use Rattle.dl_lines.proofs.PlacesLemmas.{tells_none, tells_one}
use Rattle.dl_lines.proofs.places.tell_once.Goals as goal

pub returns-then-is_repeated-clause-told : goal.returns-then-is_repeated-clause-told
returns-then-is_repeated-clause-told g c =
    tells_none (found_places c.args.search.now) c.args.number c.args.told.now.items
    (sym c.is_repeated.ensures ∙ c.if-is_repeated.true)

pub returns-clause-told : goal.returns-clause-told
returns-clause-told g c =
    let s = c.args.search.now in
    let n = c.args.number in
    let place = c.index-place.result.now in
    let same = ap place_told (ap (found_place s) c.index-place.ensures ∙ sym (place_seen s s.kept.places.items n place c.requires.within)) in
    on_ok c.push.result c.push.ensures.items
    (λ items. items ∙ tells_one (found_places s) n c.args.told.now.items _ (sym c.is_repeated.ensures ∙ c.if-is_repeated.false) same)
