use Rattle.std.proofs.Common.{◌≤◌, ◌-◌, ◌∙◌, arith}
use Rattle.dl_file.specs.OneByOne.{placed_upto}
use Rattle.dl_file.specs.Places.{line_places}
use Rattle.dl_file.proofs.BoundLemmas.{are_few}
use Rattle.dl_file.proofs.PlaceLemmas.{err_map, fault_listed, ok_map, places_listed}
use Rattle.dl_file.proofs.RelocationLemmas.{some_relocations}
use Rattle.dl_file.proofs.places.line_places.Goals as goal

pub returns-clause-places : goal.returns-clause-places
returns-clause-places g c = λ f is short.
    let e = c.args.elf.now in
    let line = c.args.line.now in
    let few : c.in_ok-relocations.relocations.count ≤ 16 = omega (arith, c.if-relocations-gt-MOST_RELOCATIONS.false) in
    ok_map c.list_places.result
    (λ v listed. places_listed e f line c.in_ok-relocations.relocations.count (c.in_ok-relocations.ensures.found f is short).0
    c.if-relocations-eq0.false few ∙ listed)
    (c.list_places.ensures.places f is short)

pub returns-clause-stops : goal.returns-clause-stops
returns-clause-stops g c = λ f is short.
    let e = c.args.elf.now in
    let line = c.args.line.now in
    let told = (c.in_ok-relocations.ensures.found f is short).0 in
    let sections = c.in_ok-relocations.relocations.count in
    let some = c.if-relocations-eq0.false in
    let few : sections ≤ 16 = omega (arith, c.if-relocations-gt-MOST_RELOCATIONS.false) in
    err_map c.list_places.result
    (λ why stops. fault_listed (placed_upto e f line (e.count - 1)) (line_places e f line) _ _ why
    (λ same. places_listed e f line sections told some few ∙ same)
    (λ needs. some_relocations e f line.number sections told some) stops)
    (c.list_places.ensures.stops f is short)

pub list_places-requires-clause-sections : goal.list_places-requires-clause-sections
list_places-requires-clause-sections g c = λ f is short.
    are_few c.args.elf.now f c.args.line.now.number c.in_ok-relocations.relocations.count
    (c.in_ok-relocations.ensures.found f is short).0 c.if-relocations-eq0.false
    (omega (arith, c.if-relocations-gt-MOST_RELOCATIONS.false))
