use Rattle.std.proofs.Common.{ap, sym, ◌∙◌}
use Rattle.std.specs.Option.{option_copied}
use Rattle.dl_lines.proofs.PlacesLemmas.{first_places, first_refused, first_rises, none_first}
use Rattle.dl_lines.proofs.places.first_places.Goals as goal

pub places_of-requires : goal.places_of-requires
places_of-requires g c =
    let is = sym (ap option_copied c.in-Some.is) ∙ c.first.ensures.value in
    first_rises c.in-Some.search.now c.args.searches.now c.requires is

pub returns-in-Some-clause-places : goal.returns-in-Some-clause-places
returns-in-Some-clause-places g c =
    let is = sym (ap option_copied c.in-Some.is) ∙ c.first.ensures.value in
    first_places c.in-Some.search.now c.args.searches.now is c.places_of.result c.places_of.ensures.places

pub returns-in-Some-clause-refused : goal.returns-in-Some-clause-refused
returns-in-Some-clause-refused g c =
    let is = sym (ap option_copied c.in-Some.is) ∙ c.first.ensures.value in
    first_refused c.in-Some.search.now (g.M.Memory.refuses c.args.memory.now) c.args.searches.now is c.places_of.result
    c.places_of.ensures.refused

pub returns-in-None-clause-places : goal.returns-in-None-clause-places
returns-in-None-clause-places g c = λ d lt.
    absurd (none_first c.args.searches.now (sym (ap option_copied c.in-None.is) ∙ c.first.ensures.value) lt)
