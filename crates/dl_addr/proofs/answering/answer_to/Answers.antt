use Rattle.std.proofs.Common.{Option, Some, option_map, sym, ap, ◌∙◌}
use Rattle.std.specs.Prelude.{unwrap_or}
use Rattle.std.specs.Option.{option_and_then}
use Rattle.dl_look.specs.declared.place.Place.{Place}
use Rattle.dl_addr.specs.Location.{Location}
use Rattle.dl_addr.specs.Answers.{located_seen}
use Rattle.dl_look.specs.Asked.{last}
use Rattle.dl_addr.specs.Locating.{located_by}
use Rattle.dl_addr.proofs.answering.answer_to.Goals as goal

pub returns-in-Some : goal.returns-in-Some
returns-in-Some g c first start held visits places s made at =
    let is = sym c.place.ensures ∙ c.in-Some.is in
    let seen : Option Place → Option Location =
    λ o. option_map (located_seen first) (option_and_then (λ x. located_by first x visits) o) in
    c.answer.ensures first start held visits places s made
    ∙ ap seen (at ∙ ap (λ (o : Option Place). Some (unwrap_or o last)) is) ∙ sym (ap seen is)
