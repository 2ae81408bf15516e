use Rattle.std.proofs.Common.{◌∙◌, sym, ap, Ok}
use Rattle.std.proofs.lemmas.Result.{err_from_is_err_and}
use Rattle.dl_elf.specs.Slots.{slot_of}
use Rattle.dl_elf.specs.SectionsHeld.{slots}
use Rattle.dl_file.specs.Places.{places_of}
use Rattle.dl_file.proofs.PlaceLemmas.{are_places, err_map, ok_map, places_fault, stops_places}
use Rattle.dl_file.proofs.places.find_places.Goals as goal

pub returns-in_err-elf-clause-stops : goal.returns-in_err-elf-clause-stops
returns-in_err-elf-clause-stops g c = λ f is short.
    let p = err_from_is_err_and c.from_residual.result c.from_residual.ensures.1 in
    rw (p.1, p.2) (places_fault f c.in_err-elf.field-0.0 (c.in_err-elf.ensures.answer f is short))

pub returns-in-Some-clause-places : goal.returns-in-Some-clause-places
returns-in-Some-clause-places g c = λ f is short.
    let e = c.in_ok-elf.elf in
    let named = sym c.line_section.ensures ∙ c.in-Some.is in
    ok_map c.line_places.result
    (λ v listed. are_places f e (slot_of (slots c.in_ok-sections.sections)) (Ok v.items)
    (c.in_ok-elf.ensures.answer f is short) (c.in_ok-sections.ensures.found f is short)
    (sym (ap (places_of e f) named ∙ listed)))
    (c.line_places.ensures.places f is short)

pub returns-in-Some-clause-stops : goal.returns-in-Some-clause-stops
returns-in-Some-clause-stops g c = λ f is short.
    err_map c.line_places.result
    (λ why stops. stops_places f c.in_ok-elf.elf (slot_of (slots c.in_ok-sections.sections)) c.in-Some.line why
    (c.in_ok-elf.ensures.answer f is short) (c.in_ok-sections.ensures.found f is short)
    (sym c.in-Some.is ∙ c.line_section.ensures) stops)
    (c.line_places.ensures.stops f is short)

pub returns-in-None-clause-places : goal.returns-in-None-clause-places
returns-in-None-clause-places g c = λ f is short.
    let e = c.in_ok-elf.elf in
    let none = sym c.line_section.ensures ∙ c.in-None.is in
    are_places f e (slot_of (slots c.in_ok-sections.sections)) (Ok c.new.result.items)
    (c.in_ok-elf.ensures.answer f is short) (c.in_ok-sections.ensures.found f is short)
    (ap Ok c.new.ensures.items ∙ sym (ap (places_of e f) none))
