use Rattle.std.proofs.Common.{◌&&◌, Bool, Option, Some, sym, ap, ap₂, ◌∙◌}
use Rattle.dl_look.specs.Answer.{place_of, is_at_most}
use Rattle.dl_look.specs.declared.place.Place.{Place}
use Rattle.dl_look.specs.declared.sequence_so_far.SequenceSoFar.{SequenceSoFar}
use Rattle.dl_look.proofs.MoreRows.{run_of-push}
use Rattle.dl_look.proofs.sequence_so_far.SequenceSoFar.extended.Goals as goal

abbrev with_last : SequenceSoFar → Place → Bool → Option SequenceSoFar
with_last run last rising = Some (record { first = run.first; last = last; rising = rising })

pub returns-then-run : goal.returns-then-run
returns-then-run c rows r e p =
    let run = c.in-Some.run' in
    let rising =
    c.is_at_most.ensures ∙ ap (is_at_most run.last) p
    ∙ sym (ap (λ (b : Bool). b && is_at_most run.last (place_of r)) c.if-run.true) in
    ap₂ (with_last run) p rising ∙ sym (run_of-push rows r run (sym c.in-Some.is ∙ e))

pub returns-else-run : goal.returns-else-run
returns-else-run c rows r e p =
    let run = c.in-Some.run' in
    let rising = c.if-run.false ∙ sym (ap (λ (b : Bool). b && is_at_most run.last (place_of r)) c.if-run.false) in
    ap₂ (with_last run) p rising ∙ sym (run_of-push rows r run (sym c.in-Some.is ∙ e))
