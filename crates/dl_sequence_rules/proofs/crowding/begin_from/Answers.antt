use Rattle.std.proofs.Common.{◌≡◌, ◌∙◌, true, ap, arith}
use Rattle.std.proofs.lemmas.Bool.Decides.{nat_tests}
use Rattle.dl_look.specs.Answer.{is_at_most}
use Rattle.dl_sequence_rules.specs.declared.crowding.Stretch.{Stretch}
use Rattle.dl_sequence_rules.specs.Alone.{no_stretch, stretch_at}
use Rattle.dl_sequence_rules.proofs.PlaceLemmas.{at_most_after}
use Rattle.dl_sequence_rules.proofs.crowding.begin_from.Goals as goal

pub returns-in-Some : goal.returns-in-Some
returns-in-Some c is m le lt =
    let read = c.in-Some.ensures.lookup.3 in
    let t = c.in-Some.stretch.now in
    let later = (stretch_at c.args.stretches.now m).first in
    let e = c.le.ensures in
    let here : is_at_most c.args.place t.first ≡ true = grind (arith, nat_tests) in
    at_most_after c.args.place t.first later here
    (ap (λ (u : Stretch). is_at_most u.first later) (read.1 no_stretch) ∙ c.requires c.args.low m le lt)
