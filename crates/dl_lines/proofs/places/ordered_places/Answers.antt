use Rattle.std.proofs.Common.{[], ◌∷◌, subst}
use Rattle.std.proofs.lemmas.Result.{err_from_is_err_and}
use Rattle.dl_memory.specs.Refusals.{IsRefused}
use Rattle.dl_lines.specs.Room.{told_room}
use Rattle.dl_lines.specs.Seeking.{known_of}
use Rattle.dl_lines.proofs.AnsweringLemmas.{all_rise, order_refused}
use Rattle.dl_lines.proofs.PlacesLemmas.{answer_places, answer_refused}
use Rattle.dl_lines.proofs.places.ordered_places.Goals as goal

pub first_places-requires : goal.first_places-requires
first_places-requires g c =
    let ordered = c.in_ok-order.ensures.ordered in
    rw c.searches.ensures (all_rise c.args.seeker.now.searches.items c.order.new.self.searches.items ordered.1)

pub returns-in_err-order-clause-refused : goal.returns-in_err-order-clause-refused
returns-in_err-order-clause-refused g c =
    let p = err_from_is_err_and c.from_residual.result c.from_residual.ensures.1 in
    rw (p.1) (λ first start held visits w exact same s made_for.
    subst (λ m. IsRefused (g.M.Memory.refuses m) (told_room (known_of first) visits)) same
    (order_refused g.M.Memory.refuses first c.args.seeker.now start held visits (w ∷ []) exact s made_for
    c.in_err-order.ensures.refused))

pub returns-clause-places : goal.returns-clause-places
returns-clause-places g c =
    let ordered = c.in_ok-order.ensures.ordered in
    answer_places g.M.Memory.refuses c.args.seeker.now c.order.new.self.searches.items c.args.memory.now ordered
    c.first_places.result (rw (← c.searches.ensures) c.first_places.ensures.places)

pub returns-clause-refused : goal.returns-clause-refused
returns-clause-refused g c =
    let ordered = c.in_ok-order.ensures.ordered in
    answer_refused g.M.Memory.refuses c.args.seeker.now c.order.new.self.searches.items c.args.memory.now ordered
    c.first_places.result (rw (← c.searches.ensures) c.first_places.ensures.refused)
