use Rattle.std.proofs.Common.{rules, ◌≡◌}
use Rattle.std.proofs.lemmas.Fn.{always_returns_same}
use Rattle.dl_object.proofs.PlaceLemmas.{rising_is}
use Rattle.dl_object.proofs.places.are_rising.Goals as goal

pub returns : goal.returns
returns c =
    rising_is c.args.places.now c.is_sorted_by_key.result
    (c.is_sorted_by_key.ensures.cases (λ p. p.offset)
    (always_returns_same _ (λ a r. r ≡ a.0.now.offset) _ (λ a r q k. search rules)))
