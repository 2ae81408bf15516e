use Rattle.std.proofs.Common.{rules, ◌≡◌}
use Rattle.std.proofs.lemmas.Fn.{always_returns_same}
use Rattle.std.proofs.lemmas.List.Sorted.{IsNonDecreasingBy-from_sort_by_key}
use Rattle.dl_lines.proofs.BestLemmas.{on_ok}
use Rattle.dl_lines.proofs.OrderLemmas.{ordered}
use Rattle.dl_lines.proofs.ordering.order.Goals as goal

pub returns-clause-rises : goal.returns-clause-rises
returns-clause-rises g c =
    on_ok c.sort_by_key.result c.sort_by_key.ensures.sorted
    (λ sorted. IsNonDecreasingBy-from_sort_by_key (λ p. p.address) _ sorted (λ a r q k. search rules))

pub returns-clause-ordered : goal.returns-clause-ordered
returns-clause-ordered g c =
    on_ok c.sort_by_key.result c.sort_by_key.ensures.sorted
    (λ sorted paths line. ordered paths line c.args.places.now.items c.sort_by_key.new.list.items
    (IsNonDecreasingBy-from_sort_by_key (λ p. p.address) _ sorted (λ a r q k. search rules))
    (c.sort_by_key.ensures.stable (λ p. p.address) (always_returns_same _ (λ a r. r ≡ a.0.now.address) _ (λ a r q k. search rules))))
