use Rattle.std.proofs.Common.{rules, List, ◌≡◌, ◌∙◌, ◌++◌, ap}
use Rattle.std.proofs.lemmas.Fn.{always_returns_same}
use Rattle.std.proofs.lemmas.List.Sorted.{IsNonDecreasingBy-from_sort_by_key}
use Rattle.dl_reloc.specs.declared.placed.Placed.{Placed}
use Rattle.dl_object.specs.Kept.{section_at}
use Rattle.dl_object.proofs.PlaceLemmas.{stable_section}
use Rattle.dl_object.proofs.places.sorted.Goals as goal

pub returns-clause-rises : goal.returns-clause-rises
returns-clause-rises g c =
    IsNonDecreasingBy-from_sort_by_key (λ p. p.offset) _ c.in_ok-sort_by_key.ensures.sorted (λ a r q k. search rules)

pub returns-clause-same : goal.returns-clause-same
returns-clause-same g c at =
    stable_section c.extend_from_slice.new.list.items c.sort_by_key.new.list.items at
    (c.in_ok-sort_by_key.ensures.stable (λ p. p.offset) (always_returns_same _ (λ a r. r ≡ a.0.now.offset) _ (λ a r q k. search rules)))
    ∙ ap (λ (l : List Placed). section_at l at) (c.in_ok-extend_from_slice.ensures.items ∙ ap (λ (l : List Placed). l ++ c.args.places.now) c.new-sorted.ensures.items)
