use Rattle.std.proofs.Common.{rules, ◌≡◌, ◌≤◌, ap, get_or, length, nat_lt, true, false, sym, arith}
use Rattle.std.proofs.lemmas.Bool.Decides.{nat_tests}
use Rattle.std.proofs.lemmas.List.Sorted.{IsPartitionPoint-from_clause}
use Rattle.std.specs.List.Sorted.{IsPartitionPoint}
use Rattle.dl_reloc.specs.declared.placed.Placed.{Placed}
use Rattle.dl_object.proofs.PlaceLemmas.{no_place, found_at, not_found}
use Rattle.dl_object.proofs.places.section_at_place.Goals as goal
use Rattle.dl_object.proofs.places.section_at_place.Goals.{After-partition_point-first}

split : (c : After-partition_point-first) → IsPartitionPoint (λ (p : Placed). nat_lt p.offset c.args.at ≡ true)
    (λ (p : Placed). nat_lt p.offset c.args.at ≡ false) c.args.places.now c.partition_point-first.result
split c =
    IsPartitionPoint-from_clause (λ (p : Placed). nat_lt p.offset c.args.at) c.args.places.now
    c.partition_point-first.result c.partition_point-first.ensures.partitioned
    (λ i j d le lt test. (let rises = c.requires i j d le lt in grind (arith, nat_tests, rises))) (λ a r q k. search rules)

pub returns-then-place-at : goal.returns-then-place-at
returns-then-place-at c =
    let parts = split (goal.at.returns-then-place-at c).After-partition_point-first in
    let held = c.in-Some.ensures.lookup.3 in
    found_at c.args.places.now c.partition_point-first.result c.args.at c.in-Some.place.now held.0
    (λ k d lt. (let below = parts.0 k d (omega arith) lt in grind (arith, nat_tests, below)))
    (sym (held.1 no_place)) c.if-place-at.true

pub returns-else-place-at : goal.returns-else-place-at
returns-else-place-at c =
    let parts = split (goal.at.returns-else-place-at c).After-partition_point-first in
    let is = c.in-Some.ensures.lookup.3.1 no_place in
    not_found c.args.places.now c.partition_point-first.result c.args.at c.partition_point-first.ensures.bound c.requires
    (λ k d lt. (let below = parts.0 k d (omega arith) lt in grind (arith, nat_tests, below)))
    (λ lt. (let above = parts.1 c.partition_point-first.result no_place (omega arith) lt in
    let le : c.args.at ≤ (get_or c.args.places.now c.partition_point-first.result no_place).offset =
    grind (arith, nat_tests, above) in
    let same = ap (λ (p : Placed). p.offset) is in
    let other = c.if-place-at.false in omega (arith, le, same, other)))

pub returns-in_default : goal.returns-in_default
returns-in_default c =
    let parts = split (goal.at.returns-in_default c).After-partition_point-first in
    let past : length c.args.places.now ≤ c.partition_point-first.result =
    (rw c.in_default.is at c.get.ensures.lookup).3 in
    not_found c.args.places.now c.partition_point-first.result c.args.at c.partition_point-first.ensures.bound c.requires
    (λ k d lt. (let below = parts.0 k d (omega arith) lt in grind (arith, nat_tests, below)))
    (λ lt. absurd (omega (arith, lt, past)))
