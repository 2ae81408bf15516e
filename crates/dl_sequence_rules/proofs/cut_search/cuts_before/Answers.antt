use Rattle.std.proofs.Common.{nat_lt, arith, rules}
use Rattle.std.proofs.lemmas.Bool.Decides.{nat_tests}
use Rattle.std.proofs.lemmas.List.Sorted.{IsPartitionPoint-from_clause}
use Rattle.dl_look.specs.declared.cuts.Cut.{Cut}
use Rattle.dl_look.specs.Cuts.{no_cut}
use Rattle.dl_sequence_rules.proofs.CutPoints.{reached}
use Rattle.dl_sequence_rules.proofs.PlaceLemmas.{address_before}
use Rattle.dl_sequence_rules.proofs.cut_search.cuts_before.Goals as goal

pub returns : goal.returns
returns c =
    let cuts = c.args.cuts.now in
    let end = c.args.end in
    let point = c.partition_point in
    let parts =
    IsPartitionPoint-from_clause (λ (d : Cut). nat_lt d.place.address end) cuts point.result point.ensures.partitioned
    (λ i j d le lt test. reached (λ p. nat_lt p.address end)
    (λ p q a b. (let h = address_before p q a in grind (arith, nat_tests, h, b))) cuts c.requires i j d le lt test)
    (λ a r q k. search rules) in
    record {
      within = point.ensures.bound;
      others = λ k le lt. (let at = parts.1 k no_cut le lt in grind (arith, nat_tests, at));
    }
