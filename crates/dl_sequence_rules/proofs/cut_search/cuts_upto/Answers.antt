use Rattle.std.proofs.Common.{arith, rules}
use Rattle.std.proofs.lemmas.List.Sorted.{IsPartitionPoint-from_clause}
use Rattle.dl_look.specs.declared.cuts.Cut.{Cut}
use Rattle.dl_look.specs.Answer.{is_at_most}
use Rattle.dl_look.specs.Cuts.{no_cut}
use Rattle.dl_sequence_rules.proofs.CutPoints.{reached}
use Rattle.dl_sequence_rules.proofs.PlaceLemmas.{upto_before}
use Rattle.dl_sequence_rules.proofs.cut_search.cuts_upto.Goals as goal

pub returns : goal.returns
returns c =
    let cuts = c.args.cuts.now in
    let place = c.args.place in
    let point = c.partition_point in
    let parts =
    IsPartitionPoint-from_clause (λ (d : Cut). is_at_most d.place place) cuts point.result point.ensures.partitioned
    (λ i j d le lt test. reached (λ p. is_at_most p place) (λ p q a b. upto_before p q place a b) cuts c.requires i j d le lt test)
    (λ a r q k. search rules) in
    record { within = point.ensures.bound; upto = λ k lt. parts.0 k no_cut (omega arith) lt; above = λ k le lt. parts.1 k no_cut le lt }
