use Rattle.std.proofs.Common.{ℕ, ◌<◌, length, nat_le, ap, arith, rules}
use Rattle.std.proofs.lemmas.Bool.Decides.{nat_tests}
use Rattle.std.proofs.lemmas.List.{get_or_default}
use Rattle.std.proofs.lemmas.List.Sorted.{IsPartitionPoint-from_clause}
use Rattle.dl_look.specs.declared.code_ranges.Reach.{Reach}
use Rattle.dl_look.specs.Ranges.{no_reach}
use Rattle.dl_look.proofs.code_ranges.starts_upto.Goals as goal

pub returns : goal.returns
returns c =
    let reaches = c.args.reaches.now in
    let point = c.partition_point in
    let start = λ (k : ℕ) (d : Reach) (lt : k < length reaches). ap (λ (r : Reach). r.start) (get_or_default reaches k d no_reach lt) in
    let parts =
    IsPartitionPoint-from_clause (λ (r : Reach). nat_le r.start c.args.address) reaches point.result point.ensures.partitioned
    (λ i j d le lt test. (
    let rise = (c.requires i j le lt).0 in
    let low = start i d (omega (arith, le, lt)) in
    let high = start j d lt in
    grind (arith, nat_tests, rise, low, high, test)))
    (λ a r q k. search rules) in
    record {
      within = point.ensures.bound;
      upto = λ k lt. (let at = parts.0 k no_reach (omega arith) lt in grind (arith, nat_tests, at));
      above = λ k le lt. (let at = parts.1 k no_reach le lt in grind (arith, nat_tests, at));
    }
