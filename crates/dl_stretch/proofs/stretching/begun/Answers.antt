use Rattle.std.proofs.Common.{ℕ, ◌<◌, length, nat_le, ap, arith, rules}
use Rattle.std.proofs.lemmas.Bool.Decides.{nat_tests}
use Rattle.std.proofs.lemmas.List.{get_or_default}
use Rattle.std.proofs.lemmas.List.Sorted.{IsPartitionPoint-from_clause}
use Rattle.dl_stretch.specs.declared.run.Run.{Run}
use Rattle.dl_stretch.specs.Made.{no_run}
use Rattle.dl_stretch.proofs.NextRuns.{starts_far}
use Rattle.dl_stretch.proofs.stretching.begun.Goals as goal

pub returns : goal.returns
returns c =
    let runs = c.args.runs.now in
    let point = c.partition_point in
    let start = λ (k : ℕ) (d : Run) (lt : k < length runs). ap (λ (r : Run). r.start) (get_or_default runs k d no_run lt) in
    let parts =
    IsPartitionPoint-from_clause (λ (r : Run). nat_le r.start c.args.address) runs point.result point.ensures.partitioned
    (λ i j d le lt test. (
    let rise = starts_far runs c.requires i j le lt in
    let low = start i d (omega (arith, le, lt)) in
    let high = start j d lt in
    grind (arith, nat_tests, rise, low, high, test)))
    (λ a r q k. search rules) in
    record {
      within = point.ensures.bound;
      upto = λ k lt. (let at = parts.0 k no_run (omega arith) lt in grind (arith, nat_tests, at));
      above = λ k le lt. (let at = parts.1 k no_run le lt in grind (arith, nat_tests, at));
    }
