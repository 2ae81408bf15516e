use Rattle.std.proofs.Common.{◌+◌, get_or, arith, length-set}
use Rattle.std.proofs.Math.ListN.{set}
use Rattle.dl_index.specs.Finds.{Finds}
use Rattle.dl_index.specs.Shown.{bytes_of}
use Rattle.dl_index_buffers.proofs.LocatedLemmas.{done_more, located_by}
use Rattle.dl_index_buffers.proofs.finding.locate_all.Goals as goal

pub loop-i-preserved : goal.loop-i-preserved
loop-i-preserved c =
    let b = bytes_of c.args.index.now in
    let addresses = c.args.addresses.now in
    let i = c.loop-i.i in
    let test = c.loop-i-test.true in
    let within = c.loop-i.invariant.within in
    let len = c.loop-i.invariant.len in
    let is_first = c.found_from.ensures in
    let first = located_by b _ c.found_from.result c.of.result is_first (c.of.ensures b is_first.places) in
    let is_second = c.found_from-in-loop-i.ensures in
    let second = located_by b _ c.found_from-in-loop-i.result c.of-in-loop-i.result is_second (c.of-in-loop-i.ensures b is_second.places) in
    let is_third = c.found_from-in-loop-i-2.ensures in
    let third = located_by b _ c.found_from-in-loop-i-2.result c.of-in-loop-i-2.result is_third (c.of-in-loop-i-2.ensures b is_third.places) in
    let is_fourth = c.found_from-in-loop-i-3.ensures in
    let fourth = located_by b _ c.found_from-in-loop-i-3.result c.of-in-loop-i-3.result is_fourth (c.of-in-loop-i-3.ensures b is_fourth.places) in
    let now = c.loop-i.locations in
    let now1 = set now i c.of.result in
    let now2 = set now1 (i + 1) c.of-in-loop-i.result in
    let now3 = set now2 (i + 2) c.of-in-loop-i-2.result in
    let len1 = length-set now i c.of.result in
    let len2 = length-set now1 (i + 1) c.of-in-loop-i.result in
    let len3 = length-set now2 (i + 2) c.of-in-loop-i-2.result in
    let len4 = length-set now3 (i + 3) c.of-in-loop-i-3.result in
    let done1 = done_more b addresses now i (i + 1) _ (omega arith) (omega arith) first c.loop-i.invariant.done in
    let done2 = done_more b addresses now1 (i + 1) (i + 2) _ (omega arith) (omega arith) second done1 in
    let done3 = done_more b addresses now2 (i + 2) (i + 3) _ (omega arith) (omega arith) third done2 in
    record {
      within = omega arith;
      len = omega arith;
      done = done_more b addresses now3 (i + 3) (i + 4) _ (omega arith) (omega arith) fourth done3;
    }

pub loop-k-preserved : goal.loop-k-preserved
loop-k-preserved c =
    let b = bytes_of c.args.index.now in
    let addresses = c.args.addresses.now in
    let k = c.loop-k.k in
    let test = c.loop-k-test.true in
    let len = c.loop-k.invariant.len in
    let now = c.loop-k.locations in
    let found = c.find.result in
    let finds : Finds b (get_or addresses k 0) found =
    record { exact = c.find.ensures.told; stands = c.find.ensures.stands; places = c.find.ensures.places } in
    let located = located_by b _ found c.of-in-loop-k.result finds (c.of-in-loop-k.ensures b c.find.ensures.places) in
    let len1 = length-set now k c.of-in-loop-k.result in
    record {
      len = omega arith;
      done = done_more b addresses now k (k + 1) _ (omega arith) (omega arith) located c.loop-k.invariant.done;
    }
