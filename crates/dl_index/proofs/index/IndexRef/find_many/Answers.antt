use Rattle.std.proofs.Common.{◌+◌, get_or, arith}
use Rattle.std.proofs.Math.ListN.{set}
use Rattle.std.proofs.lemmas.List.{length-set}
use Rattle.dl_index.specs.Finds.{Finds}
use Rattle.dl_index.specs.Shown.{bytes_of}
use Rattle.dl_index.proofs.ManyLemmas.{done_more}
use Rattle.dl_index.proofs.index.IndexRef.find_many.Goals as goal

pub loop-i-preserved : goal.loop-i-preserved
loop-i-preserved c =
    let b = bytes_of c.args.self.now in
    let addresses = c.args.addresses.now in
    let i = c.loop-i.i in
    let test = c.loop-i-test.true in
    let within = c.loop-i.invariant.within in
    let four = c.find_four-four.result in
    let is = c.find_four-four.ensures in
    let found = c.loop-i.found in
    let found1 = set found i four.first in
    let found2 = set found1 (i + 1) four.second in
    let found3 = set found2 (i + 2) four.third in
    let len1 = length-set found i four.first in
    let len2 = length-set found1 (i + 1) four.second in
    let len3 = length-set found2 (i + 2) four.third in
    let done1 = done_more b addresses found i (i + 1) four.first (omega arith) (omega arith) is.first c.loop-i.invariant.done in
    let done2 = done_more b addresses found1 (i + 1) (i + 2) four.second (omega arith) (omega arith) is.second done1 in
    let done3 = done_more b addresses found2 (i + 2) (i + 3) four.third (omega arith) (omega arith) is.third done2 in
    record {
      within = omega arith;
      done = done_more b addresses found3 (i + 3) (i + 4) four.fourth (omega arith) (omega arith) is.fourth done3;
    }

pub loop-k-preserved : goal.loop-k-preserved
loop-k-preserved c =
    let test = c.loop-k-test.true in
    let one : Finds (bytes_of c.args.self.now) (get_or c.args.addresses.now c.loop-k.k 0) c.find.result = record { exact = c.find.ensures.told; stands = c.find.ensures.stands; places = c.find.ensures.places } in
    done_more (bytes_of c.args.self.now) c.args.addresses.now c.loop-k.found c.loop-k.k (c.loop-k.k + 1) c.find.result
    (omega arith) (omega arith) one c.loop-k.invariant

pub returns : goal.returns
returns c i less =
    let past = c.loop-k-test.false in
    c.loop-k.invariant i (omega arith)
