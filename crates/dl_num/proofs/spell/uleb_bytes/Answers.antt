use Rattle.std.proofs.Common.{◌≡◌, ◌+◌, ◌%◌, ◌++◌, ◌∷◌, [], false, refl, arith}
use Rattle.dl_num.specs.Leb.{groups}
use Rattle.dl_num.proofs.GroupLemmas.{groups-push}
use Rattle.dl_num.proofs.Spelling.{part_fits, part_grows, uleb_shortest}
use Rattle.dl_num.proofs.ShortestLemmas.{group_more, group_last}
use Rattle.dl_num.proofs.spell.uleb_bytes.Goals as goal

pub push-requires : goal.push-requires
push-requires c = (omega arith, part_fits c.loop-rest.bytes.items (omega arith) c.loop-rest.invariant.part)

pub loop-rest-preserved : goal.loop-rest-preserved
loop-rest-preserved c =
    let items = c.loop-rest.bytes.items in
    let b = c.loop-rest.rest % 128 + 128 in
    record {
      part = rw c.push.ensures.items (part_grows 128 b (groups (items ++ b ∷ [])) refl c.loop-rest-test.true
          (omega arith) (let m : b % 128 ≡ c.loop-rest.rest % 128 = omega arith in rw (groups-push, m) refl)
          c.loop-rest.invariant.part);
      computed =
          rw c.push.ensures.items (group_more 128 false items _ c.loop-rest.rest b (omega arith) c.loop-rest-test.true
          (omega arith) c.loop-rest.invariant.computed);
    }

pub push-requires-2 : goal.push-requires-2
push-requires-2 c = (omega arith, part_fits c.loop-rest.bytes.items (omega arith) c.loop-rest.invariant.part)

pub returns-clause-shortest : goal.returns-clause-shortest
returns-clause-shortest c =
    rw c.push-2.ensures.items (uleb_shortest c.loop-rest.bytes.items (omega arith) c.loop-rest.invariant.part)

pub returns-clause-value : goal.returns-clause-value
returns-clause-value c =
    rw c.push-2.ensures.items (group_last 128 false c.loop-rest.bytes.items _ c.loop-rest.rest c.loop-rest.rest
    c.loop-rest-test.false refl c.loop-rest.invariant.computed)
