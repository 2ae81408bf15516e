use Rattle.std.proofs.Common.{◌≡◌, ◌+◌, ◌%◌, ◌++◌, ◌∷◌, [], refl, arith, ◌∙◌, ap}
use Rattle.dl_num.specs.Magnitude.{byte_of}
use Rattle.dl_num.proofs.Spelling.{sum_of, sum_of-push, part_fits, part_grows, sleb_shortest}
use Rattle.dl_num.proofs.ShortestLemmas.{group_more, group_last}
use Rattle.dl_num.proofs.spell.signed_bytes.Goals as goal

pub push-requires : goal.push-requires
push-requires c = (omega arith, part_fits c.loop-rest.bytes.items (omega arith) c.loop-rest.invariant.part)

pub loop-rest-preserved : goal.loop-rest-preserved
loop-rest-preserved c =
    let items = c.loop-rest.bytes.items in
    let group = c.loop-rest.rest % 128 in
    let b = 128 + c.signed_group.result in
    let m : b % 128 ≡ byte_of c.args.negative group =
    (let e : b % 128 ≡ c.signed_group.result = omega (
      arith,
      c.signed_group.ensures.small,
    ) in e ∙ c.signed_group.ensures.value) in
    record {
      part = rw c.push.ensures.items
          (part_grows 64 b (sum_of c.args.negative (items ++ b ∷ [])) refl c.loop-rest-test.true (omega arith)
          (sum_of-push c.args.negative items group b (omega arith) m) c.loop-rest.invariant.part);
      computed =
          rw c.push.ensures.items
          (group_more 64 c.args.negative items _ c.loop-rest.rest b (omega arith) c.loop-rest-test.true
          (ap (λ n. 128 + n) c.signed_group.ensures.value) c.loop-rest.invariant.computed);
    }

pub push-requires-2 : goal.push-requires-2
push-requires-2 c = (omega arith, part_fits c.loop-rest.bytes.items (omega arith) c.loop-rest.invariant.part)

pub returns-clause-shortest : goal.returns-clause-shortest
returns-clause-shortest c =
    rw c.push-2.ensures.items (sleb_shortest c.args.negative c.loop-rest.bytes.items c.signed_group-2.result
    (omega arith) c.signed_group-2.ensures.value c.loop-rest.invariant.part)

pub returns-clause-value : goal.returns-clause-value
returns-clause-value c =
    rw c.push-2.ensures.items
    (group_last 64 c.args.negative c.loop-rest.bytes.items _ c.loop-rest.rest c.signed_group-2.result
    c.loop-rest-test.false c.signed_group-2.ensures.value c.loop-rest.invariant.computed)
