use Rattle.std.proofs.Common.{◌≡◌, length, rules}
use Rattle.dl_dirs.proofs.HoldLemmas.{ends_extent}
use Rattle.dl_dirs.proofs.extent.put.Goals as goal

pub returns-then-ends_with-clause-extent : goal.returns-then-ends_with-clause-extent
returns-then-ends_with-clause-extent g c =
    let n : c.len.result ≡ length c.args.bytes.now.items = search rules in
    ends_extent c.args.bytes.now.items c.deref.result.now c.args.text.now c.len.result c.ends_with.result
    c.deref.ensures.value c.ends_with.ensures.value c.if-ends_with.true n (search rules)
