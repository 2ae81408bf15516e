use Rattle.dl_reloc.proofs.CompactLemmas.{long_told}
use Rattle.dl_reloc.proofs.compact.first_number.Goals as goal

pub returns : goal.returns
returns c =
    long_told c.args.bytes.now c.args.values c.in_ok-high.high c.from.result c.from-2.result c.in_ok-high.rest.now
    c.requires c.in-len1-up.len_at_least c.if-first-lt128.false c.in_ok-high.ensures c.from.ensures c.from-2.ensures
