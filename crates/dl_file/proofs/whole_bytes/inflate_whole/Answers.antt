use Rattle.std.proofs.Common.{ap, Some}
use Rattle.std.proofs.Math.Seq.{take-length}
use Rattle.dl_file.proofs.WholeLemmas.{whole_had}
use Rattle.dl_file.proofs.whole_bytes.inflate_whole.Goals as goal

pub returns-clause-bytes : goal.returns-clause-bytes
returns-clause-bytes g c = λ short.
    let f = c.args.section.now in
    let known = ap (λ (s : _). Some s.now) c.new-source.ensures.inner in
    whole_had c.args.name _ c.args.header.now _ _ f c.read_whole.result c.new-reader.ensures.name (take-length f)
    (c.read_whole.ensures.bytes _ _ (c.new-reader.ensures.bytes f known short) (c.new-reader.ensures.damage f known short))
