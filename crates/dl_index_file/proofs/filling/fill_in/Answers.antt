use Rattle.std.proofs.Common.{length, sym}
use Rattle.std.proofs.lemmas.Result.{IfOk-equal}
use Rattle.dl_index_file.proofs.RangeLemmas.{piece}
use Rattle.dl_index_file.proofs.filling.fill_in.Goals as goal

pub returns-clause-bytes : goal.returns-clause-bytes
returns-clause-bytes g c f is short =
    let r = c.args.range.now in
    IfOk-equal c.fill_all.result _ _ _ (c.fill_all.ensures.bytes f is short)
    (sym (piece f r.offset r.size c.args.at (length c.args.buffer.now) c.requires.inside))
