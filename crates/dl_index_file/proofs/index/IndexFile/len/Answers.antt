use Rattle.std.proofs.Common.{◌∙◌, arith}
use Rattle.dl_index.proofs.HeaderLemmas.{field_is}
use Rattle.dl_index_file.proofs.index.IndexFile.len.Goals as goal

pub returns : goal.returns
returns g c f is short =
    let self = c.args.self.now in
    c.get.ensures ∙ field_is self.front f (self.stands f is short).front 16 8 (omega arith)
    ∙ (self.stands f is short).headed.whole.len
