use Rattle.std.proofs.Common.{◌%◌, ◌==◌, ap, ◌∙◌, arith}
use Rattle.dl_index.proofs.HeaderLemmas.{field_is}
use Rattle.dl_index_file.proofs.index.IndexFile.has_all_sequences.Goals as goal

pub returns : goal.returns
returns g c f is short =
    let self = c.args.self.now in
    ap
    (λ n. n % 2 == 1)
    (c.get.ensures ∙ field_is self.front f (self.stands f is short).front 12 4 (omega arith))
