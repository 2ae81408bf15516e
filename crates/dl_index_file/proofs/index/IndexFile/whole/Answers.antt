use Rattle.std.proofs.Common.{ap, inr, length, refl}
use Rattle.dl_index_file.specs.Opening.{source_of}
use Rattle.dl_index_file.proofs.TextLemmas.{whole_lost}
use Rattle.dl_index_file.proofs.index.IndexFile.whole.Goals as goal

pub returns-in-Err : goal.returns-in-Err
returns-in-Err g c f is below =
    let source = source_of c.args.self.now in
    inr (whole_lost (g.S.ReadAt.all_bytes source) (g.S.ReadAt.fails_with source) (g.M.Memory.refuses c.args.memory.now) f
    (length c.new-bytes.result.items) (record { offset = 0; size = c.len-size.result }) c.in-Err.field-0 is below
    (ap (λ l. length l) c.new-bytes.ensures.items) refl (c.len-size.ensures f is below) c.in-Err.ensures.fails)
