use Rattle.std.proofs.Common.{◌/◌, ◌%◌, ◌^◌, ◌==◌, ap, arith}
use Rattle.dl_index_file.proofs.FileLemmas.{bits_are}
use Rattle.dl_index_file.proofs.index.IndexFile.is_stmt.Goals as goal

pub returns-clause-is : goal.returns-clause-is
returns-clause-is g c f is short =
    let self = c.args.self.now in
    let st = self.stands f is short in
    let r = self.places.statements in
    let size = self.kept.places.statements.size in
    ap
    (λ n. n / 2 ^ (c.args.k % 8) % 2 == 1)
    (bits_are f _ self.header.count c.args.k r.offset r.size st.parts.statements st.end.statements (omega arith)
    c.requires _ (c.in_ok-bits.ensures.value f is short))
