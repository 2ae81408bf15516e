use Rattle.dl_index.specs.Columns.{size_of}
use Rattle.dl_index_file.proofs.FileLemmas.{column_is}
use Rattle.dl_index_file.proofs.index.IndexFile.numbers_of.Goals as goal

pub returns-clause-numbers : goal.returns-clause-numbers
returns-clause-numbers g c f is short =
    let self = c.args.self.now in
    let st = self.stands f is short in
    let w = self.header.widths in
    let of = st.reads.widths in
    let k = c.args.k in
    record {
      line =
          column_is (size_of w.lines) _ k _ _ _ of.lines st.parts.lines
          (c.in_ok-number_at.ensures.value f is short);
      column =
          column_is (size_of w.columns) _ k _ _ _ of.columns st.parts.columns
          (c.in_ok-number_at-2.ensures.value f is short);
      discriminator =
          column_is (size_of w.discriminators) _ k _ _ _ of.discriminators st.parts.discriminators
          (c.in_ok-number_at-3.ensures.value f is short);
      is_stmt = c.in_ok-is_stmt.ensures.is f is short;
    }
