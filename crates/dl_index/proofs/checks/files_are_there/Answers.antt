use borrow.Author.Count.{below_more}
use Rattle.std.proofs.Common.{◌/◌, ◌≤◌, length, subst, arith}
use Rattle.dl_index.specs.Entries.{entry}
use Rattle.dl_index.specs.Layout.{files_in}
use Rattle.dl_index.specs.Shown.{bytes_of}
use Rattle.dl_index.proofs.ColumnLemmas.{entries_are}
use Rattle.dl_index.proofs.checks.files_are_there.Goals as goal

pub loop-k-preserved : goal.loop-k-preserved
loop-k-preserved c =
    let parts = c.args.index.now.parts in
    let read = c.get.ensures in
    let below = c.if-get-count.false in
    below_more (λ k. entry parts.files k ≤ length parts.file_table.now / 24) c.loop-k.k c.loop-k.invariant (omega arith)

pub returns : goal.returns
returns c k less =
    let self = c.args.index.now in
    let len = self.cut.file_table_len in
    let count = self.cut.files.len in
    let past = c.loop-k-test.false in
    let here = c.loop-k.invariant k (omega arith) in
    subst (λ f. f k ≤ files_in (bytes_of self)) (entries_are self.cut.files) (omega arith)
