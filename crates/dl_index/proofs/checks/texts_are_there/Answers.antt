use borrow.Author.Count.{below_more}
use Rattle.std.proofs.Common.{◌≡◌, ◌/◌, length, arith}
use Rattle.dl_index.specs.Checked.{NamesTexts}
use Rattle.dl_index.specs.Layout.{texts_in}
use Rattle.dl_index.specs.Shown.{bytes_of}
use Rattle.dl_index.proofs.CheckLemmas.{all_texts}
use Rattle.dl_index.proofs.checks.texts_are_there.Goals as goal

pub loop-file-preserved : goal.loop-file-preserved
loop-file-preserved c =
    let parts = c.args.index.now.parts in
    below_more
    (NamesTexts parts.file_table.now (length parts.text_table.now / 16))
    c.loop-file.file c.loop-file.invariant c.if-not-names_texts.ensures

pub returns : goal.returns
returns c =
    let self = c.args.index.now in
    let len = self.cut.text_table_len in
    let files = self.cut.file_table_len in
    let past = c.loop-file-test.false in
    let count : length self.parts.text_table.now / 16 ≡ texts_in (bytes_of self) = omega arith in
    all_texts (bytes_of self) self.parts.file_table.now _ self.cut.file_table count
    (λ f less. c.loop-file.invariant f (omega arith))
