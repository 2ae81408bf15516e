use Rattle.std.proofs.Common.{◌-◌, ap, ◌∙◌, arith}
use Rattle.dl_index.specs.Layout.{start_in}
use Rattle.dl_index.specs.Shown.{bytes_of}
use Rattle.dl_index.proofs.CheckLemmas.{ordered_by}
use Rattle.dl_index.proofs.ColumnLemmas.{entry_is}
use Rattle.dl_index.proofs.checks.is_ordered.Goals as goal
use Rattle.dl_index.proofs.checks.is_ordered.Goals.{then-get-ne0-via-then-get-ne0, then-get-ne0-via-else-get-ne0+then-not-starts_rise}

pub returns : goal.returns
returns c =
    let self = c.args.index.now in
    let b = bytes_of self in
    let starts = self.cut.starts in
    let count = starts.len in
    let some = c.if-starts-eq0.false in
    let first = c.get.ensures ∙ entry_is starts 0 in
    let zero = c.if-get-ne0.false in
    ordered_by b self.layout.base c.get-2.result (omega arith) (omega arith) c.if-not-starts_rise.ensures self.laid_out.sizes.base (omega arith)
    (c.get-2.ensures ∙ entry_is starts (self.parts.starts.len - 1) ∙ ap (λ n. start_in b (n - 1)) count)

pub returns-then-get-ne0 : goal.returns-then-get-ne0
returns-then-get-ne0 c is =
    let self = c.args.index.now in
    let some = c.if-starts-eq0.false in
    let count = self.cut.starts.len in
    let first = c.get.ensures ∙ entry_is self.cut.starts 0 in
    elim c.then-get-ne0.branch [
      | then-get-ne0-via-then-get-ne0 w ↦ w.if-get-ne0.true (first ∙ is.first (omega arith))
      | then-get-ne0-via-else-get-ne0+then-not-starts_rise w ↦ w.if-not-starts_rise.ensures is.rise
    ]
