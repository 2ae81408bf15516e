use Rattle.std.proofs.Common.{◌≡◌, ◌+◌, ◌-◌, ◌<◌, sym, ap, subst, ◌∙◌, arith}
use Rattle.dl_index.specs.Entries.{entry}
use Rattle.dl_index.specs.Layout.{count_in}
use Rattle.dl_index.specs.LookUp.{Rise}
use Rattle.dl_index.specs.Shown.{bytes_of}
use Rattle.dl_index.proofs.ColumnLemmas.{entries_are}
use Rattle.dl_index.proofs.CheckLemmas.{rise_more}
use Rattle.dl_index.proofs.checks.starts_rise.Goals as goal

pub returns-then-start-last : goal.returns-then-start-last
returns-then-start-last c rise =
    let self = c.args.index.now in
    let k = c.loop-k.k in
    let some = c.loop-k.auto.k in
    let within = c.loop-k-test.true in
    let count = self.cut.starts.len in
    let start = entry self.parts.starts in
    let above : start (k - 1) < start k =
    subst
    (λ f. f (k - 1) < f k)
    (sym (entries_are self.cut.starts))
    (rise (k - 1) k (omega arith) (omega arith)) in
    let read = c.get-start.ensures in
    let last = c.loop-k.invariant.last in
    let upto = c.if-start-last.true in
    omega arith

pub loop-k-preserved : goal.loop-k-preserved
loop-k-preserved c =
    let start = entry c.args.index.now.parts.starts in
    let k = c.loop-k.k in
    let some = c.loop-k.auto.k in
    let read = c.get-start.ensures in
    let last = c.loop-k.invariant.last in
    let above = c.if-start-last.false in
    let e : k ≡ k + 1 - 1 = omega arith in
    record { rise = rise_more start k (omega arith) c.loop-k.invariant.rise (omega arith); last = read ∙ ap start e }

pub returns : goal.returns
returns c =
    let self = c.args.index.now in
    let count = self.cut.starts.len in
    let past = c.loop-k-test.false in
    subst
    (λ f. Rise f (count_in (bytes_of self)))
    (entries_are self.cut.starts)
    (λ j k less within. c.loop-k.invariant.rise j k less (omega arith))
