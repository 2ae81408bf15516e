use Rattle.std.proofs.Common.{◌≡◌, ◌∙◌, ◌-◌, ◌≤◌, ◌++◌, List, ℕ, ap, append_assoc, arith, drop, length, length-append, subst, sym, take, take-append-drop}
use Rattle.std.proofs.lemmas.List.{length-take-le}
use Rattle.dl_num.specs.Laws.{AllBytes}
use Rattle.dl_rows.specs.Programs.{Telling}
use Rattle.dl_rows.proofs.OperandRanges.{bytes_front}
use Rattle.dl_rows.proofs.PlainTells.{telling_longer, tells_longer}
use Rattle.dl_rows.proofs.program.Program.singly.Goals.{else-size-gt0, then-size-gt0}
use Rattle.dl_rows.proofs.program.Program.singly.Goals as goal

-- a front of bytes, up to what is left of it
left_behind : (bytes : List ℕ) (end : ℕ) (done left : List ℕ) → end ≤ length bytes → take end bytes ≡ done ++ left
    → (bytes ≡ done ++ (left ++ drop end bytes)) × (length done ≡ end - length left)
left_behind bytes end done left within split = (
  sym (take-append-drop end bytes) ∙ ap (λ (l : List ℕ). l ++ drop end bytes) split ∙ append_assoc done left (drop end bytes),
  omega (arith, ap length split, length-append done left, length-take-le end bytes within),
)

pub returns-in-UpTo-clause-told : goal.returns-in-UpTo-clause-told
returns-in-UpTo-clause-told g c b before first fits all s hears =
    let bytes = c.args.bytes.now in
    let end = c.if-size-gt0.end in
    let within : end ≤ length bytes = elim c.if-size-gt0.branch [
      | then-size-gt0 w ↦ omega (arith, w.end-is, c.requires.size)
      | else-size-gt0 w ↦ omega (arith, w.end-is, w.first_size-end.ensures)
    ] in
    let whole = sym (take-append-drop end bytes) in
    let t = c.in-UpTo.ensures.told b before first fits (bytes_front (take end bytes) (drop end bytes) (subst AllBytes whole all)) s hears in
    let left = left_behind bytes end t.walked.done c.in-UpTo.left.now within t.walked.split in
    subst (λ (l : List ℕ). Telling (g.S.OperationSink.story first) c.args.order c.args.params.now c.args.header.now b bytes before c.run.new.self l c.run.new.sink)
    (sym (c.bytes_after.ensures.rest t.walked.done (c.in-UpTo.left.now ++ drop end bytes) left.0 left.1)) (telling_longer (drop end bytes) whole t)

pub returns-in-Row-clause-told : goal.returns-in-Row-clause-told
returns-in-Row-clause-told g c b before first fits all s hears =
    let bytes = c.args.bytes.now in
    let end = c.if-size-gt0.end in
    let within : end ≤ length bytes = elim c.if-size-gt0.branch [
      | then-size-gt0 w ↦ omega (arith, w.end-is, c.requires.size)
      | else-size-gt0 w ↦ omega (arith, w.end-is, w.first_size-end.ensures)
    ] in
    let whole = sym (take-append-drop end bytes) in
    let t = c.in-Row.ensures.told b before first fits (bytes_front (take end bytes) (drop end bytes) (subst AllBytes whole all)) s hears in
    let left = left_behind bytes end t.taken c.in-Row.left.now within t.split in
    tells_longer c.in-Row.row c.in-Row.left c.bytes_after-in-Row.result (drop end bytes) whole
    (c.bytes_after-in-Row.ensures.rest t.taken (c.in-Row.left.now ++ drop end bytes) left.0 left.1) t
