use Rattle.std.proofs.Common.{◌≡◌, ◌+◌, ◌-◌, ◌∷◌, ◌++◌, [], length, drop, set, get_or, arith, sym, ap, subst, ◌∙◌}
use Rattle.std.proofs.lemmas.List.{drop-set-add, drop-append-le, get_or-drop, length-drop}
use Rattle.dl_stretch.specs.declared.run.Run.{Run}
use Rattle.dl_stretch.specs.Held.{told_by}
use Rattle.dl_stretch.specs.RowRuns.{AreRunsOf}
use Rattle.dl_stretch.specs.Runs.{first_address}
use Rattle.dl_stretch.proofs.RunLemmas.{row_past, row_pushed, row_replaced, row_kept, row_after, same_told}
use Rattle.dl_stretch.proofs.run.push_row.Goals as goal
use Rattle.dl_stretch.proofs.run.push_row.Goals.{then-count-begun+else-last-start+else-is_same, else-count-begun}

pub returns-in_default-clause-pushed : goal.returns-in_default-clause-pushed
returns-in_default-clause-pushed g c = λ rows are after.
    row_past rows (drop c.args.begun c.args.runs.now.items) c.args.row.now are after (ap first_address (sym c.of.ensures)
    ∙ c.in_default.ensures)

pub returns-then-last-start-clause-pushed : goal.returns-then-last-start-clause-pushed
returns-then-last-start-clause-pushed g c = λ rows are after. (
    let runs = c.args.runs.now.items in
    let begun = c.args.begun in
    let seen = drop begun runs in
    let d = c.index.result.now in
    let n : c.len-count.result - 1 ≡ begun + (length seen - 1) =
    omega (arith, c.args.runs.now.ok.0, length-drop begun runs) in
    let new = c.of-run.result in
    subst (AreRunsOf (rows ++ c.args.row.now ∷ []))
    (sym (ap (λ i. drop begun (set runs i new)) n ∙ drop-set-add begun runs (length seen - 1) new))
    (row_replaced rows seen c.args.row.now are after c.of-run.result
    (c.of-run.ensures.start ∙ c.in-Some.ensures.0 ∙ ap first_address c.of.ensures) c.of-run.ensures.told (omega (arith, c.args.runs.now.ok.0, length-drop begun runs)) d
    (ap (λ (r : Run). r.start) (get_or-drop begun runs (length seen - 1) d ∙ ap (λ i. get_or runs i d) (sym n)
    ∙ sym c.index.ensures)
    ∙ c.if-last-start.true ∙ sym c.of-run.ensures.start)))

pub returns-then-is_same-clause-pushed : goal.returns-then-is_same-clause-pushed
returns-then-is_same-clause-pushed g c = λ rows are after. (
    let runs = c.args.runs.now.items in
    let begun = c.args.begun in
    let seen = drop begun runs in
    let d = c.index.result.now in
    let n : c.len-count.result - 1 ≡ begun + (length seen - 1) =
    omega (arith, c.args.runs.now.ok.0, length-drop begun runs) in
    row_kept rows seen c.args.row.now are after c.of-run.result
    (c.of-run.ensures.start ∙ c.in-Some.ensures.0 ∙ ap first_address c.of.ensures) c.of-run.ensures.told (omega (arith, c.args.runs.now.ok.0, length-drop begun runs)) d
    (ap told_by (get_or-drop begun runs (length seen - 1) d ∙ ap (λ i. get_or runs i d) (sym n)
    ∙ sym c.index.ensures)
    ∙ sym c.told.ensures ∙ same_told c.told.result c.told-then-count-begun.result (sym c.is_same.ensures ∙ c.if-is_same.true) ∙ c.told-then-count-begun.ensures))

pub returns-clause-pushed : goal.returns-clause-pushed
returns-clause-pushed g c = λ rows are after. (
    let runs = c.args.runs.now.items in
    let begun = c.args.begun in
    let seen = drop begun runs in
    let new = c.of-run.result in
    let pushed =
    row_pushed rows seen c.args.row.now are after c.of-run.result
    (c.of-run.ensures.start ∙ c.in-Some.ensures.0 ∙ ap first_address c.of.ensures) c.of-run.ensures.told in
    subst (AreRunsOf (rows ++ c.args.row.now ∷ []))
    (sym (ap (drop begun) c.in_ok-push.ensures.items ∙ drop-append-le begun runs (new ∷ []) c.requires))
    (elim c.if-count-begun.branch [
      | then-count-begun+else-last-start+else-is_same w ↦ (
          let d = w.index.result.now in
          let n : c.len-count.result - 1 ≡ begun + (length seen - 1) =
          omega (arith, c.args.runs.now.ok.0, length-drop begun runs) in
          pushed (row_after rows seen c.args.row.now are after c.of-run.result
          (c.of-run.ensures.start ∙ c.in-Some.ensures.0 ∙ ap first_address c.of.ensures) c.of-run.ensures.told
          (omega (arith, c.args.runs.now.ok.0, length-drop begun runs)) d
          (λ e. w.if-last-start.false (ap (λ (r : Run). r.start) (w.index.ensures
          ∙ ap (λ i. get_or runs i d) n ∙ sym (get_or-drop begun runs (length seen - 1) d)) ∙ e ∙ c.of-run.ensures.start))))
      | else-count-begun w ↦ pushed (λ k d lt. absurd (omega (arith, lt, c.args.runs.now.ok.0, length-drop begun runs)))
    ]))
