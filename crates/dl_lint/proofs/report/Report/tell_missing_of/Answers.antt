use Rattle.std.proofs.Common.{◌≡◌, ◌∙◌, ◌+◌, ◌-◌, List, ap, ap₂, arith, refl, subst, sym}
use Rattle.std.specs.Prelude.{flat_map, option_map}
use Rattle.std.specs.List.{range_with_len}
use Rattle.std.proofs.lemmas.Option.{slice_get-map}
use Rattle.std.proofs.lemmas.Result.{err_from_is_err_and}
use Rattle.dl_table.specs.EntryData.{with_content}
use Rattle.dl_table.specs.EntryHeld.{entry_items}
use Rattle.dl_findings.specs.declared.finding.Finding.{Finding}
use Rattle.dl_table_rules.specs.TableFindings.{missing_at, missing_entry, missing_in}
use Rattle.dl_lint.specs.Telling.{entry_numbered}
use Rattle.dl_lint.proofs.FindingLemmas.{all_numbers, next_numbers, no_numbers}
use Rattle.dl_lint.proofs.TellLemmas.{Front, all_told, lost, more_told, none_yet}
use Rattle.dl_lint.proofs.report.Report.tell_missing_of.Goals as goal

pub loop-place-init : goal.loop-place-init
loop-place-init g c =
    let t = c.args.table.now in
    let old = g.W.Write.contents c.args.output.now in (
      omega arith,
      λ s ends.
          let f = missing_at s c.args.unit (entry_numbered c.args.are_files) c.args.first t in
          let all = missing_in s c.args.unit (entry_numbered c.args.are_files) c.args.first t in
          subst (λ (l : List Finding). Front old old c.args.self.now c.args.self.now all l)
          (all_numbers f 0 c.len-count.result _ _ refl c.len-count.ensures) (none_yet old c.args.self.now all),
    )

pub loop-place-preserved : goal.loop-place-preserved
loop-place-preserved g c =
    let t = c.args.table.now in
    let count = c.len-count.result in
    let i = c.loop-place.place in
    let here : i ≡ 0 + i = omega arith in (
      omega (arith, c.loop-place-test.true),
      λ s ends.
          let f = missing_at s c.args.unit (entry_numbered c.args.are_files) c.args.first t in
          more_told (c.loop-place.invariant.1 s ends) (f (0 + i)) (flat_map f (range_with_len (0 + (i + 1)) (count - (i + 1))))
          (next_numbers f 0 i count c.loop-place-test.true) (g.W.Write.contents c.tell_missing_at.new.output)
          c.tell_missing_at.new.self
          (missing_entry s c.args.unit c.entry_numbered-number.result (option_map entry_items c.entry.result))
          (ap₂ (missing_entry s c.args.unit) c.entry_numbered-number.ensures
          (c.entry.ensures ∙ sym (slice_get-map (with_content t.pairs) t.entries i)) ∙ ap f here)
          (c.in_ok-tell_missing_at.ensures.told s ends),
    )

pub returns-in_err-tell_missing_at-clause-told : goal.returns-in_err-tell_missing_at-clause-told
returns-in_err-tell_missing_at-clause-told g c s ends =
    let e = err_from_is_err_and c.from_residual.result c.from_residual.ensures.1 in
    let t = c.args.table.now in
    let count = c.len-count.result in
    let i = c.loop-place.place in
    let here : i ≡ 0 + i = omega arith in
    let f = missing_at s c.args.unit (entry_numbered c.args.are_files) c.args.first t in
    rw (e.1, e.2) (lost (c.loop-place.invariant.1 s ends) (f (0 + i)) (flat_map f (range_with_len (0 + (i + 1)) (count - (i + 1))))
    (next_numbers f 0 i count c.loop-place-test.true) (g.W.Write.contents c.tell_missing_at.new.output)
    c.tell_missing_at.new.self
    (missing_entry s c.args.unit c.entry_numbered-number.result (option_map entry_items c.entry.result))
    (ap₂ (missing_entry s c.args.unit) c.entry_numbered-number.ensures
    (c.entry.ensures ∙ sym (slice_get-map (with_content t.pairs) t.entries i)) ∙ ap f here) _
    (c.in_err-tell_missing_at.ensures.told s ends))

pub returns-clause-told : goal.returns-clause-told
returns-clause-told g c s ends =
    let t = c.args.table.now in
    let f = missing_at s c.args.unit (entry_numbered c.args.are_files) c.args.first t in
    let l = c.loop-place in
    all_told (subst (λ (rest : List Finding). Front (g.W.Write.contents c.args.output.now) (g.W.Write.contents l.output)
    c.args.self.now l.self (missing_in s c.args.unit (entry_numbered c.args.are_files) c.args.first t) rest)
    (no_numbers f 0 l.place c.len-count.result c.loop-place-test.false) (l.invariant.1 s ends))
