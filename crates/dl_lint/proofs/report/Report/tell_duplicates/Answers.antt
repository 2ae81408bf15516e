use Rattle.std.proofs.Common.{◌≡◌, ◌∙◌, ◌+◌, ◌-◌, List, ap, arith, length, refl, subst, sym}
use Rattle.std.specs.Prelude.{flat_map, option_to_list}
use Rattle.std.specs.List.{range_with_len}
use Rattle.std.proofs.lemmas.Result.{err_from_is_err_and}
use Rattle.dl_table.specs.TableData.{TableData}
use Rattle.dl_findings.specs.declared.finding.Finding.{Finding}
use Rattle.dl_table_rules.specs.TableFindings.{duplicate_at, duplicates_found}
use Rattle.dl_lint.proofs.FindingLemmas.{all_numbers, next_numbers, no_numbers}
use Rattle.dl_lint.proofs.TellLemmas.{Front, all_told, lost, more_told, no_duplicates, none_yet, told_none}
use Rattle.dl_lint.proofs.report.Report.tell_duplicates.Goals as goal

pub returns-then-not-contains-clause-told : goal.returns-then-not-contains-clause-told
returns-then-not-contains-clause-told g c ordered =
    told_none (g.W.Write.contents c.args.output.now) c.args.self.now (duplicates_found c.args.unit c.args.header.now)
    (no_duplicates c.args.self.now.question.now.rules c.args.unit c.args.header.now (sym c.contains.ensures ∙ c.if-not-contains.true))

pub loop-place-init : goal.loop-place-init
loop-place-init g c =
    let h = c.args.header.now in
    let old = g.W.Write.contents c.args.output.now in (
      omega arith,
      λ ordered. subst (λ (l : List Finding). Front old old c.args.self.now c.args.self.now (duplicates_found c.args.unit h) l)
          (all_numbers (duplicate_at c.args.unit h) 0 c.len-count.result _ _ refl
          (c.len-count.ensures ∙ ap (λ (t : TableData). length t.entries) c.files.ensures))
          (none_yet old c.args.self.now (duplicates_found c.args.unit h)),
    )

pub loop-place-preserved : goal.loop-place-preserved
loop-place-preserved g c =
    let f = duplicate_at c.args.unit c.args.header.now in
    let count = c.len-count.result in
    let i = c.loop-place.place in
    let here : i ≡ 0 + i = omega arith in (
      omega (arith, c.loop-place-test.true),
      λ ordered. more_told (c.loop-place.invariant.1 ordered) (f (0 + i))
          (flat_map f (range_with_len (0 + (i + 1)) (count - (i + 1)))) (next_numbers f 0 i count c.loop-place-test.true)
          (g.W.Write.contents c.tell_any.new.output) c.tell_any.new.self
          (option_to_list c.duplicate_file.result) (c.duplicate_file.ensures ordered ∙ ap f here) c.in_ok-tell_any.ensures.told,
    )

pub returns-in_err-tell_any-clause-told : goal.returns-in_err-tell_any-clause-told
returns-in_err-tell_any-clause-told g c ordered =
    let e = err_from_is_err_and c.from_residual.result c.from_residual.ensures.1 in
    let f = duplicate_at c.args.unit c.args.header.now in
    let count = c.len-count.result in
    let i = c.loop-place.place in
    let here : i ≡ 0 + i = omega arith in
    let is = ordered (sym c.contains.ensures ∙ c.if-not-contains.false) in
    rw (e.1, e.2) (lost (c.loop-place.invariant.1 is) (f (0 + i)) (flat_map f (range_with_len (0 + (i + 1)) (count - (i + 1))))
    (next_numbers f 0 i count c.loop-place-test.true) (g.W.Write.contents c.tell_any.new.output) c.tell_any.new.self
    (option_to_list c.duplicate_file.result) (c.duplicate_file.ensures is ∙ ap f here) _ c.in_err-tell_any.ensures.told)

pub returns-clause-told : goal.returns-clause-told
returns-clause-told g c ordered =
    let f = duplicate_at c.args.unit c.args.header.now in
    let l = c.loop-place in
    all_told (subst (λ (rest : List Finding). Front (g.W.Write.contents c.args.output.now) (g.W.Write.contents l.output)
    c.args.self.now l.self (duplicates_found c.args.unit c.args.header.now) rest)
    (no_numbers f 0 l.place c.len-count.result c.loop-place-test.false)
    (l.invariant.1 (ordered (sym c.contains.ensures ∙ c.if-not-contains.false))))
