use Rattle.std.proofs.Common.{◌≡◌, ◌∙◌, ◌+◌, ◌-◌, List, ap, arith, refl, subst}
use Rattle.std.specs.Prelude.{flat_map, option_to_list}
use Rattle.std.proofs.lemmas.Result.{err_from_is_err_and}
use Rattle.std.specs.List.{range_with_len}
use Rattle.dl_findings.specs.declared.finding.Finding.{Finding}
use Rattle.dl_table_rules.specs.HeaderFindings.{content_at, content_codes, contents_found}
use Rattle.dl_lint.proofs.FindingLemmas.{all_numbers, next_numbers, no_numbers}
use Rattle.dl_lint.proofs.TellLemmas.{Front, all_told, lost, more_told, none_yet}
use Rattle.dl_lint.proofs.report.Report.tell_contents.Goals as goal

pub loop-place-init : goal.loop-place-init
loop-place-init g c =
    let h = c.args.header.now in
    let old = g.W.Write.contents c.args.output.now in (
      omega arith,
      subst (λ (l : List Finding). Front old old c.args.self.now c.args.self.now (contents_found c.args.unit h) l)
          (all_numbers (content_at c.args.unit (content_codes h)) 0 c.content_count-count.result _ _
          refl c.content_count-count.ensures)
          (none_yet old c.args.self.now (contents_found c.args.unit h)),
    )

pub loop-place-preserved : goal.loop-place-preserved
loop-place-preserved g c =
    let f = content_at c.args.unit (content_codes c.args.header.now) in
    let count = c.content_count-count.result in
    let i = c.loop-place.place in
    let here : i ≡ 0 + i = omega arith in (
      omega (arith, c.loop-place-test.true),
      more_told c.loop-place.invariant.1 (f (0 + i)) (flat_map f (range_with_len (0 + (i + 1)) (count - (i + 1))))
          (next_numbers f 0 i count c.loop-place-test.true) (g.W.Write.contents c.tell_any.new.output) c.tell_any.new.self
          (option_to_list c.unknown_content.result) (c.unknown_content.ensures ∙ ap f here) c.in_ok-tell_any.ensures.told,
    )

pub returns-in_err-tell_any-clause-told : goal.returns-in_err-tell_any-clause-told
returns-in_err-tell_any-clause-told g c =
    let e = err_from_is_err_and c.from_residual.result c.from_residual.ensures.1 in
    let f = content_at c.args.unit (content_codes c.args.header.now) in
    let count = c.content_count-count.result in
    let i = c.loop-place.place in
    let here : i ≡ 0 + i = omega arith in
    rw (e.1, e.2) (lost c.loop-place.invariant.1 (f (0 + i)) (flat_map f (range_with_len (0 + (i + 1)) (count - (i + 1))))
    (next_numbers f 0 i count c.loop-place-test.true) (g.W.Write.contents c.tell_any.new.output) c.tell_any.new.self
    (option_to_list c.unknown_content.result) (c.unknown_content.ensures ∙ ap f here) _ c.in_err-tell_any.ensures.told)

pub returns-clause-told : goal.returns-clause-told
returns-clause-told g c =
    let f = content_at c.args.unit (content_codes c.args.header.now) in
    let l = c.loop-place in
    all_told (subst (λ (rest : List Finding). Front (g.W.Write.contents c.args.output.now) (g.W.Write.contents l.output)
    c.args.self.now l.self (contents_found c.args.unit c.args.header.now) rest)
    (no_numbers f 0 l.place c.content_count-count.result c.loop-place-test.false) l.invariant.1)
