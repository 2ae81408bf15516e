use Rattle.std.proofs.Common.{◌+◌, ◌-◌, ◌∙◌, List, arith, ap, length, subst}
use Rattle.std.specs.Prelude.{flat_map, option_to_list}
use Rattle.std.proofs.lemmas.Result.{err_from_is_err_and}
use Rattle.std.specs.List.{range_with_len}
use Rattle.dl_table.specs.TableData.{TableData}
use Rattle.dl_findings.specs.declared.finding.Finding.{Finding}
use Rattle.dl_table_rules.specs.HeaderFindings.{directories_found, directory_of_file}
use Rattle.dl_lint.proofs.FindingLemmas.{all_numbers, next_numbers, no_numbers}
use Rattle.dl_lint.proofs.TellLemmas.{Front, all_told, lost, more_told, none_yet}
use Rattle.dl_lint.proofs.report.Report.tell_directories.Goals as goal

pub loop-entry-init : goal.loop-entry-init
loop-entry-init g c =
    let h = c.args.header.now in
    let old = g.W.Write.contents c.args.output.now in (
      omega arith,
      subst (λ (l : List Finding). Front old old c.args.self.now c.args.self.now (directories_found c.args.unit h) l)
          (all_numbers (directory_of_file c.args.unit h) c.first_number-first.result c.len-count.result _ _
          c.first_number-first.ensures.value
          (c.len-count.ensures ∙ ap (λ (t : TableData). length t.entries) c.files.ensures))
          (none_yet old c.args.self.now (directories_found c.args.unit h)),
    )

pub loop-entry-preserved : goal.loop-entry-preserved
loop-entry-preserved g c =
    let f = directory_of_file c.args.unit c.args.header.now in
    let first = c.first_number-first.result in
    let count = c.len-count.result in
    let i = c.loop-entry.entry in (
      omega (arith, c.loop-entry-test.true),
      more_told c.loop-entry.invariant.1 (f (first + i)) (flat_map f (range_with_len (first + (i + 1)) (count - (i + 1))))
          (next_numbers f first i count c.loop-entry-test.true) (g.W.Write.contents c.tell_any.new.output) c.tell_any.new.self
          (option_to_list c.directory_index.result) c.directory_index.ensures c.in_ok-tell_any.ensures.told,
    )

pub returns-in_err-tell_any-clause-told : goal.returns-in_err-tell_any-clause-told
returns-in_err-tell_any-clause-told g c =
    let e = err_from_is_err_and c.from_residual.result c.from_residual.ensures.1 in
    let f = directory_of_file c.args.unit c.args.header.now in
    let first = c.first_number-first.result in
    let count = c.len-count.result in
    let i = c.loop-entry.entry in
    rw (e.1, e.2) (lost c.loop-entry.invariant.1 (f (first + i))
    (flat_map f (range_with_len (first + (i + 1)) (count - (i + 1))))
    (next_numbers f first i count c.loop-entry-test.true) (g.W.Write.contents c.tell_any.new.output) c.tell_any.new.self
    (option_to_list c.directory_index.result) c.directory_index.ensures _ c.in_err-tell_any.ensures.told)

pub returns-clause-told : goal.returns-clause-told
returns-clause-told g c =
    let f = directory_of_file c.args.unit c.args.header.now in
    let l = c.loop-entry in
    all_told (subst (λ (rest : List Finding). Front (g.W.Write.contents c.args.output.now) (g.W.Write.contents l.output)
    c.args.self.now l.self (directories_found c.args.unit c.args.header.now) rest)
    (no_numbers f c.first_number-first.result l.entry c.len-count.result c.loop-entry-test.false) l.invariant.1)
