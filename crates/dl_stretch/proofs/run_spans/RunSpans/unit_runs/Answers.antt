use Rattle.std.proofs.Common.{length, drop, ap, sym, subst, ◌-◌, arith, ◌∙◌}
use Rattle.std.proofs.lemmas.List.{take_all, length-drop}
use Rattle.dl_stretch.specs.ToldUnits.{NameFiles}
use Rattle.dl_stretch.proofs.NameLemmas.{names_files}
use Rattle.dl_stretch.proofs.run_spans.RunSpans.unit_runs.Goals as goal

pub returns-clause-named : goal.returns-clause-named
returns-clause-named c = λ live rows holds. (
    let s = c.args.self.now in
    let seen = c.ended.result.now in
    subst (NameFiles live rows)
    (sym (take_all (length seen - s.whole_runs) (drop s.whole_runs seen) (omega (arith, length-drop s.whole_runs seen))
    ∙ ap (drop s.whole_runs) c.ended.ensures))
    (names_files live s rows s.parted.after holds))
