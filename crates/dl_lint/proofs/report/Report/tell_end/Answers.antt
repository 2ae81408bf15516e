use Rattle.std.proofs.Common.{◌≡◌, ◌∙◌, ◌++◌, [], Option, Some, None, refl, sym}
use Rattle.std.specs.Prelude.{⊤, is_some, Ok, Err}
use Rattle.std.proofs.lemmas.Result.{err_from_is_err_and}
use Rattle.dl_field.specs.HeaderData.{HeaderData}
use Rattle.dl_sections.specs.Copying.{offset_after as unit_offset}
use Rattle.dl_sections.specs.Section.{of_end}
use Rattle.dl_sections.specs.Visiting.{header_told}
use Rattle.dl_sequence_rules.specs.Dead.{dead_found}
use Rattle.dl_table_rules.specs.TableFindings.{unused_found}
use Rattle.dl_lint.specs.Findings.{findings_at}
use Rattle.dl_lint.specs.Sequences.{dead_told, live_in}
use Rattle.dl_lint.specs.TableRules.{files_named}
use Rattle.dl_lint.specs.Telling.{Tells}
use Rattle.dl_lint.proofs.TellLemmas.{lost, more_told, none_yet, told_last, told_none}
use Rattle.dl_lint.proofs.report.Report.tell_end.Goals as goal

pub returns-then-not-has_header-clause-told : goal.returns-then-not-has_header-clause-told
returns-then-not-has_header-clause-told g c s visits h files sequences told is = by h is where
  by : (h : Option HeaderData) → c.args.has_header ≡ is_some h
      → Tells {A = ⊤} (g.W.Write.contents c.args.output.now) (g.W.Write.contents c.args.output.now) c.args.self.now c.args.self.now
      (findings_at s c.args.self.now.question.now visits (of_end h)) (Ok tt)
  by None is = told_none (g.W.Write.contents c.args.output.now) c.args.self.now [] refl
  by (Some k) is = absurd (let e = sym is ∙ c.if-not-has_header.true in cc)

pub returns-in_err-tell_dead-clause-told : goal.returns-in_err-tell_dead-clause-told
returns-in_err-tell_dead-clause-told g c s visits h files sequences told is =
    let e = err_from_is_err_and c.from_residual.result c.from_residual.ensures.1 in
    rw (e.1, e.2) (by h is) where
      by : (h : Option HeaderData) → c.args.has_header ≡ is_some h
          → Tells {A = ⊤} (g.W.Write.contents c.args.output.now) (g.W.Write.contents c.tell_dead.new.output) c.args.self.now
          c.tell_dead.new.self (findings_at s c.args.self.now.question.now visits (of_end h)) (Err c.in_err-tell_dead.field-0.0)
      by None is = absurd (let e = sym is ∙ c.if-not-has_header.false in cc)
      by (Some k) is =
          let f0 = none_yet (g.W.Write.contents c.args.output.now) c.args.self.now
          (findings_at s c.args.self.now.question.now visits (of_end (Some k))) in
          let dead = dead_found (unit_offset 0 visits) (dead_told (live_in c.args.self.now.question.now) visits) in
          lost f0 dead (unused_found (unit_offset 0 visits) k (files_named visits) ++ []) refl
          (g.W.Write.contents c.tell_dead.new.output) c.tell_dead.new.self dead refl _
          (c.in_err-tell_dead.ensures.told visits sequences (c.unit.ensures ∙ files.unit))

pub returns-clause-told : goal.returns-clause-told
returns-clause-told g c s visits h files sequences told is = by h is told where
  by : (h : Option HeaderData) → c.args.has_header ≡ is_some h → header_told None visits ≡ h
      → Tells {A = ⊤} (g.W.Write.contents c.args.output.now) (g.W.Write.contents c.tell_unused.new.output) c.args.self.now
      c.tell_unused.new.self (findings_at s c.args.self.now.question.now visits (of_end h)) c.tell_unused.result
  by None is told = absurd (let e = sym is ∙ c.if-not-has_header.false in cc)
  by (Some k) is told =
      let f0 = none_yet (g.W.Write.contents c.args.output.now) c.args.self.now
      (findings_at s c.args.self.now.question.now visits (of_end (Some k))) in
      let dead = dead_found (unit_offset 0 visits) (dead_told (live_in c.args.self.now.question.now) visits) in
      let unused = unused_found (unit_offset 0 visits) k (files_named visits) in
      let f1 = more_told f0 dead (unused ++ []) refl (g.W.Write.contents c.tell_dead.new.output) c.tell_dead.new.self dead refl
      (c.in_ok-tell_dead.ensures.told visits sequences (c.unit.ensures ∙ files.unit)) in
      told_last f1 unused [] refl (g.W.Write.contents c.tell_unused.new.output) c.tell_unused.new.self unused refl refl
      c.tell_unused.result (c.tell_unused.ensures.told visits k (rw f1.adds.question files) told)
