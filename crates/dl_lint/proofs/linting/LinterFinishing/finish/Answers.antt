use Rattle.std.proofs.Common.{Err, refl, subst}
use Rattle.std.specs.Prelude.{⊤}
use Rattle.std.proofs.lemmas.Result.{err_from_is_err_and}
use Rattle.dl_lint.specs.Telling.{TellsSection}
use Rattle.dl_lint.proofs.SectionLemmas.{finishes_all, finishes_some, is_kept, kept, unread}
use Rattle.dl_lint.proofs.linting.LinterFinishing.finish.Goals as goal

pub returns-in_err-tell_section-clause-told : goal.returns-in_err-tell_section-clause-told
returns-in_err-tell_section-clause-told g c =
    let e = err_from_is_err_and c.from_residual.result c.from_residual.ensures.1 in
    let report = c.args.self.now.report in
    let old = g.W.Write.contents c.args.output.now in
    let new = g.W.Write.contents c.tell_section.new.output in
    rw (e.1, e.2) (
      refl,
      λ first start visits linted out.
          let all = kept g.M.Memory.refuses linted out report linted.question refl refl in
          finishes_some g.M.Memory.refuses linted out report linted.question refl refl c.tell_section.new.self new
          c.in_err-tell_section.field-0.0
          (subst (λ m. TellsSection {A = ⊤} (g.M.Memory.refuses m) old new report c.tell_section.new.self all
          (Err c.in_err-tell_section.field-0.0)) linted.memory
          (c.in_err-tell_section.ensures.told all (is_kept g.M.Memory.refuses linted out report linted.question refl refl))),
    )

pub returns-in_err-tell_section-clause-unread : goal.returns-in_err-tell_section-clause-unread
returns-in_err-tell_section-clause-unread g c =
    let e = err_from_is_err_and c.from_residual.result c.from_residual.ensures.1 in
    rw (e.1, e.2) (unread (g.M.Memory.refuses c.args.self.now.memory.now) (g.W.Write.contents c.args.output.now)
    (g.W.Write.contents c.tell_section.new.output) c.args.self.now.report c.tell_section.new.self c.args.self.now.sequences.now.ended.items
    c.in_err-tell_section.field-0.0 (c.in_err-tell_section.ensures.told c.args.self.now.sequences.now.ended.items (λ keeps. refl)))

pub returns-clause-told : goal.returns-clause-told
returns-clause-told g c = (
  refl,
  λ first start visits linted out.
      let report = c.args.self.now.report in
      finishes_all g.M.Memory.refuses linted out report linted.question refl refl c.tell_section.new.self
      (g.W.Write.contents c.tell_section.new.output)
      (c.in_ok-tell_section.ensures.told (kept g.M.Memory.refuses linted out report linted.question refl refl)
      (is_kept g.M.Memory.refuses linted out report linted.question refl refl)),
)
