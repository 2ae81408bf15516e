use Rattle.std.proofs.Common.{◌∙◌, Bool, ap, sym}
use Rattle.std.specs.Prelude.{not, ◌&&◌}
use Rattle.std.proofs.Math.Bool.{and-false, and-true}
use Rattle.dl_look.specs.Answer.{is_rising}
use Rattle.dl_lint.specs.declared.reached.Sequence.{Sequence}
use Rattle.dl_lint.proofs.KeptLemmas.{rises_more, sequence_more}
use Rattle.dl_lint.proofs.reached.Sequence.row.Goals as goal

pub returns-then-falls : goal.returns-then-falls
returns-then-falls c rows is falls =
    let r = c.args.row.now in
    rw (c.begin.ensures rows is) (sequence_more rows r c.args.self.now _ is (sym (rises_more rows r
    ∙ ap (λ (b : Bool). is_rising rows && not b) (sym falls ∙ c.if-falls.true) ∙ and-false (is_rising rows))))

pub returns-else-falls : goal.returns-else-falls
returns-else-falls c rows is falls =
    let r = c.args.row.now in
    rw (c.begin.ensures rows is) (sequence_more rows r c.args.self.now _ is (ap (λ (s : Sequence). s.rising) is ∙ sym (rises_more rows r
    ∙ ap (λ (b : Bool). is_rising rows && not b) (sym falls ∙ c.if-falls.false) ∙ and-true (is_rising rows))))
