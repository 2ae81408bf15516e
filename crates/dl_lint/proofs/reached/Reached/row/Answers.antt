use Rattle.std.proofs.Common.{◌∙◌, ◌++◌, ◌∷◌, [], Bool, ap, refl, sym}
use Rattle.std.specs.Prelude.{if◌then◌else◌}
use Rattle.dl_lint.specs.Before.{sequence_told}
use Rattle.dl_lint.specs.Keeping.{sequence_of}
use Rattle.dl_lint.specs.declared.reached.Reached.{Reached}
use Rattle.dl_lint.proofs.KeptLemmas.{row_kept}
use Rattle.dl_lint.proofs.reached.Reached.row.Goals.{then-row, else-row}
use Rattle.dl_lint.proofs.reached.Reached.row.Goals as goal

pub returns : goal.returns
returns c visits h is =
    let r = c.args.row.now in
    let told = sequence_told visits in
    c.count.ensures ∙ elim c.if-row.branch [
      | then-row w ↦ rw w.self-is (row_kept c.args.self.now visits h r _ _ _ is refl refl
          (ap (λ (b : Bool). sequence_of (if b then [] else told ++ r ∷ [])) (sym w.if-row.true)))
      | else-row w ↦ rw w.self-is (row_kept c.args.self.now visits h r _ _ w.row.new.self is refl refl
          (w.row.ensures told (ap (λ (at : Reached). at.sequence) is) (w.falls_below-falls.ensures visits is)
          ∙ ap (λ (b : Bool). sequence_of (if b then [] else told ++ r ∷ [])) (sym w.if-row.false)))
    ]
