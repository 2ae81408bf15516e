use Rattle.std.proofs.Common.{◌∙◌, ℕ, Bool, true, ap, ap₂, sym}
use Rattle.dl_field.specs.declared.params.Params.{Params}
use Rattle.dl_findings.specs.declared.finding.Found.TheVariants as found
use Rattle.dl_look.specs.declared.place.Place.{Place}
use Rattle.dl_lint.specs.Before.{sequence_told}
use Rattle.dl_lint.specs.RowRules.{first_address, found_if}
use Rattle.dl_lint.specs.declared.reached.Reached.{Reached}
use Rattle.dl_lint.proofs.row_rules.split_instruction.Goals as goal

pub returns : goal.returns
returns c visits is =
    let r = c.args.row.now in
    let h = c.args.header.now in
    c.found.ensures visits is
    ∙ ap₂ (λ (first least : ℕ). found_if true visits r (found.SplitInstruction first least))
    (ap (λ (p : Place). p.address) (c.first_with.ensures (sequence_told visits) (ap (λ (at : Reached). at.sequence) is)))
    (c.from.ensures ∙ ap (λ (p : Params). p.minimum_instruction_length) c.params.ensures.value)
    ∙ ap (λ (b : Bool). found_if b visits r (found.SplitInstruction (first_address visits r) h.params.minimum_instruction_length))
    (sym (sym (c.splits.ensures visits is) ∙ c.if-not-splits.false))
