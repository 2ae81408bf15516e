use Rattle.std.proofs.Common.{◌≡◌, ◌∙◌, ap, arith, inl, inr, length-set}
use Rattle.std.proofs.Common.{sym, None}
use Rattle.std.proofs.lemmas.Bool.{cases_lt}
use Rattle.std.proofs.lemmas.List.{get_or-set_other}
use Rattle.std.proofs.lemmas.Grind.{get_or-set_at}
use Rattle.dl_reloc.specs.Types.{change_of}
use Rattle.dl_reloc.proofs.machine.low_types.Goals as goal

pub loop-number-preserved : goal.loop-number-preserved
loop-number-preserved c =
    let t = c.args.target.now in
    let low = c.loop-number.low in
    let number = c.loop-number.number in
    let change = c.change_of.result in
    let so_far = c.loop-number.invariant in
    record {
      size = length-set low number change ∙ so_far.size;
      told = λ k less. elim (cases_lt k number) [
        | inl before ↦ get_or-set_other low number k change None
            (λ (same : k ≡ number). absurd (omega (arith, same, before))) ∙ so_far.told k before
        | inr more ↦ (let same : k ≡ number = omega (arith, less, more) in
            get_or-set_at low number k change None same (omega (arith, so_far.size, c.loop-number-test.true))
            ∙ (c.change_of.ensures ∙ ap (change_of t) (sym same)))
      ];
    }
