use Rattle.std.proofs.Common.{true, false, refl, sym, ap, ◌∙◌}
use Rattle.dl_rows.specs.Machine.{applied, cleared}
use Rattle.dl_rows.proofs.RegisterLemmas.{appends_none, finishes_with_row, finishes_without, settled-plain, settled_special}
use Rattle.dl_rows.proofs.program.Program.finish.Goals as goal

pub returns-in-Special-clause-finishes : goal.returns-in-Special-clause-finishes
returns-in-Special-clause-finishes c before fits range registers was =
    let now = rw registers at c.apply.ensures in
    let is = settled_special c.args.operation c.in-Special.is in
    finishes_with_row false fits range is.0 is.1 (rw now at c.row-row.ensures)
    (c.clear.ensures ∙ ap cleared now ∙ sym (is.2 c.args.params.now _)) refl

pub returns-in-EndSequence-clause-finishes : goal.returns-in-EndSequence-clause-finishes
returns-in-EndSequence-clause-finishes c before fits range registers was =
    let now = rw registers at c.apply.ensures in
    finishes_with_row true fits range (rw c.in-EndSequence.is) (rw c.in-EndSequence.is)
    (rw now at c.row-row-in-EndSequence.ensures) (rw c.in-EndSequence.is c.new-self.ensures) refl

pub returns-in_default : goal.returns-in_default
returns-in_default c = record {
  phase = refl;
  begun = refl;
  row = tt;
  made = rw (appends_none c.args.operation c.in_default.not-Special c.in_default.not-Copy c.in_default.not-EndSequence) refl;
  registers = c.apply.ensures
      ∙ sym (settled-plain c.args.params.now c.args.operation (applied c.args.params.now c.args.self.now.registers c.args.operation)
      (appends_none c.args.operation c.in_default.not-Special c.in_default.not-Copy c.in_default.not-EndSequence));
  finishes = λ before fits range registers was. finishes_without fits range
      (appends_none c.args.operation c.in_default.not-Special c.in_default.not-Copy c.in_default.not-EndSequence)
      (rw registers at c.apply.ensures) was;
}
