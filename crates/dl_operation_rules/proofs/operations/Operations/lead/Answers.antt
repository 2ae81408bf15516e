use Rattle.std.proofs.Common.{◌∙◌, ℕ, ap, ap₂, refl, sym}
use Rattle.dl_look.specs.declared.place.Place.{Place}
use Rattle.dl_operation_rules.proofs.OperationLemmas.{came_none, same_passed}
use Rattle.dl_operation_rules.proofs.operations.Operations.lead.Goals as goal

abbrev at : (address op_index : ℕ) → Place
at address op_index = record { address = address; op_index = op_index }

pub returns-clause-starts : goal.returns-clause-starts
returns-clause-starts c s knows so = (
  came_none c.args.self.now s knows (sym c.has_begun.ensures ∙ c.if-has_begun.false),
  sym knows.place ∙ ap₂ at c.if-self-from.false c.if-self-ne0.false,
)

pub returns-clause-takes : goal.returns-clause-takes
returns-clause-takes c s knows so = record {
  read = knows.read;
  place = ap (at c.args.to) c.if-self-ne0.false;
  passed = λ o. same_passed c.args.self.now (record c.args.self.now { place = at c.args.to c.args.self.now.place.op_index }) refl refl o ∙ knows.passed o;
}
