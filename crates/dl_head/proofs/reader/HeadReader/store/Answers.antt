use Rattle.std.proofs.Common.{ℤ, refl, sym, ap, ◌∙◌, arith, length}
use Rattle.dl_head.specs.HeaderLayout.{from_line_range}
use Rattle.dl_head.proofs.OneFieldMore.{at_field, late_more, kept_signed, first_length, at_lengths, at_minimum, next_at}
use Rattle.dl_head.proofs.reader.HeadReader.store.Goals as goal

pub returns-in-MinimumInstructionLength-clause-at : goal.returns-in-MinimumInstructionLength-clause-at
returns-in-MinimumInstructionLength-clause-at c = λ items rest at.
    let a = at_field c.args.self.now c.args.field _ items rest c.in-MinimumInstructionLength.is c.requires.at at in
    at_minimum _ _ _ (late_more _ a.0 refl) a.2 c.after_minimum_length.ensures

pub returns-in-MaximumOperations-clause-at : goal.returns-in-MaximumOperations-clause-at
returns-in-MaximumOperations-clause-at c = λ items rest at.
    let a = at_field c.args.self.now c.args.field _ items rest c.in-MaximumOperations.is c.requires.at at in
    (late_more _ a.0 refl, refl, a.2)

pub returns-in-DefaultIsStmt-clause-at : goal.returns-in-DefaultIsStmt-clause-at
returns-in-DefaultIsStmt-clause-at c = λ items rest at.
    let a = at_field c.args.self.now c.args.field _ items rest c.in-DefaultIsStmt.is c.requires.at at in
    (late_more _ a.0 refl, refl, a.2)

pub returns-in-LineRange-clause-at : goal.returns-in-LineRange-clause-at
returns-in-LineRange-clause-at c = λ items rest at.
    let a = at_field c.args.self.now c.args.field _ items rest c.in-LineRange.is c.requires.at at in
    (late_more _ a.0 refl, refl, a.2)

pub returns-in-LineBase-clause-at : goal.returns-in-LineBase-clause-at
returns-in-LineBase-clause-at c = λ items rest at.
    let a = at_field c.args.self.now c.args.field _ items rest c.in-LineBase.is c.requires.at at in
    let kept = kept_signed c.args.byte _ (omega arith) c.signed-self.ensures in (
      late_more _ a.0 (ap (λ (z : ℤ). from_line_range (record c.args.self.now.params { line_base = z })) (sym kept)),
      refl,
      a.2,
    )

pub returns-in-OpcodeBase-clause-at : goal.returns-in-OpcodeBase-clause-at
returns-in-OpcodeBase-clause-at c = λ items rest at.
    let a = at_field c.args.self.now c.args.field _ items rest c.in-OpcodeBase.is c.requires.at at in
    at_lengths _ _ _ (late_more _ a.0 (first_length c.args.self.now.params c.args.byte a.2))
    (c.length_or_table-self.ensures.next ∙ next_at 0 _ c.args.byte c.args.self.now.params.version (ap length a.2))
