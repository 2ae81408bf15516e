use Rattle.dl_dump.proofs.operation.print_name.Goals as goal

pub returns-in-Copy-clause-printed : goal.returns-in-Copy-clause-printed
returns-in-Copy-clause-printed g c = rw c.in-Copy.is c.put.ensures.printed

pub returns-in-AdvancePc-clause-printed : goal.returns-in-AdvancePc-clause-printed
returns-in-AdvancePc-clause-printed g c = rw c.in-AdvancePc.is c.print_operand.ensures.printed

pub returns-in-SetFile-clause-printed : goal.returns-in-SetFile-clause-printed
returns-in-SetFile-clause-printed g c = rw c.in-SetFile.is c.print_operand-in-SetFile.ensures.printed

pub returns-in-SetColumn-clause-printed : goal.returns-in-SetColumn-clause-printed
returns-in-SetColumn-clause-printed g c = rw c.in-SetColumn.is c.print_operand-in-SetColumn.ensures.printed

pub returns-in-NegateStatement-clause-printed : goal.returns-in-NegateStatement-clause-printed
returns-in-NegateStatement-clause-printed g c = rw c.in-NegateStatement.is c.put-in-NegateStatement.ensures.printed

pub returns-in-SetBasicBlock-clause-printed : goal.returns-in-SetBasicBlock-clause-printed
returns-in-SetBasicBlock-clause-printed g c = rw c.in-SetBasicBlock.is c.put-in-SetBasicBlock.ensures.printed

pub returns-in-ConstAddPc-clause-printed : goal.returns-in-ConstAddPc-clause-printed
returns-in-ConstAddPc-clause-printed g c = rw c.in-ConstAddPc.is c.put-in-ConstAddPc.ensures.printed

pub returns-in-FixedAdvancePc-clause-printed : goal.returns-in-FixedAdvancePc-clause-printed
returns-in-FixedAdvancePc-clause-printed g c = rw c.in-FixedAdvancePc.is c.print_operand-in-FixedAdvancePc.ensures.printed

pub returns-in-SetPrologueEnd-clause-printed : goal.returns-in-SetPrologueEnd-clause-printed
returns-in-SetPrologueEnd-clause-printed g c = rw c.in-SetPrologueEnd.is c.put-in-SetPrologueEnd.ensures.printed

pub returns-in-SetEpilogueBegin-clause-printed : goal.returns-in-SetEpilogueBegin-clause-printed
returns-in-SetEpilogueBegin-clause-printed g c = rw c.in-SetEpilogueBegin.is c.put-in-SetEpilogueBegin.ensures.printed

pub returns-in-SetIsa-clause-printed : goal.returns-in-SetIsa-clause-printed
returns-in-SetIsa-clause-printed g c = rw c.in-SetIsa.is c.print_operand-in-SetIsa.ensures.printed

pub returns-in-EndSequence-clause-printed : goal.returns-in-EndSequence-clause-printed
returns-in-EndSequence-clause-printed g c = rw c.in-EndSequence.is c.put-in-EndSequence.ensures.printed

pub returns-in-SetDiscriminator-clause-printed : goal.returns-in-SetDiscriminator-clause-printed
returns-in-SetDiscriminator-clause-printed g c = rw c.in-SetDiscriminator.is c.print_operand-in-SetDiscriminator.ensures.printed

pub returns-in-AdvanceLine-clause-printed : goal.returns-in-AdvanceLine-clause-printed
returns-in-AdvanceLine-clause-printed g c = rw c.in-AdvanceLine.is c.print_signed.ensures.printed
