use Rattle.dl_operation_rules.proofs.AdvanceLemmas.{advanced_is}
use Rattle.dl_operation_rules.proofs.advance.advanced.Goals as goal

pub returns : goal.returns
returns c =
    let p = c.args.params.now in
    rw (c.from-4.ensures, c.length_of.ensures.value, c.from-2.ensures, c.from-3.ensures, c.from.ensures, c.from-maximum.ensures)
    (advanced_is c.args.at.address p.minimum_instruction_length c.args.at.op_index c.args.by
    p.maximum_operations_per_instruction c.requires.operations)
