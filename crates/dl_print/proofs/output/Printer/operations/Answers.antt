use Rattle.std.proofs.Common.{◌≡◌, ◌≤◌, codes, refl}
use Rattle.std.proofs.lemmas.Bool.{le-ltb}
use Rattle.dl_field.specs.declared.params.Params.{Params}
use Rattle.dl_print.specs.HeaderFields.{field_line, operations_text}
use Rattle.dl_print.proofs.output.Printer.operations.Goals as goal

operations_of : (p : Params) → 4 ≤ p.version → operations_text p
    ≡ field_line (codes "maximum_operations_per_instruction") p.maximum_operations_per_instruction
unfolding operations_text
operations_of p later = rw (le-ltb p.version 4 later) refl

pub returns-clause-printed : goal.returns-clause-printed
returns-clause-printed g c = rw (operations_of c.args.params.now c.if-params-lt4.false) c.byte_field.ensures.printed
