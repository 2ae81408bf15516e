use Rattle.std.proofs.Common.{◌≡◌, ◌≤◌, codes, refl}
use Rattle.std.proofs.lemmas.Bool.{le-ltb}
use Rattle.dl_field.specs.declared.params.Params.{Params}
use Rattle.dl_dump_json.specs.Fields.{operations_member}
use Rattle.dl_dump_json.specs.Members.{number_member}
use Rattle.dl_dump_json.proofs.fields.print_operations.Goals as goal

operations_of : (p : Params) → 4 ≤ p.version → operations_member p
    ≡ number_member (codes "maximum_operations_per_instruction") p.maximum_operations_per_instruction
unfolding operations_member
operations_of p later = rw (le-ltb p.version 4 later) refl

pub returns-clause-printed : goal.returns-clause-printed
returns-clause-printed g c = rw (operations_of c.args.params.now c.if-params-lt4.false) c.print_byte.ensures.printed
