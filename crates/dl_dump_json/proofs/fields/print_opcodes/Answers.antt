use Rattle.std.proofs.Common.{codes}
use Rattle.std.proofs.lemmas.Result.{err_from_is_err_and}
use Rattle.dl_path.proofs.PrintLemmas.{loses_front, prints_then}
use Rattle.std.specs.Prelude.{decimal}
use Rattle.dl_dump_json.specs.Fields.{opcodes_members}
use Rattle.dl_dump_json.specs.Members.{array_member, number_member}
use Rattle.dl_dump_json.proofs.fields.print_opcodes.Goals as goal

pub returns-in_err-print_byte-clause-printed : goal.returns-in_err-print_byte-clause-printed
unfolding opcodes_members
returns-in_err-print_byte-clause-printed g c start text h =
    let e = err_from_is_err_and c.from_residual.result c.from_residual.ensures.1 in
    rw (e.1, e.2) (loses_front _ _ _ (number_member (codes "opcode_base") c.args.params.now.opcode_base) (array_member (codes "lengths") (λ place n. decimal n) c.args.params.now.lengths.items) _ c.in_err-print_byte.ensures.printed start text h)

pub returns-clause-printed : goal.returns-clause-printed
unfolding opcodes_members
returns-clause-printed g c =
    prints_then _ _ _ _ _ _ (number_member (codes "opcode_base") c.args.params.now.opcode_base) (array_member (codes "lengths") (λ place n. decimal n) c.args.params.now.lengths.items) _ c.in_ok-print_byte.ensures.printed
    (rw c.as_slice.ensures.value at c.print_bytes.ensures.printed)
