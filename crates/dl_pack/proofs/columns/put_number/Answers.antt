use Rattle.std.proofs.Common.{ap, arith, ◌∙◌, ◌+◌, ◌++◌, length, length-take, take}
use Rattle.dl_pack.proofs.ByteLemmas.{lowest_bytes}
use Rattle.dl_pack.proofs.columns.put_number.Goals as goal

pub returns-in-Ok-clause-put : goal.returns-in-Ok-clause-put
returns-in-Ok-clause-put g c =
    c.in-Ok.ensures.items
    ∙ ap (λ bytes. c.args.out.now.items ++ take c.args.size bytes) c.to_le_bytes-bytes.ensures
    ∙ ap (λ bytes. c.args.out.now.items ++ bytes) (lowest_bytes c.args.size c.args.number c.requires)

pub returns-in-Err-clause-refused : goal.returns-in-Err-clause-refused
returns-in-Err-clause-refused g c = (
  length c.args.out.now.items + length (take c.args.size c.to_le_bytes-bytes.result),
  omega (arith, length-take c.args.size c.to_le_bytes-bytes.result),
  c.in-Err.ensures.refused,
)
