use Rattle.std.proofs.Common.{[], ◌∷◌, ◌++◌, take, sym, ap, ◌∙◌, w64}
use Rattle.std.proofs.lemmas.Int.{to_z-of_z}
use Rattle.dl_rows.specs.declared.operation.Operation.TheVariants as op
use Rattle.dl_emit.specs.Program.{advances, special}
use Rattle.dl_emit.specs.WrittenUnit.{operations_bytes}
use Rattle.dl_emit.proofs.PutLemmas.{put_one, put_two}
use Rattle.dl_emit.proofs.program.put_stepped.Goals as goal

pub returns-in-Some-clause-put : goal.returns-in-Some-clause-put
returns-in-Some-clause-put c =
    let line = to_z-of_z w64 c.args.line (record { sfits = c.ranges.line.sfits }) in
    let is = ap (λ l. special c.args.params.now l c.args.advance) (sym line) ∙ sym c.special.ensures ∙ c.in-Some.is in
    rw is (put_one c.args.order c.args.params.now (op.Special c.in-Some.opcode) _ _ c.put_operation.ensures.put)

pub returns-in-None-clause-put : goal.returns-in-None-clause-put
returns-in-None-clause-put c =
    let line = to_z-of_z w64 c.args.line (record { sfits = c.ranges.line.sfits }) in
    let h = c.args.params.now in
    let is = ap (λ l. special h l c.args.advance) (sym line) ∙ sym c.special.ensures ∙ c.in-None.is in
    let first = c.put_advances-at.ensures.put
    ∙ ap (λ l. take c.args.at c.args.buffer.now ++ operations_bytes c.args.order h (advances l c.args.advance)) line in
    rw is (put_two c.args.order h (advances c.args.line c.args.advance) (op.Copy ∷ []) _ _ _ first
    (put_one c.args.order h op.Copy _ _ c.put_operation-in-None.ensures.put))
