use Rattle.std.proofs.Common.{◌∙◌, ap, arith, ◌++◌, length, ℕ}
use Rattle.std.proofs.lemmas.List.{length-replicate, take-replicate}
use Rattle.dl_memory.proofs.RefusalLemmas.{wants_fewer}
use Rattle.dl_pack.proofs.columns.put_zeros.Goals as goal

pub returns-clause-put : goal.returns-clause-put
returns-clause-put g c =
    c.in_ok-put_slice.ensures.put
    ∙ ap (λ zeros. c.args.out.now.items ++ zeros) (take-replicate c.args.count 44 0 c.requires)

pub returns-in_err-put_slice-clause-refused : goal.returns-in_err-put_slice-clause-refused
returns-in_err-put_slice-clause-refused g c =
    let front = take-replicate {X = ℕ} c.args.count 44 0 c.requires in
    wants_fewer _ _ _ _ (omega (arith, ap length front, length-replicate {A = ℕ} c.args.count 0)) c.in_err-put_slice.ensures.refused
