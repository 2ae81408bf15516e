use Rattle.std.proofs.Common.{◌+◌, ◌*◌, length, arith, ap, ◌∙◌}
use Rattle.dl_memory.proofs.RefusalLemmas.{wants_fewer}
use Rattle.dl_look.proofs.SpanLemmas.{few_spans}
use Rattle.dl_look.proofs.index.Index.build_in.Goals as goal

pub returns-in_err-cuts-clause-refused : goal.returns-in_err-cuts-clause-refused
returns-in_err-cuts-clause-refused g c =
    let few = few_spans c.args.rows.now in
    let many = ap length (c.as_slice.ensures.value ∙ c.in_ok-spans.ensures.spans) in
    wants_fewer _ _ (2 * length c.as_slice.result.now + 1) (2 * length c.args.rows.now + 1) (omega arith)
    c.in_err-cuts.ensures.refused
