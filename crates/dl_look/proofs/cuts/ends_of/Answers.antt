use Rattle.std.proofs.Common.{◌+◌, length, arith, ap, ◌∙◌, length-append}
use Rattle.dl_memory.proofs.RefusalLemmas.{wants_list}
use Rattle.dl_look.proofs.CutLemmas.{ends_upto}
use Rattle.dl_look.proofs.cuts.ends_of.Goals as goal

pub returns-in_err-push-clause-refused : goal.returns-in_err-push-clause-refused
returns-in_err-push-clause-refused g c =
    let l = c.loop-span in
    let few = ap length l.invariant ∙ ends_upto c.args.spans.now l.span-index (omega arith) in
    wants_list _ _ (length l.ends.items + 1) _ (omega arith) c.in_err-push.ensures.refused

pub returns-in_err-push-2-clause-refused : goal.returns-in_err-push-2-clause-refused
returns-in_err-push-2-clause-refused g c =
    let l = c.loop-span in
    let few = ap length l.invariant ∙ ends_upto c.args.spans.now l.span-index (omega arith) in
    let one = ap length c.in_ok-push.ensures.items ∙ length-append l.ends.items _ in
    wants_list _ _ (length c.push.new.list.items + 1) _ (omega arith) c.in_err-push-2.ensures.refused
