use Rattle.std.proofs.Common.{arith, length, ◌∙◌, ◌+◌}
use Rattle.std.proofs.lemmas.Result.{on_err_weaker, on_ok_weaker}
use Rattle.dl_memory.proofs.RefusalLemmas.{wants_fewer}
use Rattle.dl_making.proofs.FewLemmas.{adds_less, folders_few}
use Rattle.dl_making.proofs.files.folders_number.Goals as goal

pub returns-in_err-text-clause-refused : goal.returns-in_err-text-clause-refused
returns-in_err-text-clause-refused g c = wants_fewer _ _ _ _ (omega arith) c.in_err-text.ensures.refused

pub returns-clause-refused : goal.returns-clause-refused
returns-clause-refused g c =
    let few = folders_few c.args.first.now c.args.second.now c.as_slice.result.now
    (c.as_slice.ensures.value ∙ c.in_ok-text.ensures.text) in
    on_err_weaker c.text_number.result (λ refused. (refused.0, omega (arith, refused.1, few), refused.2))
    c.text_number.ensures.refused

pub returns-clause-few : goal.returns-clause-few
returns-clause-few g c =
    let few = folders_few c.args.first.now c.args.second.now c.as_slice.result.now
    (c.as_slice.ensures.value ∙ c.in_ok-text.ensures.text) in
    on_ok_weaker c.text_number.result
    (adds_less c.args.names.now c.text_number.new.names 1 0 (length c.as_slice.result.now) 1 0
    (length c.args.first.now + length c.args.second.now + 2) (omega arith) (omega arith) few)
    c.text_number.ensures.few
