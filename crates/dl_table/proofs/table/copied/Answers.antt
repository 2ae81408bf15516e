use Rattle.std.proofs.Common.{◌^◌, ◌<◌, ◌+◌, ◌∷◌, [], ◌++◌, List, arith, get_or, length, sym, ap, subst, ◌∙◌}
use Rattle.std.proofs.lemmas.List.{length-take, take_more}
use Rattle.dl_memory.proofs.RefusalLemmas.{wants_list}
use Rattle.dl_table.specs.declared.table.Pair.{Pair}
use Rattle.dl_table.specs.Sound.{AreContents}
use Rattle.dl_table.proofs.BuildLemmas.{no_pair}
use Rattle.dl_table.proofs.SoundLemmas.{all_push}
use Rattle.dl_table.proofs.table.copied.Goals as goal

pub loop-pair-preserved : goal.loop-pair-preserved
loop-pair-preserved g c =
    let pair = get_or c.args.pairs.now c.loop-pair.pair-index no_pair in
    let pushed = c.in_ok-push.ensures.items ∙ ap (λ (p : Pair). c.loop-pair.copy.items ++ p ∷ []) c.new.ensures.made in
    record {
      same = pushed ∙ ap (λ (pairs : List Pair). pairs ++ pair ∷ []) c.loop-pair.invariant.same
          ∙ sym (take_more c.args.pairs.now c.loop-pair.pair-index no_pair c.loop-pair-test.true);
      contents = subst AreContents (sym pushed)
          (all_push (λ (p : Pair). p.content < 2 ^ 64) c.loop-pair.copy.items pair c.loop-pair.invariant.contents
          c.new.ensures.content);
    }

pub returns-in_err-push-clause-refused : goal.returns-in_err-push-clause-refused
returns-in_err-push-clause-refused g c =
    let held = ap length c.loop-pair.invariant.same in
    let some = length-take c.loop-pair.pair-index c.args.pairs.now in
    wants_list c.from_residual-in_err-push.result (g.M.Memory.refuses c.args.memory.now)
    (length c.loop-pair.copy.items + 1) (length c.args.pairs.now) (omega (arith, c.loop-pair-test.true))
    c.in_err-push.ensures.refused
