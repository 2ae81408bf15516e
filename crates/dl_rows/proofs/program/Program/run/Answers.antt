use Rattle.std.proofs.Common.{[], ◌∙◌, refl, subst, arith}
use Rattle.dl_rows.specs.declared.program.ProgramStep.TheVariants as given
use Rattle.dl_rows.proofs.ProgramSteps.{items_told, row_given, turned_whole}
use Rattle.dl_rows.proofs.ProgramTells.{telling_on, telling_row}
use Rattle.dl_rows.proofs.ProgramWalks.{tell_start, tell_after, tells_after}
use Rattle.dl_rows.proofs.program.Program.run.Goals as goal

pub loop-operation-init : goal.loop-operation-init
loop-operation-init g c = record {
  between = refl;
  begun = refl;
  fewer = omega arith;
  tells = λ b before first fits all s hears. tell_start c.args.bytes.now s hears;
}

pub loop-operation-preserved-in-On : goal.loop-operation-preserved-in-On
loop-operation-preserved-in-On g c = record {
  between = c.finish.ensures.phase ∙ c.loop-operation.invariant.between;
  begun = c.finish.ensures.begun ∙ c.loop-operation.invariant.begun;
  fewer = omega (arith, c.in-Some.ensures.left, c.loop-operation.invariant.fewer);
  tells = λ b before first fits all s hears. (
      let o = c.in-Some.ensures.operation in
      tell_after (c.loop-operation.invariant.tells b before first fits all s hears) all
      (λ v heard bytes stands told. telling_row (turned_whole stands o.0 c.in-Some.tail.now fits bytes
      (c.loop-operation.invariant.between ∙ c.requires.between) o.1 o.2 c.in-Some-finish.ensures.finishes
      c.finish.ensures.phase c.finish.ensures.begun) o.1
      (c.in-On.ensures first _ (c.tell_operation.ensures first heard o.0 told o.1))));
}

pub returns-in-Stop-clause-told : goal.returns-in-Stop-clause-told
returns-in-Stop-clause-told g c b before first fits all s hears =
    let o = c.in-Some.ensures.operation in
    tells_after (c.loop-operation.invariant.tells b before first fits all s hears) all
    (given.Row c.in-Some-finish.row c.in-Some.tail)
    (λ v heard bytes stands told.
    (let turned = turned_whole stands o.0 c.in-Some.tail.now fits bytes
    (c.loop-operation.invariant.between ∙ c.requires.between) o.1 o.2 c.in-Some-finish.ensures.finishes
    c.finish.ensures.phase c.finish.ensures.begun in
    record {
      rows = [];
      gives = row_given turned o.1;
      taken = o.0;
      split = o.1;
      sink = subst ((g.S.OperationSink.story first).stops _) (items_told turned c.args.header.now heard)
          (c.in-Stop.ensures first _ (c.tell_operation.ensures first heard o.0 told o.1));
    }))

pub loop-operation-preserved : goal.loop-operation-preserved
loop-operation-preserved g c = record {
  between = c.finish.ensures.phase ∙ c.loop-operation.invariant.between;
  begun = c.finish.ensures.begun ∙ c.loop-operation.invariant.begun;
  fewer = omega (arith, c.in-Some.ensures.left, c.loop-operation.invariant.fewer);
  tells = λ b before first fits all s hears. (
      let o = c.in-Some.ensures.operation in
      tell_after (c.loop-operation.invariant.tells b before first fits all s hears) all
      (λ v heard bytes stands told. telling_on (turned_whole stands o.0 c.in-Some.tail.now fits bytes
      (c.loop-operation.invariant.between ∙ c.requires.between) o.1 o.2
      (rw c.in_default-finish.is at c.finish.ensures.finishes) c.finish.ensures.phase c.finish.ensures.begun) o.1
      (c.tell_operation.ensures first heard o.0 told o.1)));
}
