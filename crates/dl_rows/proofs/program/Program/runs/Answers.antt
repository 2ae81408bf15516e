use Rattle.std.proofs.Common.{◌∙◌, refl, arith}
use Rattle.dl_rows.proofs.ProgramWalks.{tell_start, tell_after}
use Rattle.dl_rows.proofs.PlainTells.{taken_after}
use Rattle.dl_rows.proofs.program.Program.runs.Goals as goal

pub loop-order-init : goal.loop-order-init
loop-order-init g c = record {
  between = refl;
  begun = refl;
  fewer = omega arith;
  tells = λ b before first fits all s hears. tell_start c.args.bytes.now s hears;
}

pub loop-order-preserved : goal.loop-order-preserved
loop-order-preserved g c = record {
  between = c.singly.ensures.phase ∙ c.run_at_front-size.ensures.phase ∙ c.loop-order.invariant.between;
  begun = c.singly.ensures.begun ∙ c.run_at_front-size.ensures.begun ∙ c.loop-order.invariant.begun;
  fewer = omega (arith, c.loop-order.invariant.fewer, c.if-tail-bytes.true);
  tells = λ b before first fits all s hears.
      tell_after (c.loop-order.invariant.tells b before first fits all s hears) all
      (λ v heard bytes stands told. tell_after (c.run_at_front-size.ensures.told v heard first fits bytes stands told) bytes
      (λ w more left goes hears_more. c.in-UpTo.ensures.told w more first fits left goes hears_more));
}

pub returns-in_default-clause-told : goal.returns-in_default-clause-told
returns-in_default-clause-told g c b before first fits all s hears =
    tell_after (c.loop-order.invariant.tells b before first fits all s hears) all
    (λ v heard bytes stands told. tell_after (c.run_at_front-size.ensures.told v heard first fits bytes stands told) bytes
    (λ w more left goes hears_more. c.in-UpTo.ensures.told w more first fits left goes hears_more))

pub returns-in_default-2-clause-told : goal.returns-in_default-2-clause-told
returns-in_default-2-clause-told g c b before first fits all s hears =
    taken_after (c.loop-order.invariant.tells b before first fits all s hears) all c.singly.result c.singly.new.self c.singly.new.sink
    (λ v heard bytes stands told.
    taken_after (c.run_at_front-size.ensures.told v heard first fits bytes stands told) bytes c.singly.result c.singly.new.self c.singly.new.sink
    (λ w more left goes hears_more. c.singly.ensures.told w more first fits left goes hears_more))
