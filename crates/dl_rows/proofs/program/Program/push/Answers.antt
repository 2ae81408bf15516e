use Rattle.std.proofs.Common.{[], sym, subst, ◌∙◌, arith, append-nil}
use Rattle.dl_rows.specs.declared.program.ProgramStep.TheVariants as given
use Rattle.dl_rows.proofs.Judged.{empty_is}
use Rattle.dl_rows.proofs.ProgramSteps.{items_bad, items_nowhere, items_told, refuses_given, row_given, turned_at, within_given}
use Rattle.dl_rows.proofs.ProgramTells.{front_taken, telling_on, telling_row}
use Rattle.dl_rows.proofs.ProgramWalks.{tell_after, tell_start, tells_after, tells_all}
use Rattle.dl_rows.proofs.program.Program.push.Goals as goal

pub loop-bytes-init : goal.loop-bytes-init
loop-bytes-init g c = record {
  fewer = omega arith;
  tells = λ b before first fits all s hears. tell_start c.args.bytes.now s hears;
}

pub returns-in-Row-clause-given : goal.returns-in-Row-clause-given
returns-in-Row-clause-given g c b before first fits all s hears =
    tells_after (c.loop-bytes.invariant.tells b before first fits all s hears) all
    (given.Row c.in-Row.row c.in-Row.tail)
    (λ v heard bytes stands told. c.in-Row.ensures.told v heard first fits bytes stands told)

pub returns-in-Within-clause-given : goal.returns-in-Within-clause-given
returns-in-Within-clause-given g c b before first fits all s hears =
    let t = tell_after (c.loop-bytes.invariant.tells b before first fits all s hears) all
    (λ v heard bytes stands told. c.in-UpTo.ensures.told v heard first fits bytes stands told) in
    tells_after t all given.Nothing (λ v heard bytes stands told.
    (let step = c.in-Within.ensures.step stands.begun stands.phase in
    record {
      rows = [];
      gives = within_given stands c.in-UpTo.tail.now bytes step c.saturating_add-self.ensures;
      taken = c.in-UpTo.tail.now;
      split = sym (append-nil c.in-UpTo.tail.now);
      sink = rw (items_nowhere stands c.args.header.now c.in-UpTo.tail.now step.1) (c.bytes.ensures first heard told);
    }))

pub loop-bytes-preserved-in-On : goal.loop-bytes-preserved-in-On
loop-bytes-preserved-in-On g c = record {
  fewer = omega (arith, c.in-Ends.ensures.within, c.in-UpTo.ensures.left, c.loop-bytes.invariant.fewer);
  tells = λ b before first fits all s hears. (
      let t = tell_after (c.loop-bytes.invariant.tells b before first fits all s hears) all
      (λ v heard bytes stands told. c.in-UpTo.ensures.told v heard first fits bytes stands told) in
      tell_after t all (λ v heard bytes stands told.
      (let o = c.in-Ends.ensures.step stands.begun stands.phase in
      let turned = turned_at stands o.0 c.in-Ends.tail.now fits bytes o.1 o.2 c.in-Some.ensures.finishes
      c.complete.ensures.phase c.complete.ensures.begun in
      telling_row turned o.1 (c.in-On.ensures first _ (c.tell_operation.ensures first heard o.0 told o.1)))));
}

pub returns-in-Stop-clause-given : goal.returns-in-Stop-clause-given
returns-in-Stop-clause-given g c b before first fits all s hears =
    let t = tell_after (c.loop-bytes.invariant.tells b before first fits all s hears) all
    (λ v heard bytes stands told. c.in-UpTo.ensures.told v heard first fits bytes stands told) in
    tells_after t all (given.Row c.in-Some.row c.in-Ends.tail) (λ v heard bytes stands told.
    (let o = c.in-Ends.ensures.step stands.begun stands.phase in
    let turned = turned_at stands o.0 c.in-Ends.tail.now fits bytes o.1 o.2 c.in-Some.ensures.finishes
    c.complete.ensures.phase c.complete.ensures.begun in
    record {
      rows = [];
      gives = row_given turned o.1;
      taken = o.0;
      split = o.1;
      sink = subst ((g.S.OperationSink.story first).stops _) (items_told turned c.args.header.now heard)
          (c.in-Stop.ensures first _ (c.tell_operation.ensures first heard o.0 told o.1));
    }))

pub loop-bytes-preserved : goal.loop-bytes-preserved
loop-bytes-preserved g c = record {
  fewer = omega (arith, c.in-Ends.ensures.within, c.in-UpTo.ensures.left, c.loop-bytes.invariant.fewer);
  tells = λ b before first fits all s hears. (
      let t = tell_after (c.loop-bytes.invariant.tells b before first fits all s hears) all
      (λ v heard bytes stands told. c.in-UpTo.ensures.told v heard first fits bytes stands told) in
      tell_after t all (λ v heard bytes stands told.
      (let o = c.in-Ends.ensures.step stands.begun stands.phase in
      telling_on (turned_at stands o.0 c.in-Ends.tail.now fits bytes o.1 o.2
      (rw c.in_default.is at c.complete.ensures.finishes) c.complete.ensures.phase c.complete.ensures.begun) o.1
      (c.tell_operation.ensures first heard o.0 told o.1))));
}

pub returns-in-Refuses-clause-given : goal.returns-in-Refuses-clause-given
returns-in-Refuses-clause-given g c b before first fits all s hears =
    let t = tell_after (c.loop-bytes.invariant.tells b before first fits all s hears) all
    (λ v heard bytes stands told. c.in-UpTo.ensures.told v heard first fits bytes stands told) in
    tells_after t all (given.Refuses c.in-Refuses.kind c.in-Refuses.tail) (λ v heard bytes stands told.
    (let o = c.in-Refuses.ensures.step stands.begun stands.phase in
    record {
      rows = [];
      gives = refuses_given stands c.in-UpTo.tail.now o.0 c.in-Refuses.tail.now c.in-Refuses.kind o.1 o.2
          c.saturating_add-self-in-Refuses.ensures;
      taken = o.0;
      split = o.1;
      sink = rw (items_bad stands c.args.header.now o.0 c.in-Refuses.kind o.2)
          (rw (front_taken c.in-UpTo.tail.now o.0 c.in-Refuses.tail.now o.1) at
          (c.bytes-in-Refuses.ensures first heard told));
    }))

pub returns-clause-given : goal.returns-clause-given
returns-clause-given g c b before first fits all s hears =
    let over = empty_is c.loop-bytes.bytes.now (sym c.is_empty.ensures ∙ c.loop-bytes-test.false) in
    tells_all (c.loop-bytes.invariant.tells b before first fits all s hears) over
