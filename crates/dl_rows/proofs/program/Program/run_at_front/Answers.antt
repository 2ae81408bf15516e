use Rattle.dl_rows.proofs.ProgramWalks.{tell_start}
use Rattle.dl_rows.proofs.PlainTells.{plain_told, plain_under}
use Rattle.dl_rows.proofs.program.Program.run_at_front.Goals.{in-Some+else-size-gt0, else-size-gt0-via-then-size-gt0+else-plain_run, else-size-gt0-via-else-size-gt0, in_default}
use Rattle.dl_rows.proofs.program.Program.run_at_front.Goals as goal

pub returns-then-plain_run-clause-told : goal.returns-then-plain_run-clause-told
returns-then-plain_run-clause-told g c b before first fits all s hears =
    let taken = rw c.in-Some.is at c.plain_run.ensures.run in
    let run = taken.at b c.args.header.now fits all s in
    plain_told before c.plain_run-then-size-gt0.new.self run
    (rw c.if-plain_run.true at (c.plain_run-then-size-gt0.ensures first before run.ones hears (plain_under c.requires.params run.is)))

pub returns-clause-told : goal.returns-clause-told
returns-clause-told g c b before first fits all s hears =
    tell_start c.args.bytes.now s (elim c.match-run.branch [
      | in-Some+else-size-gt0 w ↦ elim w.else-size-gt0.branch [
        | else-size-gt0-via-then-size-gt0+else-plain_run w2 ↦ (
            let run = (rw w.in-Some.is at c.plain_run.ensures.run).at b c.args.header.now fits all s in
            rw w.sink-is (rw w2.sink-is (rw w2.if-plain_run.false at (w2.plain_run-then-size-gt0.ensures first before run.ones hears
            (plain_under c.requires.params run.is)))))
        | else-size-gt0-via-else-size-gt0 w2 ↦ rw w.sink-is (rw w2.sink-is hears)
      ]
      | in_default w ↦ rw w.sink-is hears
    ])
