use Rattle.dl_rows.proofs.RegisterLemmas.{same_begun}
use Rattle.dl_rows.proofs.ProgramWalks.{tell_start}
use Rattle.dl_rows.proofs.program.Program.short_operations.Goals.{else-hears_runs, then-hears_runs+then-may_be_plain}
use Rattle.dl_rows.proofs.program.Program.short_operations.Goals as goal

pub returns-then-bytes-lt-SHORT_PIECE-clause-told : goal.returns-then-bytes-lt-SHORT_PIECE-clause-told
returns-then-bytes-lt-SHORT_PIECE-clause-told g c b before first fits all s hears = tell_start c.args.bytes.now s hears

pub returns-clause-told : goal.returns-clause-told
returns-clause-told g c b before first fits all s hears =
    elim c.if-hears_runs.branch [
      | then-hears_runs+then-may_be_plain w ↦ rw (w.sink-is, w.program-is, w.taken-is)
          (rw (same_begun w.runs-taken.new.self c.args.self.now w.runs-taken.ensures.phase w.runs-taken.ensures.begun) at
          (w.runs-taken.ensures.told b before first fits all s hears))
      | else-hears_runs w ↦ rw (w.sink-is, w.program-is, w.taken-is)
          (rw (same_begun w.run-taken.new.self c.args.self.now w.run-taken.ensures.phase w.run-taken.ensures.begun) at
          (w.run-taken.ensures.told b before first fits all s hears))
    ]
