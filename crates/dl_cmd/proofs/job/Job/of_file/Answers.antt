use Rattle.std.proofs.Common.{refl}
use Rattle.dl_cmd.proofs.job.Job.of_file.Goals as goal

pub returns-in-Dump : goal.returns-in-Dump
returns-in-Dump c = rw c.in-Dump.is refl

pub returns-in-Check : goal.returns-in-Check
returns-in-Check c = rw c.in-Check.is refl

pub returns-in-Find : goal.returns-in-Find
returns-in-Find c = rw c.in-Find.is refl

pub returns-in-Copy : goal.returns-in-Copy
returns-in-Copy c = rw c.in-Copy.is refl

pub returns-in-Addr : goal.returns-in-Addr
returns-in-Addr c = rw c.in-Addr.is refl

pub returns-in-Index : goal.returns-in-Index
returns-in-Index c = rw c.in-Index.is refl

pub returns-in-Sources : goal.returns-in-Sources
returns-in-Sources c = rw c.in-Sources.is refl

pub returns-in-Lines : goal.returns-in-Lines
returns-in-Lines c = rw c.in-Lines.is refl

pub returns-in-Lint : goal.returns-in-Lint
returns-in-Lint c = rw c.in-Lint.is refl
