use Rattle.std.proofs.Common.{List, ℕ, subst}
use Rattle.dl_archive.specs.Told.{seen}
use Rattle.dl_cmd.specs.Job.{request_made}
use Rattle.dl_member.specs.Files.{bytes_of_file, fails_of_file}
use Rattle.dl_member.specs.Walking.{AtNamed}
use Rattle.dl_member.proofs.step.at_member.Goals as goal

pub returns-clause-step : goal.returns-clause-step
returns-clause-step g c = λ hears f is short.
    subst (λ (name : List ℕ). AtNamed (g.M.Memory.refuses c.args.memory.now) (g.F.FileSource.held c.args.files.now)
    (g.F.FileSource.fails_with c.args.files.now) g.W.Destination.fails (request_made c.args.job.now) g.T.DamageSink.hears
    g.T.MemberSink.tells (g.S.ReadAt.fails_with c.args.archive.now)
    (bytes_of_file g.S.ReadAt.all_bytes g.F.File.ReadAt.all_bytes) (fails_of_file g.S.ReadAt.fails_with g.F.File.ReadAt.fails_with)
    f c.args.path.now name (seen c.args.member.now).place
    (g.W.Write.contents c.args.output.now) (g.W.Write.contents c.at_named.new.output) c.args.sink.now c.at_named.new.sink
    c.at_named.result) (c.in_ok-len.ensures.name f is short) (c.at_named.ensures.step hears f is short)
