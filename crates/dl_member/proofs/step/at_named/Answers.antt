use Rattle.std.proofs.Common.{◌≡◌, ◌∙◌, refl, inl, inr}
use Rattle.dl_cmd.specs.Job.{request_made}
use Rattle.dl_member.specs.Files.{bytes_of_file, fails_of_file, member_bytes}
use Rattle.dl_member.specs.Walking.{shown_path}
use Rattle.dl_member.proofs.StepLemmas.{same_step}
use Rattle.dl_member.proofs.step.at_named.Goals as goal

pub returns-in-Ok-file_of_member : goal.returns-in-Ok-file_of_member
returns-in-Ok-file_of_member g c = record {
  step = λ hears f is short.
      let file = c.in-Ok-file_of_member.file in
      let opened = c.in-Ok-file_of_member.ensures.opened f is short in
      let shown : c.as_str.result.now ≡ shown_path c.args.path.now c.args.name.now = c.as_str.ensures.value ∙ c.in-Ok.ensures in
      inr (
        file,
        opened,
        c.in-Ok-file_of_member.ensures.reads,
        same_step (g.M.Memory.refuses c.args.memory.now) (g.F.FileSource.held c.args.files.now)
            (g.F.FileSource.fails_with c.args.files.now) g.W.Destination.fails (request_made c.args.job.now) g.T.DamageSink.hears g.T.MemberSink.tells
            c.as_str.result.now (shown_path c.args.path.now c.args.name.now)
            (bytes_of_file g.S.ReadAt.all_bytes g.F.File.ReadAt.all_bytes file)
            (member_bytes (g.F.FileSource.held c.args.files.now) f c.args.path.now c.args.name.now c.args.member.now.place)
            (fails_of_file g.S.ReadAt.fails_with g.F.File.ReadAt.fails_with file) (g.W.Write.contents c.args.output.now)
            (g.W.Write.contents c.over_file.new.output) c.args.sink.now c.over_file.new.sink c.over_file.result shown opened
            (c.over_file.ensures.step hears),
      );
}

pub returns-in-Err : goal.returns-in-Err
returns-in-Err g c = record {
  step = λ hears f is short.
      let shown : c.as_str-in-Err.result.now ≡ shown_path c.args.path.now c.args.name.now =
      c.as_str-in-Err.ensures.value ∙ c.in-Ok.ensures in
      inl (
        c.as_str-in-Err.result,
        c.in-Err.error,
        inl (shown, c.in-Err.ensures.beside, c.in-Err.ensures.fails),
        c.tell_unopened-in-Err.ensures.told,
        refl,
        c.tell_unopened-in-Err.ensures.step,
      );
}
