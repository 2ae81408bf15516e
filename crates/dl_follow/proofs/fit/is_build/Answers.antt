use Rattle.std.proofs.Common.{◌∙◌, ap}
use Rattle.std.specs.Prelude.{bytes_eq}
use Rattle.dl_elf.specs.Notes.{build_id_bytes}
use Rattle.dl_follow.proofs.FitLemmas.{told_build}
use Rattle.dl_follow.proofs.fit.is_build.Goals as goal

pub returns-in-Ok-Some : goal.returns-in-Ok-Some
returns-in-Ok-Some g c = λ f is short.
    told_build (g.S.ReadAt.fails_with c.args.file.now) f (build_id_bytes c.in-Ok-Some.own) c.args.id.now c.eq.result
    (c.eq.ensures ∙ ap (λ w. bytes_eq w c.args.id.now) c.as_bytes.ensures)
    (rw c.in-Ok-Some.field-0-is at (c.in-Ok-Some.ensures f is short))
