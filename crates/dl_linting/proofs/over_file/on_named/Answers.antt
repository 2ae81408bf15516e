use Rattle.std.proofs.Common.{◌∙◌, inl, inr, refl}
use Rattle.std.proofs.KnownBytes.{Keeps-refl}
use Rattle.dl_open.specs.declared.stop.FileStop.TheVariants as at
use Rattle.dl_linting.proofs.LintingLemmas.{on_code_wider}
use Rattle.dl_linting.proofs.over_file.on_named.Goals as goal

pub returns-in-Ok-clause-ran : goal.returns-in-Ok-clause-ran
returns-in-Ok-clause-ran g c untold f known short =
    inr (on_code_wider (g.M.Memory.refuses c.args.memory.now) _ _ _ c.args.path.now c.args.choice f _ _ _ _ c.in-Ok.ensures.reads
    (c.on_code.ensures.ran untold f (c.in-Ok.ensures.bytes ∙ known) short))

pub returns-in-Err-clause-ran : goal.returns-in-Err-clause-ran
returns-in-Err-clause-ran g c untold f known short =
    let e = c.in-Err.ensures.fails in
    inl (at.File c.args.path c.in-Err.fault, refl, (e.0, e.2, (refl, e.1)), Keeps-refl _, untold)
