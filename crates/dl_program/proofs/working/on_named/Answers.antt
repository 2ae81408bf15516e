use Rattle.std.proofs.Common.{◌∙◌, inl, inr, refl}
use Rattle.dl_open.specs.declared.stop.FileStop.TheVariants as at
use Rattle.dl_program.specs.Shown.{wants_directories}
use Rattle.dl_program.proofs.WorkLemmas.{opened_weaker}
use Rattle.dl_program.proofs.working.on_named.Goals as goal

pub returns-in-Ok-clause-ran : goal.returns-in-Ok-clause-ran
returns-in-Ok-clause-ran g c untold f known short =
    inr (opened_weaker (g.M.Memory.refuses c.args.memory.now) _ c.args.path.now _ c.args.command f _ _ (wants_directories c.args.command) _ _ _ _
    c.in-Ok.ensures.reads (c.on_opened.ensures.ran untold f (c.in-Ok.ensures.bytes ∙ known) short))

pub returns-in-Err-clause-ran : goal.returns-in-Err-clause-ran
returns-in-Err-clause-ran g c untold f known short =
    let e = c.in-Err.ensures.fails in
    inl (at.File c.args.path c.in-Err.fault, refl, (e.0, e.2, (refl, e.1)), c.without_table.ensures, untold)
