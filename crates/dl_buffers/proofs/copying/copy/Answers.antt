use Rattle.std.proofs.Common.{◌≡◌, Err, refl, rules, subst}
use Rattle.dl_buffers.specs.Calls.{dialect_of}
use Rattle.dl_buffers.specs.CopyCalls.{Runs}
use Rattle.dl_sections.specs.declared.fault.RunFault.TheVariants.{ForeignUnit}
use Rattle.dl_buffers.proofs.copying.copy.Goals as goal

pub returns-in-Err-ForeignUnit : goal.returns-in-Err-ForeignUnit
returns-in-Err-ForeignUnit g c =
    let refuses = g.M.Memory.refuses c.args.memory.now in
    let copied = c.copy_in_memory-copied.ensures.copied in
    let offset = c.in-Err-ForeignUnit.field-0-0 in
    let is : c.copy_in_memory-copied.result.end ≡ Err (ForeignUnit offset) = search rules in (
      copied.0,
      offset,
      subst (λ end. Runs refuses (dialect_of c.args.how) c.args.section.now copied.0 end) is copied.1,
      refl,
      refl,
      refl,
    )
