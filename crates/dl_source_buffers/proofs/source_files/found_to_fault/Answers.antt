use Rattle.std.proofs.Common.{ℕ, Some, arith, refl, subst}
use Rattle.dl_sources.specs.FoundSources.{FindsSources}
use Rattle.dl_sections.specs.Commands.{strings_in}
use Rattle.dl_source_buffers.proofs.source_files.found_to_fault.Goals as goal

pub returns : goal.returns
returns g c =
    let read = c.find_sources-found.ensures.ran in
    let rest = c.find_sources-found.new.input.now in
    let o = c.args.options.now in
    let found = c.find_sources-found.result in
    let whole = subst (λ (limit : ℕ). FindsSources (g.M.Memory.refuses c.args.memory.now) o.dialect (strings_in o) c.args.question.now limit read.0 (Some rest) found) c.requires read.2 in (
      read.0,
      Some rest,
      read.1,
      (
        found,
        whole,
        (λ is.
            let told = (c.find_sources-found.ensures.blames c.find_sources-found.new.input (0, refl)).1 is in
            omega (arith, told.1.1, told.1.2)),
        refl,
        c.end_of-end.ensures,
      ),
    )
