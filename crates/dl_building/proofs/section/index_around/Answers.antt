use Rattle.std.proofs.Common.{ℕ, Some, Ok, Err, refl, subst}
use Rattle.dl_making.specs.Makes.{MakesAround}
use Rattle.dl_sections.specs.Commands.{strings_in}
use Rattle.dl_building.proofs.section.index_around.Goals as goal

pub returns-in-Ok : goal.returns-in-Ok
returns-in-Ok g c =
    let read = c.in-Ok.ensures.ran in
    let rest = c.make_index_around.new.input.now in
    let o = c.args.options.now in
    let made = c.in-Ok.made in
    let whole = subst (λ (limit : ℕ). MakesAround (g.M.Memory.refuses c.args.memory.now) o.dialect (strings_in o) c.args.table.now limit read.0 (Some rest) (Ok made)) c.requires read.2 in
    (read.0, Some rest, read.1, (made, whole, refl, refl))

pub returns-in-Err : goal.returns-in-Err
returns-in-Err g c =
    let read = c.in-Err.ensures.ran in
    let rest = c.make_index_around.new.input.now in
    let o = c.args.options.now in
    let fault = c.in-Err.fault in
    let whole = subst (λ (limit : ℕ). MakesAround (g.M.Memory.refuses c.args.memory.now) o.dialect (strings_in o) c.args.table.now limit read.0 (Some rest) (Err fault)) c.requires read.2 in
    (read.0, Some rest, read.1, whole)
