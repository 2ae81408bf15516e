use Rattle.std.proofs.Common.{refl, ap, [], ◌∷◌, ◌++◌, List}
use Rattle.dl_sections.specs.InMemory.{UnitTold}
use Rattle.dl_buffers.proofs.unit.FirstUnitUnitSink.end.Goals as goal

pub returns : goal.returns
returns c first units rows hears none =
    let unit : UnitTold = record { unit = c.args.unit; rows = rows } in
    (unit, ap (λ (l : List UnitTold). l ++ unit ∷ []) (hears none).0, refl)
