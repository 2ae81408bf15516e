use Rattle.std.proofs.Common.{refl, ap, ◌∷◌, ◌++◌, [], List}
use Rattle.dl_sections.specs.InMemory.{UnitTold}
use Rattle.dl_buffers.proofs.listing.RowRoomUnitSink.end.Goals as goal

pub returns : goal.returns
returns c first units rows (none, going, heard) =
    let unit : UnitTold = record { unit = c.args._unit; rows = rows } in (
      unit,
      ap (λ (l : List UnitTold). l ++ unit ∷ []) none,
      refl,
      record { same = heard.same; kept = heard.kept; count = heard.count },
    )
