use Rattle.std.proofs.Common.{ℕ, List, [], ◌∷◌, map}
use Rattle.std.proofs.lemmas.List.{map-append}
use Rattle.dl_look.specs.FindersRows.{Stand}
use Rattle.dl_sections.specs.InMemory.{UnitTold}
use Rattle.dl_buffers.specs.AllCalls.{place_of_address}
use Rattle.dl_buffers.proofs.AllLemmas.{placed_more}
use Rattle.dl_buffers.proofs.gathering.GathererUnitSink.end.Goals as goal

pub returns : goal.returns
returns c first units rows so =
    let unit : UnitTold = record { unit = c.args.unit; rows = rows } in
    let before = map (λ (t : UnitTold). t.rows) units in
    let ended = λ (addresses : List ℕ) (stands : Stand first.finders.now (map place_of_address addresses) [] []).
    c.end_unit.ensures.stand (map place_of_address addresses) before rows
    (so.stand addresses stands) in
    record {
      same_rows = so.same_rows;
      same_units = so.same_units;
      stand = λ addresses stands.
          rw (map-append (λ (t : UnitTold). t.rows) units (unit ∷ [])) (ended addresses stands);
      told = λ addresses stands.
          placed_more addresses units unit c.answered.result.now
          (c.answered.ensures (map place_of_address addresses) before rows [] (ended addresses stands))
          first.rows.now c.args.self.now.rows.now _ first.units.now c.args.self.now.units.now _
          (so.told addresses stands) c.tell.ensures.rows c.tell.ensures.units;
    }
