use Rattle.std.proofs.Common.{[], ◌++◌, ◌∷◌, ap, ◌∙◌, sym}
use Rattle.dl_buffers.proofs.RoomLemmas.{over_none}
use Rattle.dl_buffers.specs.UnitCalls.{written_over}
use Rattle.dl_source_buffers.specs.declared.line_places.PlaceRecord.{PlaceRecord}
use Rattle.dl_source_buffers.proofs.PlaceLemmas.{records_count, records_more, records_upto}
use Rattle.dl_source_buffers.proofs.line_places.put_places.Goals as goal

pub loop-number-init : goal.loop-number-init
loop-number-init c = record { room = over_none c.args.room.now }

pub loop-number-preserved : goal.loop-number-preserved
loop-number-preserved c =
    let l = c.loop-number in
    let places = c.args.places.now in
    let lt = c.loop-number-test.true in
    let before = records_upto l.number places in
    record {
      room = c.put.ensures c.args.room.now before l.invariant.room (records_count places l.number lt)
          ∙ ap (λ (x : PlaceRecord). written_over c.args.room.now (before ++ x ∷ [])) c.of.ensures
          ∙ ap (written_over c.args.room.now) (sym (records_more places l.number _ lt));
    }
