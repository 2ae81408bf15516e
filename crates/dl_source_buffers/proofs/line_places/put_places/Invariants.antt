-- The places so far stand in the room.
use Rattle.std.proofs.Common.{◌≡◌}
use Rattle.dl_buffers.specs.UnitCalls.{written_over}
use Rattle.dl_source_buffers.proofs.PlaceLemmas.{records_upto}
use Rattle.dl_source_buffers.proofs.line_places.put_places.Given as goal

abbrev pub invariant-loop-number : goal.invariant-loop-number
invariant-loop-number l = record { room : l.room ≡ written_over l.initial.room (records_upto l.number l.places) }
