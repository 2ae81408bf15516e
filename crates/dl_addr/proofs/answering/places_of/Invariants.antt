-- The places of those so far.
use Rattle.std.proofs.Common.{◌≡◌, ◌≤◌, length, map, take, vec_len, vec_capacity}
use Rattle.dl_look.specs.Asked.{looked_up}
use Rattle.dl_addr.proofs.answering.places_of.Given as goal

abbrev pub invariant-loop-each : goal.invariant-loop-each
invariant-loop-each g l = record {
  all : l.places.items ≡ map (looked_up l.base) (take l.each-index l.asked);
  len : vec_len l.places ≡ l.each-index;
  capacity : length l.asked ≤ vec_capacity l.places;
}
