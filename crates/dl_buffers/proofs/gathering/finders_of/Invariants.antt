-- The places of the addresses so far.
use Rattle.std.proofs.Common.{◌≡◌, ◌≤◌, length, map, take, vec_len, vec_capacity}
use Rattle.dl_buffers.specs.AllCalls.{place_of_address}
use Rattle.dl_buffers.proofs.gathering.finders_of.Given as goal

abbrev pub invariant-loop-address : goal.invariant-loop-address
invariant-loop-address g l = record {
  all : l.places.items ≡ map place_of_address (take l.address-index l.addresses);
  len : vec_len l.places ≡ l.address-index;
  capacity : length l.addresses ≤ vec_capacity l.places;
}
