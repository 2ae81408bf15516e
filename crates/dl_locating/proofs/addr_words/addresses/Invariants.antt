-- The words so far are addresses, and these are asked for.
use Rattle.std.proofs.Common.{◌≡◌, map, take, true, None}
use Rattle.std.specs.Prelude.{is_some}
use Rattle.std.specs.List.{list_all}
use Rattle.dl_cmd.specs.Address.{address_by}
use Rattle.dl_locating.specs.Locate.{first_other}
use Rattle.dl_locating.proofs.addr_words.addresses.Given as goal

abbrev pub invariant-loop-word : goal.invariant-loop-word
invariant-loop-word g l = record {
  asked : l.asked.items ≡ map (λ s. record { address = address_by l.hex s.now }) (take l.word-index l.words);
  none : first_other l.hex (map (λ s. s.now) (take l.word-index l.words)) ≡ None;
  understood : list_all (λ s. is_some (address_by l.hex s.now)) (take l.word-index l.words) ≡ true;
}
