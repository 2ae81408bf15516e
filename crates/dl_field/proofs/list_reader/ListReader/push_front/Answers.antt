use Rattle.std.proofs.Common.{◌≡◌, ℕ, List, [], ◌∷◌, take, slice_index_or, sym, subst}
use Rattle.std.proofs.lemmas.List.{take_more}
use Rattle.dl_field.specs.ListPlace.{ListTakes}
use Rattle.dl_field.proofs.SameLists.{takes_same}
use Rattle.dl_field.proofs.list_reader.ListReader.push_front.Goals as goal

pub returns-in-None-clause-takes : goal.returns-in-None-clause-takes
returns-in-None-clause-takes c =
    let old = c.args.self.now in
    let bytes = c.args.bytes.now in
    let first : take 1 bytes ≡ slice_index_or bytes 0 0 ∷ [] = take_more bytes 0 0 c.requires in
    takes_same old c.whole_value.new.self c.push.new.self (take 1 bytes) c.push.result c.in-None.ensures
    (subst (λ (l : List ℕ). ListTakes c.whole_value.new.self l c.push.result c.push.new.self) (sym first)
    (record { made = c.push.ensures.made; cells = c.push.ensures.cells }))
