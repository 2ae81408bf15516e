use Rattle.std.proofs.Common.{◌≡◌, ℕ, List, [], ◌∷◌, take, slice_index_or, sym, subst}
use Rattle.std.proofs.lemmas.List.{take_more}
use Rattle.dl_field.specs.TableMoves.{BytesFollow}
use Rattle.dl_field.proofs.SameTables.{follows_same}
use Rattle.dl_field.proofs.table_reader.TableReader.push_front.Goals as goal

pub returns-in-None-clause-follows : goal.returns-in-None-clause-follows
returns-in-None-clause-follows c =
    let old = c.args.self.now in
    let bytes = c.args.bytes.now in
    let first : take 1 bytes ≡ slice_index_or bytes 0 0 ∷ [] = take_more bytes 0 0 c.requires in
    follows_same c.args.order c.args.format old c.value_front.new.self c.push.new.self (take 1 bytes) c.push.result
    c.in-None.ensures
    (subst (λ (l : List ℕ). BytesFollow c.args.order c.args.format c.value_front.new.self l c.push.result
    c.push.new.self) (sym first) c.push.ensures.follows)
