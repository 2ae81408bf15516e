use Rattle.std.proofs.Common.{ℕ, Bool, List, ◌++◌, Option, take}
use Rattle.dl_dialogue.specs.Answers.{Determines, Manner}
use Rattle.dl_dialogue.specs.Dialogues.{Talks}
use Rattle.dl_dialogue.specs.Standing.{Speaks}
use Rattle.dl_dialogue.specs.Staying.{Stays}
use Rattle.dl_dialogue.proofs.dialogue.Dialogue.take.Given as goal

abbrev pub invariant-loop-byte : goal.invariant-loop-byte
invariant-loop-byte g l =
    Stays g.T.Tell.tells g.T.Tell.fails_with g.T.Tell.asks l.initial.teller l.teller
    × ((first : g.row.T.Denot) (m : Manner) (hex : Bool) (start : Option (List ℕ)) (done : List ℕ)
    → Stays g.T.Tell.tells g.T.Tell.fails_with g.T.Tell.asks first l.initial.teller → Determines (g.T.Tell.tells first) m.told
    → Talks m hex start (g.W.Write.contents l.initial.output) done l.initial.printer l.initial.self
    → Speaks m hex start (g.W.Write.contents l.output) (done ++ take l.byte-index l.piece) l.printer l.self)
