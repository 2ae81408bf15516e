use Rattle.std.proofs.Common.{ℕ, Option, take}
use Rattle.dl_addr.specs.Location.{Location}
use Rattle.dl_dialogue.specs.Answers.{Determines}
use Rattle.dl_dialogue.specs.Standing.{Stands}
use Rattle.dl_dialogue.specs.Staying.{Stays}
use Rattle.dl_dialogue.proofs.answers.answer_all.Given as goal

abbrev pub invariant-loop-each : goal.invariant-loop-each
invariant-loop-each g l =
    Stays g.T.Tell.tells g.T.Tell.fails_with g.T.Tell.asks l.initial.teller l.teller
    × ((f : ℕ → Option Location) → Determines (g.T.Tell.tells l.initial.teller) f
    → Stands (record { style = l.style; base = l.base; told = f }) (g.W.Write.contents l.initial.output)
    (g.W.Write.contents l.output) (take l.each-index l.asked) l.printer l.answers)
