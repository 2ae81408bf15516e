use Rattle.std.proofs.Common.{ℕ, ◌≤◌, List, length, Option}
use Rattle.std.specs.Io.KnownBytes.{Consumes}
use Rattle.dl_input.specs.Failing.{Became}
use Rattle.dl_addr.specs.Location.{Location}
use Rattle.dl_dialogue.specs.Answers.{Determines}
use Rattle.dl_dialogue.specs.Dialogues.{Talks}
use Rattle.dl_dialogue.specs.Staying.{Stays}
use Rattle.dl_dialogue.proofs.dialogue.answer_lines.Given as goal

abbrev pub invariant-loop : goal.invariant-loop
invariant-loop g l =
    (bs : List ℕ) × Consumes (g.R.Read.remaining l.initial.input) (g.R.Read.remaining l.input) bs
    × Stays g.T.Tell.tells g.T.Tell.fails_with g.T.Tell.asks l.initial.teller l.teller
    × ((f : ℕ → Option Location) → Determines (g.T.Tell.tells l.initial.teller) f
    → Talks (record { style = l.style; base = l.base; told = f }) l.hex (g.W.Write.contents l.initial.output)
    (g.W.Write.contents l.output) bs l.printer l.dialogue)
    × (l.counter ≤ length bs)
    × ((first : _) → Became g.R.Source.follows first l.initial.input → Became g.R.Source.follows first l.input)
