use Rattle.dl_dialogue.proofs.DialogueLemmas.{nothing_said}
use Rattle.dl_dialogue.proofs.dialogue.Dialogue.new.Goals as goal

pub returns : goal.returns
returns c = λ f start printer pending out.
    nothing_said (record { style = c.args.style; base = c.args.base; told = f }) c.args.hex start printer (record {
      answers = c.new.result;
      line = c.new-2.result;
    }) (c.new.ensures f start printer pending out) (record { ended = c.new-2.ensures.ended; stands = c.new-2.ensures.stands })
