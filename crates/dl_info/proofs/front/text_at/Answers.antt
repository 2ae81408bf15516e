use Rattle.std.proofs.Common.{sym, ◌∙◌, ◌+◌}
use Rattle.std.proofs.lemmas.List.{take_rest}
use Rattle.dl_info.proofs.FrontLemmas.{no_text, text_here}
use Rattle.dl_info.proofs.front.text_at.Goals as goal

pub returns-in_default : goal.returns-in_default
returns-in_default c = sym (no_text c.args.bytes.now (sym c.first_zero.ensures.value ∙ c.in_default.is))

pub returns : goal.returns
returns c =
    let found = sym c.first_zero.ensures.value ∙ c.in-Some.is in
    rw (take_rest c.args.bytes.now (c.in-Some.len + 1))
    (sym (text_here c.args.bytes.now c.in-Some.len c.in-Some.ensures.within found))
