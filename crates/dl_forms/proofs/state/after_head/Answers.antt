use Rattle.std.proofs.Common.{ℕ, List, sym, subst, ◌∙◌, ◌++◌, ◌↔◌, drop}
use Rattle.std.specs.Option.{option_copied}
use Rattle.dl_forms.specs.Names.{Names}
use Rattle.dl_forms.proofs.WalkLemmas.{ended, in_body, is_named}
use Rattle.dl_forms.proofs.state.after_head.Goals as goal

pub returns-then-is_named : goal.returns-then-is_named
returns-then-is_named c b w is onward rest =
    is_named c.args.reader.now b w is onward (option_copied c.header.result) c.header.ensures
    (sym c.is_named.ensures ∙ c.if-is_named.true) rest

pub returns-in-Some : goal.returns-in-Some
returns-in-Some c b w is onward =
    let dialect = c.args.reader.now.dialect in
    subst (λ (n : ℕ). (rest : List ℕ) → Names dialect (b ++ rest) ↔ Names dialect (drop n rest))
    (sym c.saturating_sub.ensures)
    (in_body c.args.reader.now b w is onward (option_copied c.header.result) c.header.ensures c.in-Some.len
    c.taken.result
    (c.in-Some.ensures.unit w is.stands) (c.in-Some.ensures.within w is.stands) (c.taken.ensures w is.stands)
    (sym c.is_named.ensures ∙ c.if-is_named.false))

pub returns-in-None : goal.returns-in-None
returns-in-None c b w is onward = ended c.args.reader.now b w is onward (c.in-None.ensures.unit w is.stands)
