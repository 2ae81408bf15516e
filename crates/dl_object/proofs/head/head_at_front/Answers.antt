use Rattle.std.proofs.Common.{◌≡◌, ℕ, List, [], Option, take, ◌∙◌, sym, ap, subst}
use Rattle.dl_head.specs.declared.dialect.Dialect.{Dialect}
use Rattle.dl_head.specs.Header.{unit_len}
use Rattle.dl_head.specs.Reading.{Gives}
use Rattle.dl_head.specs.Runs.{Offered}
use Rattle.dl_head.specs.Standing.{StandsFor}
use Rattle.dl_rows.proofs.ReaderFeeds.{nothing_yet}
use Rattle.dl_object.proofs.HeadLemmas.{none_more, adds_cell, none_known, kind_is}
use Rattle.dl_object.proofs.head.head_at_front.Goals as goal
use Rattle.dl_object.proofs.head.head_at_front.Goals.{After-offer-len}

offered : (c : After-offer-len)
    → Offered c.args.dialect [] c.args.bytes.now c.offer-len.result.0 c.offer-len.result.1 c.offer-len.new.self
offered c =
    subst (λ (d : Dialect). Offered d [] c.args.bytes.now c.offer-len.result.0 c.offer-len.result.1
    c.offer-len.new.self)
    c.new-reader.ensures.dialect
    (c.offer-len.ensures.offered [] c.new-reader.ensures.stands (nothing_yet c.new-reader.result.dialect))

pub returns-in-More-clause-head : goal.returns-in-More-clause-head
returns-in-More-clause-head c =
    let o = offered (goal.at.returns-in-More-clause-head c).After-offer-len in
    none_more c.args.dialect c.args.bytes.now c.offer-len.result.0 c.offer-len.result.1 o.answered.took c.in-More.is
    (o.answered.whole c.in-More.is)

pub returns-in-NoMemory-clause-memory : goal.returns-in-NoMemory-clause-memory
returns-in-NoMemory-clause-memory c =
    let o = offered (goal.at.returns-in-NoMemory-clause-memory c).After-offer-len in
    adds_cell c.args.dialect c.args.bytes.now c.offer-len.result.0 c.offer-len.result.1 o.answered.took c.in-NoMemory.is

-- what the reader says of the unit's length is that of the bytes it took
length_is : (c : After-offer-len) → (said : Option ℕ)
    → ((b : List ℕ) → StandsFor c.offer-len.new.self b → said ≡ unit_len c.offer-len.new.self.dialect b)
    → said ≡ unit_len c.args.dialect (take c.offer-len.result.0 c.args.bytes.now)
length_is c said unit =
    let w = take c.offer-len.result.0 c.args.bytes.now in
    unit w (offered c).stands
    ∙ ap (λ (r : Dialect). unit_len r w) (c.offer-len.ensures.dialect ∙ c.new-reader.ensures.dialect)

pub returns-in_default-clause-head : goal.returns-in_default-clause-head
returns-in_default-clause-head c =
    let after = (goal.at.returns-in_default-clause-head c).After-offer-len in
    none_known c.args.dialect c.args.bytes.now c.offer-len.result.0 c.offer-len.result.1 (offered after).answered.took
    c.in-Done.is (sym (length_is after c.unit_len.result c.unit_len.ensures.unit) ∙ c.in_default.is)

pub returns-clause-head : goal.returns-clause-head
returns-clause-head c =
    let after = (goal.at.returns-clause-head c).After-offer-len in
    let o = offered after in
    record {
      kind = kind_is c.args.dialect c.args.bytes.now c.offer-len.result.0 c.offer-len.result.1 o.answered.took
          c.offer-len.new.self o.stands c.into_header-header.result
          (subst (λ (r : Dialect). Gives r c.offer-len.new.self c.into_header-header.result)
          (c.offer-len.ensures.dialect ∙ c.new-reader.ensures.dialect) c.into_header-header.ensures)
          c.in-Done.is;
      len = c.in-Some.unit_len;
      told = sym (length_is after c.unit_len.result c.unit_len.ensures.unit) ∙ c.in-Some.is;
      unit = c.min-unit_len.ensures;
    }
