use Rattle.dl_forms.proofs.WalkLemmas.{all_taken, ended_some, goes_on, stands_after, wants_cell}
use Rattle.dl_forms.proofs.state.read_head.Goals as goal

pub returns-in-More-clause-stands : goal.returns-in-More-clause-stands
returns-in-More-clause-stands c b u begins onward =
    let offer = c.offer-used in (
      all_taken c.args.reader offer.new.self b u c.args.piece.now offer.result.0 offer.result.1 begins
          (offer.ensures.offered u begins.stands) offer.ensures.dialect onward c.in-More.is c.requires,
      goes_on c.args.reader offer.new.self b u c.args.piece.now offer.result.0 offer.result.1 begins
          (offer.ensures.offered u begins.stands) offer.ensures.dialect onward c.in-More.is,
    )

pub returns-in-Done-clause-stands : goal.returns-in-Done-clause-stands
returns-in-Done-clause-stands c b u begins onward =
    let offer = c.offer-used in (
      ended_some c.args.reader u c.args.piece.now offer.result.0 offer.result.1 begins
          (offer.ensures.progress u begins.stands)
          c.in-Done.is,
      stands_after c.args.reader offer.new.self b u c.args.piece.now offer.result.0 offer.result.1 begins
          (offer.ensures.offered u begins.stands) offer.ensures.dialect onward c.in-Done.is c.after_head.result
          c.after_head.ensures,
    )

pub returns-in-NoMemory-clause-memory : goal.returns-in-NoMemory-clause-memory
returns-in-NoMemory-clause-memory c b u begins onward =
    let offer = c.offer-used in
    wants_cell c.args.reader offer.new.self b u c.args.piece.now offer.result.0 offer.result.1 begins
    (offer.ensures.offered u begins.stands) offer.ensures.dialect onward c.in-NoMemory.is
