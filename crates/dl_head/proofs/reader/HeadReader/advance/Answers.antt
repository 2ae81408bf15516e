use Rattle.dl_head.proofs.AdvanceLemmas.{within_advances, ends_advances, refuses_advances, unfed_advances}
use Rattle.dl_head.proofs.reader.HeadReader.advance.Goals as goal

pub returns-in-NoMemory-clause-advances : goal.returns-in-NoMemory-clause-advances
returns-in-NoMemory-clause-advances c b s more =
    unfed_advances c.up_to_end.ensures c.push-used.ensures.pushed s more c.in-NoMemory.is
    (c.push-used.ensures.refused c.in-NoMemory.is)

pub returns-in-Within-clause-advances : goal.returns-in-Within-clause-advances
returns-in-Within-clause-advances c b s more =
    within_advances c.up_to_end.ensures c.push-used.ensures.pushed s more _ c.saturating_add-self.result c.settle.result
    c.settle.new.self c.in-Within.is
    c.saturating_add-self.ensures c.settle.ensures.settles

pub returns-in-Ends-clause-advances : goal.returns-in-Ends-clause-advances
returns-in-Ends-clause-advances c b s more =
    ends_advances c.up_to_end.ensures c.push-used.ensures.pushed s more _ c.saturating_add-self-in-Ends.result
    c.settle-in-Ends.result c.settle-in-Ends.new.self c.in-Ends.is
    c.saturating_add-self-in-Ends.ensures c.settle-in-Ends.ensures.settles

pub returns-in-Refuses-clause-advances : goal.returns-in-Refuses-clause-advances
returns-in-Refuses-clause-advances c b s more =
    refuses_advances c.up_to_end.ensures c.push-used.ensures.pushed s more _ c.saturating_add-self-in-Refuses.result
    c.in-Refuses.kind c.fail.result c.fail.new.self c.in-Refuses.is
    c.saturating_add-self-in-Refuses.ensures c.fail.ensures
