use Rattle.dl_index.proofs.SearchLemmas.{four_by_width}
use Rattle.dl_index.proofs.numbers.Numbers.last_upto_four.Goals as goal

pub returns-in-One : goal.returns-in-One
returns-in-One c = four_by_width _ _ _ _ _ _ c.in-One.is c.last_upto_four.ensures.last

pub returns-in-Two : goal.returns-in-Two
returns-in-Two c = four_by_width _ _ _ _ _ _ c.in-Two.is c.last_upto_four-in-Two.ensures.last

pub returns-in-Four : goal.returns-in-Four
returns-in-Four c = four_by_width _ _ _ _ _ _ c.in-Four.is c.last_upto_four-in-Four.ensures.last

pub returns-in-Eight : goal.returns-in-Eight
returns-in-Eight c = four_by_width _ _ _ _ _ _ c.in-Eight.is c.last_upto_four-in-Eight.ensures.last
