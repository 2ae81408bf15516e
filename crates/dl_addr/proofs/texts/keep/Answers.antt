use Rattle.dl_addr.proofs.TextLemmas.{kept_at, last_seen}
use Rattle.dl_addr.proofs.texts.keep.Goals as goal

pub returns-then-answer-len-clause-seen : goal.returns-then-answer-len-clause-seen
returns-then-answer-len-clause-seen g c are =
    last_seen c.args.unit.now c.number_of.new.numbers c.number_of.new.paths c.args.answer.now.row.file
    c.in_ok-number.number (c.in_ok-number.ensures.right are) (c.in_ok-number.ensures.seen are)

pub returns-then-answer-len-clause-right : goal.returns-then-answer-len-clause-right
returns-then-answer-len-clause-right g c are within =
    kept_at c.number_of.new.paths c.args.kept.now.items c.args.answer.now.number c.in_ok-number.number _ within
    (c.in_ok-number.ensures.right are)

pub returns-else-answer-len-clause-seen : goal.returns-else-answer-len-clause-seen
returns-else-answer-len-clause-seen g c are =
    last_seen c.args.unit.now c.number_of.new.numbers c.number_of.new.paths c.args.answer.now.row.file
    c.in_ok-number.number (c.in_ok-number.ensures.right are) (c.in_ok-number.ensures.seen are)

pub returns-then-answer-len-clause-few : goal.returns-then-answer-len-clause-few
returns-then-answer-len-clause-few g c count few =
    let k = c.in_ok-number.ensures.few count few in
    record { few = k.few; files = k.files; directories = k.directories }

pub returns-else-answer-len-clause-few : goal.returns-else-answer-len-clause-few
returns-else-answer-len-clause-few g c count few =
    let k = c.in_ok-number.ensures.few count few in
    record { few = k.few; files = k.files; directories = k.directories }
