use Rattle.std.proofs.Common.{sym}
use Rattle.dl_head.proofs.AdvanceLemmas.{steps_one}
use Rattle.dl_head.proofs.OneByteMore.{ended_other, ended_step, live_of}
use Rattle.dl_head.proofs.TakenBytes.{live_more}
use Rattle.dl_head.proofs.reader.HeadReader.step.Goals as goal

pub returns-in-Some-clause-steps : goal.returns-in-Some-clause-steps
returns-in-Some-clause-steps c b s =
    let old = c.args.self.now in
    let is = sym c.in-Some.ensures in
    ended_step old b c.args.byte c.in-Some.last is (ended_other old b c.in-Some.last is s) s

pub returns-in-None-clause-steps : goal.returns-in-None-clause-steps
returns-in-None-clause-steps c b s =
    let old = c.args.self.now in
    let goes = sym c.in-None.ensures in
    let live = live_of old b goes s in
    steps_one old c.advance.new.self b c.args.byte c.advance.result.0 c.advance.result.1 goes live.0
    (c.advance.ensures.advances b s (live_more old b goes live.0)) c.advance.ensures.some
