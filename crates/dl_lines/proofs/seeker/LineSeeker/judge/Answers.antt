use Rattle.std.specs.Option.{option_copied}
use Rattle.dl_addr.proofs.RoomLemmas.{err_map}
use Rattle.dl_lines.proofs.BestLemmas.{on_ok}
use Rattle.dl_lines.proofs.JudgeLemmas.{judged_all, judging_few}
use Rattle.dl_lines.proofs.seeker.LineSeeker.judge.Goals as goal

pub returns-clause-judged : goal.returns-clause-judged
returns-clause-judged g c =
    on_ok c.judge_each.result c.judge_each.ensures.judged (λ all wanted exact ended paths rows files count is j.
    judged_all c.args.self.now.searches.items c.judge_each.new.searches.items wanted exact ended paths rows files count
    (option_copied c.args.path) is all j)

pub returns-clause-refused : goal.returns-clause-refused
returns-clause-refused g c =
    err_map c.judge_each.result c.judge_each.ensures.refused (λ refused wanted exact ended paths rows files count j.
    refused _ (judging_few c.args.self.now.searches.items wanted exact ended paths rows files count (option_copied c.args.path) j))
