use Rattle.std.proofs.Common.{arith, sym, ap, ◌∙◌}
use Rattle.dl_addr.proofs.RoomLemmas.{err_map, refused_within}
use Rattle.dl_lines.specs.Searching.{option_len}
use Rattle.dl_lines.proofs.BestLemmas.{on_ok}
use Rattle.dl_lines.proofs.seeker.LineSeeker.judge_file.Goals as goal

pub returns-clause-judged : goal.returns-clause-judged
returns-clause-judged g c =
    on_ok c.judge.result c.judge.ensures.judged (λ judged wanted exact ended paths rows files is j.
    judged wanted exact ended paths rows files c.args.file (is ∙ sym c.in_ok-path.ensures.path ∙ sym c.slice_of.ensures) j)

pub returns-clause-refused : goal.returns-clause-refused
returns-clause-refused g c =
    err_map c.judge.result c.judge.ensures.refused (λ refused wanted exact ended paths rows files j.
    refused_within (g.M.Memory.refuses c.args.self.now.memory.now) _ _
    (omega (arith, c.in_ok-path.ensures.within, ap option_len c.slice_of.ensures))
    (refused wanted exact ended paths rows files c.args.file j))
