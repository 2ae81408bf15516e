use Rattle.std.proofs.Common.{◌≡◌, ◌+◌, ◌*◌, arith, sym, subst}
use Rattle.dl_addr.proofs.RoomLemmas.{err_map, refused_within}
use Rattle.dl_lines.specs.Searching.{Judging}
use Rattle.dl_lines.proofs.BestLemmas.{on_ok}
use Rattle.dl_lines.proofs.seeker.LineSeeker.judge_none.Goals as goal

pub returns-clause-judged : goal.returns-clause-judged
returns-clause-judged g c =
    let least = c.requires in
    let some = c.if-first-eq0.false in
    let is : c.args.first ≡ 0 + 1 = omega (arith, least, some) in
    on_ok c.judge.result c.judge.ensures.judged (λ judged wanted exact ended path rows files none j.
    subst (Judging c.judge.new.self.searches.items wanted exact ended path rows files) (sym is)
    (judged wanted exact ended path rows files 0 (none 0 (omega (arith, is))) j))

pub returns-clause-refused : goal.returns-clause-refused
returns-clause-refused g c =
    err_map c.judge.result c.judge.ensures.refused (λ refused wanted exact ended path rows files j.
    refused_within (g.M.Memory.refuses c.args.self.now.memory.now) (files + 2 * 0 + 0 + 1) (files + 1) (omega arith)
    (refused wanted exact ended path rows files 0 j))
