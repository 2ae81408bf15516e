use Rattle.std.proofs.Common.{ap, subst, ◌∙◌, ◌++◌, []}
use Rattle.dl_asked.specs.AskedLines.{and_asked}
use Rattle.dl_asked.specs.LinesRead.{Notes}
use Rattle.dl_asked.proofs.LineLemmas.{end_asked, end_numbered}
use Rattle.dl_asked.proofs.asked_lines.CurrentLine.end.Goals as goal

pub returns-clause-asked : goal.returns-clause-asked
returns-clause-asked c = λ hex done asked r.
    ap (λ a. asked ++ and_asked a []) c.asked_at_end-asked.ensures ∙ end_asked hex done asked c.args.self r

pub returns-clause-no_address : goal.returns-clause-no_address
returns-clause-no_address c = λ hex done asked r few.
    end_numbered hex done c.go_on.new.self asked c.args.self c.note.new.self r c.go_on.ensures
    (subst (λ a. Notes a (record c.args.self { word = c.go_on.new.self }) c.note.new.self)
    c.asked_at_end-asked.ensures c.note.ensures) few
