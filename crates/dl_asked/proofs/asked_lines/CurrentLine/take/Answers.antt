use Rattle.std.proofs.Common.{ap, rules, refl}
use Rattle.dl_asked.specs.AskedLines.{is_end}
use Rattle.dl_asked.proofs.LineLemmas.{byte_taken, line_taken}
use Rattle.dl_asked.proofs.asked_lines.CurrentLine.take.Goals as goal

pub returns-then-byte-ne10 : goal.returns-then-byte-ne10
returns-then-byte-ne10 c = λ hex done asked r.
    byte_taken hex done c.args.byte asked c.args.self.now _ r (let e = c.if-byte-ne10.true in search rules) refl
    c.after-self.ensures refl c.take.ensures refl

pub returns : goal.returns
returns c = λ hex done asked r.
    line_taken hex done c.args.byte asked c.asked-asked.result c.args.self.now c.note.new.self _ r
    (ap is_end c.if-byte-ne10.false) c.asked-asked.ensures c.note.ensures refl c.new-self.ensures refl c.clear.ensures
    refl
