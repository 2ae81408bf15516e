use Rattle.dl_sections.proofs.Names.{[], arith, of_header, refl}
use Rattle.dl_sections.proofs.CopierLemmas.{copies_on, grows_from, none_yet}
use Rattle.dl_sections.proofs.copying.CopierVisitor.header.Goals as goal

pub returns-clause-heard : goal.returns-clause-heard
returns-clause-heard g c first start visits s =
    let new = record c.args.self.now { unit = c.args.offset; program = c.begin.new.program } in
    let grown = c.begin.ensures c.args.offset in
    let none = none_yet c.begin.new.program _ _ grown in
    let h = c.args.header.now in
    copies_on s new (g.W.Write.contents c.args._output.now) (of_header c.args.offset c.args._lengths h) [] s.text refl refl grown.order_is
    refl (omega (arith, none)) (grows_from visits c.args.offset c.args._lengths h new _ grown) s.printed
