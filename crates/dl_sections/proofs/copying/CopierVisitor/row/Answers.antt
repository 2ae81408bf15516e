use Rattle.dl_rows.specs.Items.{a_row}
use Rattle.dl_sections.proofs.Names.{◌++◌, ◌∷◌, [], of_item, refl}
use Rattle.dl_sections.proofs.CopierLemmas.{copies_on, few_and_one, grows_by, stops_for_memory, still}
use Rattle.dl_sections.proofs.copying.CopierVisitor.row.Goals as goal

pub returns-in-Ok-clause-heard : goal.returns-in-Ok-clause-heard
returns-in-Ok-clause-heard g c first start visits s =
    let old = c.args.self.now in
    let new = record old { program = c.push.new.self } in
    let r = c.args.row.now in
    copies_on s new (g.W.Write.contents c.args._output.now) (of_item (a_row c.args._header.now r)) (s.rows ++ r ∷ []) s.text refl refl
    c.push.ensures.order refl (few_and_one s c.push.new.self c.args._header.now r c.push.ensures.rows) (grows_by visits c.args._header.now r old new s.rows refl refl s.grown c.in-Ok.ensures.grown) s.printed

pub returns-in-Err-clause-heard : goal.returns-in-Err-clause-heard
returns-in-Err-clause-heard g c first start visits s =
    let new = record c.args.self.now { program = c.push.new.self } in
    stops_for_memory g.M.Memory.refuses (still s new refl refl c.in-Err.ensures.kept refl refl) (of_item (a_row c.args._header.now c.args.row.now)) _
    s.few c.in-Err.ensures.most
