use Rattle.dl_sections.proofs.Names.{◌∙◌, [], ap, arith, err_from_is_err_and, None, of_end, refl, Some}
use Rattle.dl_sections.proofs.CopierLemmas.{copies_on, copies_unit, few_still, grows_no_more, stops_at_unit, stops_for_memory}
use Rattle.dl_sections.proofs.copying.CopierVisitor.end.Goals as goal

pub returns-in_default-clause-heard : goal.returns-in_default-clause-heard
returns-in_default-clause-heard g c first start visits s told =
    let old = c.args.self.now in
    rw c.in_default.is (copies_on s old (g.W.Write.contents c.args.output.now) (of_end None) [] s.text refl refl refl refl
    (few_still s old.program (of_end None) refl) (grows_no_more visits None old) s.printed)

pub returns-in_default-make-clause-heard : goal.returns-in_default-make-clause-heard
returns-in_default-make-clause-heard g c first start visits s told = rw c.in-Some.is (stops_for_memory
    g.M.Memory.refuses s (of_end (Some c.in-Some.header)) 0 (omega arith) c.in_default-make.ensures.tables)

pub returns-in_err-write-clause-heard : goal.returns-in_err-write-clause-heard
returns-in_err-write-clause-heard g c first start visits s told =
    let p = err_from_is_err_and c.from_residual.result c.from_residual.ensures.1 in
    let own = c.in-Some in
    let std = c.in-Ok in
    let ensures = c.in_err-write.ensures in
    let grown = rw (← std.ensures.value) at (s.grown own.header (told ∙ own.is)) in
    rw (p.1, p.2, own.is) (stops_at_unit s own.header std.made std.ensures.value c.write.new.self
    (g.W.Write.contents c.write.new.output) (ap (λ m. m.now) ensures.memory) ensures.becomes ensures.program ensures.unit
    g.M.Memory.refuses _
    (ensures.printed s.rows grown))

pub returns-clause-heard : goal.returns-clause-heard
returns-clause-heard g c first start visits s told =
    let own = c.in-Some in
    let std = c.in-Ok in
    let ensures = c.in_ok-write.ensures in
    let grown = rw (← std.ensures.value) at (s.grown own.header (told ∙ own.is)) in
    rw own.is (copies_unit s own.header std.made std.ensures.value c.write.new.self (g.W.Write.contents c.write.new.output)
    (ap (λ m. m.now) ensures.memory) ensures.becomes ensures.program ensures.unit (ensures.printed s.rows grown))
