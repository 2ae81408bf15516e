use Rattle.std.proofs.Common.{◌++◌, ◌∷◌, [], ◌∙◌, Bool, ℕ, refl, sym, ap}
use Rattle.std.proofs.lemmas.Result.{err_from_is_err_and}
use Rattle.std.specs.Prelude.{Ok, ⊤, if◌then◌else◌}
use Rattle.dl_field.specs.declared.params.Params.{Params}
use Rattle.dl_path.proofs.PrintLemmas.{loses_same, prints_same}
use Rattle.dl_rows.specs.Items.{an_operation}
use Rattle.dl_sections.specs.Section.{of_item}
use Rattle.dl_dump.specs.declared.reached.Opcode.TheVariants as opcode
use Rattle.dl_dump.specs.declared.reached.Reached.{Reached}
use Rattle.dl_dump.specs.OperationText.{operation_end}
use Rattle.dl_dump.specs.Reached.{op_index_with, with_operation}
use Rattle.dl_dump.proofs.ShowingLemmas.{loses_one, shows_nothing, shows_one}
use Rattle.dl_dump.proofs.dumping.DumperVisitor.operation.Goals as goal

abbrev moved : Reached → ℕ → Reached
moved at i = record at { opcode = opcode.Unread; op_index = i }

pub returns-then-not-self-clause-heard : goal.returns-then-not-self-clause-heard
returns-then-not-self-clause-heard g c first start visits showed =
    let at = c.args.self.now.at in
    let h = c.args.header.now in
    let o = c.args.operation in
    shows_nothing showed (of_item (an_operation h o) ∷ [])
    (ap (λ (is : Bool). (if is then operation_end h.params at o else []) ++ []) c.if-not-self.true) refl
    (sym (ap (λ (is : Bool). if is then with_operation h.params at o else at) c.if-not-self.true))

pub returns-in_err-print_operation-clause-heard : goal.returns-in_err-print_operation-clause-heard
returns-in_err-print_operation-clause-heard g c first start visits showed =
    let e = err_from_is_err_and c.from_residual.result c.from_residual.ensures.1 in
    let at = c.args.self.now.at in
    let h = c.args.header.now in
    let o = c.args.operation in
    let old = g.W.Write.contents c.args.output.now in
    let new = g.W.Write.contents c.print_operation.new.output in
    rw (e.1, e.2) (loses_one showed
    (record c.args.self.now { printer = record c.args.self.now.printer { now = c.print_operation.new.printer } }) new
    (of_item (an_operation h o)) _
    (loses_same old new c.args.self.now.printer.now (operation_end h.params at o)
    (if c.args.self.now.details.now.operations then operation_end h.params at o else []) _
    (sym (ap (λ (is : Bool). if is then operation_end h.params at o else []) c.if-not-self.false))
    c.in_err-print_operation.ensures.printed))

pub returns-clause-heard : goal.returns-clause-heard
returns-clause-heard g c first start visits showed =
    let at = c.args.self.now.at in
    let h = c.args.header.now in
    let o = c.args.operation in
    let old = g.W.Write.contents c.args.output.now in
    let new = g.W.Write.contents c.print_operation.new.output in
    shows_one showed _ new (of_item (an_operation h o))
    (prints_same {A = ⊤} old new c.args.self.now.printer.now c.print_operation.new.printer (operation_end h.params at o)
    (if c.args.self.now.details.now.operations then operation_end h.params at o else []) (Ok tt)
    (sym (ap (λ (is : Bool). if is then operation_end h.params at o else []) c.if-not-self.false))
    c.in_ok-print_operation.ensures.printed) refl refl refl
    (ap (λ (i : ℕ). moved at i)
    (c.op_index_with-self.ensures ∙ ap (λ (p : Params). op_index_with p at.op_index o) c.params.ensures.value)
    ∙ sym (ap (λ (is : Bool). if is then with_operation h.params at o else at) c.if-not-self.false))
