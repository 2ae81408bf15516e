use Rattle.std.proofs.Common.{◌++◌, [], refl}
use Rattle.std.specs.Prelude.{option_to_list}
use Rattle.std.proofs.lemmas.Result.{err_from_is_err_and}
use Rattle.dl_rows.specs.Items.{an_operation}
use Rattle.dl_sections.specs.Section.{of_item}
use Rattle.dl_lint.specs.Findings.{findings_at}
use Rattle.dl_lint.specs.OperationRules.{long_number_at, unknown_opcode_at, wrapped_address_at}
use Rattle.dl_lint.proofs.TellLemmas.{lost, more_told, none_yet, told_last}
use Rattle.dl_lint.proofs.report.Report.tell_operation.Goals as goal

pub returns-in_err-tell_any-clause-told : goal.returns-in_err-tell_any-clause-told
returns-in_err-tell_any-clause-told g c s visits is knows moves =
    let e = err_from_is_err_and c.from_residual.result c.from_residual.ensures.1 in
    let h = c.args.header.now in
    let o = c.args.operation in
    let v = of_item (an_operation h o) in
    let f0 = none_yet (g.W.Write.contents c.args.output.now) c.args.self.now (findings_at s c.args.self.now.question.now visits v) in
    rw (e.1, e.2) (lost f0 (long_number_at visits v)
    (wrapped_address_at visits v ++ (unknown_opcode_at visits v ++ [])) refl (g.W.Write.contents c.tell_any.new.output)
    c.tell_any.new.self (option_to_list c.long_number.result) (c.long_number.ensures visits h o is knows) _
    c.in_err-tell_any.ensures.told)

pub returns-in_err-tell_any-2-clause-told : goal.returns-in_err-tell_any-2-clause-told
returns-in_err-tell_any-2-clause-told g c s visits is knows moves =
    let e = err_from_is_err_and c.from_residual-in_err-tell_any-2.result c.from_residual-in_err-tell_any-2.ensures.1 in
    let h = c.args.header.now in
    let o = c.args.operation in
    let v = of_item (an_operation h o) in
    let f0 = none_yet (g.W.Write.contents c.args.output.now) c.args.self.now (findings_at s c.args.self.now.question.now visits v) in
    let f1 = more_told f0 (long_number_at visits v) (wrapped_address_at visits v ++ (unknown_opcode_at visits v ++ [])) refl
    (g.W.Write.contents c.tell_any.new.output) c.tell_any.new.self (option_to_list c.long_number.result)
    (c.long_number.ensures visits h o is knows) c.in_ok-tell_any.ensures.told in
    rw (e.1, e.2) (lost f1 (wrapped_address_at visits v) (unknown_opcode_at visits v ++ []) refl
    (g.W.Write.contents c.tell_any-2.new.output) c.tell_any-2.new.self (option_to_list c.wrapped_address.result)
    (c.wrapped_address.ensures visits is knows moves) _ c.in_err-tell_any-2.ensures.told)

pub returns-clause-told : goal.returns-clause-told
returns-clause-told g c s visits is knows moves =
    let h = c.args.header.now in
    let o = c.args.operation in
    let v = of_item (an_operation h o) in
    let f0 = none_yet (g.W.Write.contents c.args.output.now) c.args.self.now (findings_at s c.args.self.now.question.now visits v) in
    let f1 = more_told f0 (long_number_at visits v) (wrapped_address_at visits v ++ (unknown_opcode_at visits v ++ [])) refl
    (g.W.Write.contents c.tell_any.new.output) c.tell_any.new.self (option_to_list c.long_number.result)
    (c.long_number.ensures visits h o is knows) c.in_ok-tell_any.ensures.told in
    let f2 = more_told f1 (wrapped_address_at visits v) (unknown_opcode_at visits v ++ []) refl
    (g.W.Write.contents c.tell_any-2.new.output) c.tell_any-2.new.self (option_to_list c.wrapped_address.result)
    (c.wrapped_address.ensures visits is knows moves) c.in_ok-tell_any-2.ensures.told in
    told_last f2 (unknown_opcode_at visits v) [] refl (g.W.Write.contents c.tell_any-3.new.output) c.tell_any-3.new.self
    (option_to_list c.unknown_opcode.result) (c.unknown_opcode.ensures visits is knows) refl c.tell_any-3.result
    c.tell_any-3.ensures.told
