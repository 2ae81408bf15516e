use Rattle.std.proofs.Common.{◌∙◌}
use Rattle.std.proofs.lemmas.Result.{err_from_is_err_and}
use Rattle.dl_info.specs.Section.{section_of}
use Rattle.dl_info.proofs.KeptLemmas.{attributes_stop, code_stops, head_stops, with_attributes}
use Rattle.dl_info.proofs.entry.entry_at.Goals as goal

pub returns-in_err-head-clause-entry : goal.returns-in_err-head-clause-entry
returns-in_err-head-clause-entry c =
    let p = err_from_is_err_and c.from_residual.result c.from_residual.ensures.1 in
    rw (p.1, p.2) (head_stops c.args.order (section_of c.args.abbreviations.now) c.args.unit.now c.in_err-head.field-0.0
    c.in_err-head.ensures)

pub returns-in_err-code-clause-entry : goal.returns-in_err-code-clause-entry
returns-in_err-code-clause-entry c =
    let p = err_from_is_err_and c.from_residual-in_err-code.result c.from_residual-in_err-code.ensures.1 in
    rw (p.1, p.2) (code_stops c.args.order (section_of c.args.abbreviations.now) c.args.unit.now c.in_ok-head.head
    c.in_ok-head.rest.now c.in_ok-head.ensures c.in_err-code.field-0.0 c.in_err-code.ensures)

pub returns-in_err-attributes-clause-entry : goal.returns-in_err-attributes-clause-entry
returns-in_err-attributes-clause-entry c =
    let p = err_from_is_err_and c.from_residual-in_err-attributes.result c.from_residual-in_err-attributes.ensures.1 in
    rw (p.1, p.2) (attributes_stop c.args.order (section_of c.args.abbreviations.now) c.args.unit.now c.in_ok-head.head
    c.in_ok-head.rest.now c.in_ok-head.ensures c.in_ok-code.code c.in_ok-code.rest.now c.in_ok-code.ensures
    c.in_err-attributes.field-0.0 (rw (← c.turn_to.ensures) c.in_err-attributes.ensures.attributes))

pub returns-clause-entry : goal.returns-clause-entry
returns-clause-entry c =
    c.values_at.ensures
    ∙ with_attributes c.args.order (section_of c.args.abbreviations.now) c.args.unit.now c.in_ok-head.head
    c.in_ok-head.rest.now c.in_ok-head.ensures c.in_ok-code.code c.in_ok-code.rest.now c.in_ok-code.ensures
    c.in_ok-attributes.attributes (rw (← c.turn_to.ensures) c.in_ok-attributes.ensures.attributes)
