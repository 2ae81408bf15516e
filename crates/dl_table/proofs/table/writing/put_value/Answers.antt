use Rattle.std.proofs.Common.{◌∙◌, ap}
use Rattle.dl_table.specs.Held.{value_lent}
use Rattle.dl_table.specs.Written.{value_bytes}
use Rattle.dl_table.proofs.OtherForms.{not_text, not_line_str, not_str, not_str_sup, not_data16}
use Rattle.dl_table.proofs.WritingLemmas.{IsOut-nothing}
use Rattle.dl_table.proofs.table.writing.put_value.Goals as goal

pub returns-in_default-clause-written : goal.returns-in_default-clause-written
returns-in_default-clause-written g c = λ start text h.
    let order = c.args.encoding.order in
    let format = c.args.encoding.format in
    let form = c.args.form in
    let is = ap (λ v. value_bytes order format form (value_lent v)) c.in-Text.is in
    IsOut-nothing start _ text _ _ (is ∙ not_text order format form c.in-Text.bytes.now c.if-eq.ensures) h

pub returns-in_default-2-clause-written : goal.returns-in_default-2-clause-written
returns-in_default-2-clause-written g c = λ start text h.
    let order = c.args.encoding.order in
    let format = c.args.encoding.format in
    let form = c.args.form in
    let is = ap (λ v. value_bytes order format form (value_lent v)) c.in-LineStr.is in
    IsOut-nothing start _ text _ _ (is ∙ not_line_str order format form c.in-LineStr.offset c.if-eq-2.ensures) h

pub returns-in_default-3-clause-written : goal.returns-in_default-3-clause-written
returns-in_default-3-clause-written g c = λ start text h.
    let order = c.args.encoding.order in
    let format = c.args.encoding.format in
    let form = c.args.form in
    let is = ap (λ v. value_bytes order format form (value_lent v)) c.in-Str.is in
    IsOut-nothing start _ text _ _ (is ∙ not_str order format form c.in-Str.offset c.if-eq-3.ensures) h

pub returns-in_default-4-clause-written : goal.returns-in_default-4-clause-written
returns-in_default-4-clause-written g c = λ start text h.
    let order = c.args.encoding.order in
    let format = c.args.encoding.format in
    let form = c.args.form in
    let is = ap (λ v. value_bytes order format form (value_lent v)) c.in-StrSup.is in
    IsOut-nothing start _ text _ _ (is ∙ not_str_sup order format form c.in-StrSup.offset c.if-eq-4.ensures) h

pub returns-in_default-5-clause-written : goal.returns-in_default-5-clause-written
returns-in_default-5-clause-written g c = λ start text h.
    let order = c.args.encoding.order in
    let format = c.args.encoding.format in
    let form = c.args.form in
    let is = ap (λ v. value_bytes order format form (value_lent v)) c.in-Data16.is in
    IsOut-nothing start _ text _ _ (is ∙ not_data16 order format form c.in-Data16.bytes c.if-eq-5.ensures) h
