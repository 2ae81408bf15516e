use Rattle.std.proofs.Common.{◌∙◌, ap}
use Rattle.dl_table.specs.TableData.{TableData}
use Rattle.dl_table_rules.proofs.ContentLemmas.{is_unknown, not_unknown, within}
use Rattle.dl_table_rules.proofs.header_rules.unknown_content.Goals as goal

pub content-code-requires : goal.content-code-requires
content-code-requires c =
    let h = c.args.header.now in
    within h.directories.pairs h.files.pairs _ _ c.args.place
    (c.pairs-directories.ensures ∙ ap (λ (t : TableData). t.pairs) c.directories.ensures)
    (c.pairs-files.ensures ∙ ap (λ (t : TableData). t.pairs) c.files.ensures) c.requires

pub is_unknown_content-requires : goal.is_unknown_content-requires
is_unknown_content-requires c =
    let h = c.args.header.now in
    within h.directories.pairs h.files.pairs _ _ c.args.place
    (c.pairs-directories.ensures ∙ ap (λ (t : TableData). t.pairs) c.directories.ensures)
    (c.pairs-files.ensures ∙ ap (λ (t : TableData). t.pairs) c.files.ensures) c.requires

pub returns-then-not-is_unknown_content : goal.returns-then-not-is_unknown_content
returns-then-not-is_unknown_content c =
    let h = c.args.header.now in
    not_unknown h.directories.pairs h.files.pairs _ _ c.args.place
    (c.pairs-directories.ensures ∙ ap (λ (t : TableData). t.pairs) c.directories.ensures)
    (c.pairs-files.ensures ∙ ap (λ (t : TableData). t.pairs) c.files.ensures) c.content-code.result c.args.unit
    c.content-code.ensures c.is_unknown_content.result c.is_unknown_content.ensures c.if-not-is_unknown_content.true

pub returns : goal.returns
returns c =
    let h = c.args.header.now in
    is_unknown h.directories.pairs h.files.pairs _ _ c.args.place
    (c.pairs-directories.ensures ∙ ap (λ (t : TableData). t.pairs) c.directories.ensures)
    (c.pairs-files.ensures ∙ ap (λ (t : TableData). t.pairs) c.files.ensures) c.content-code.result c.args.unit
    c.content-code.ensures c.is_unknown_content.result c.is_unknown_content.ensures c.if-not-is_unknown_content.false
