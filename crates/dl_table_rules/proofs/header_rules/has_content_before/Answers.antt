use Rattle.std.proofs.Common.{◌∙◌, ◌-◌, Bool, ap, arith, length, sym, take}
use Rattle.std.specs.Prelude.{◌==◌, ◌||◌}
use Rattle.std.specs.List.{list_any}
use Rattle.dl_table_rules.proofs.ContentLemmas.{before_first, before_second}
use Rattle.dl_table_rules.proofs.header_rules.has_content_before.Goals as goal

pub returns-then-place-directories : goal.returns-then-place-directories
returns-then-place-directories c =
    c.has_content.ensures
    ∙ before_first c.args.directories.now c.args.files.now c.args.place c.args.code c.if-place-directories.true

pub returns-then-has_content : goal.returns-then-has_content
returns-then-has_content c =
    let code = c.args.code in
    let rest = take (c.args.place - length c.args.directories.now) c.args.files.now in
    c.if-has_content.true
    ∙ ap (λ (b : Bool). b || list_any (λ p. p.content == code) rest) (sym (sym c.has_content-2.ensures ∙ c.if-has_content.true))
    ∙ before_second c.args.directories.now c.args.files.now c.args.place code (omega (arith, c.if-place-directories.false))

pub returns-else-has_content : goal.returns-else-has_content
returns-else-has_content c =
    let code = c.args.code in
    let rest = take (c.args.place - length c.args.directories.now) c.args.files.now in
    c.has_content-else-has_content.ensures
    ∙ ap (λ (b : Bool). b || list_any (λ p. p.content == code) rest) (sym (sym c.has_content-2.ensures ∙ c.if-has_content.false))
    ∙ before_second c.args.directories.now c.args.files.now c.args.place code (omega (arith, c.if-place-directories.false))
