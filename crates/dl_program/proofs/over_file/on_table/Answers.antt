use Rattle.std.proofs.Common.{◌∙◌, ap₂, inr, subst, sym}
use Rattle.dl_open.specs.Tables.{IsWhole, class_dialect}
use Rattle.dl_program.proofs.BlameLemmas.{of_file_blamed}
use Rattle.dl_program.proofs.TableLemmas.{not_refused}
use Rattle.dl_program.proofs.over_file.on_table.Goals as goal

pub returns-clause-ran : goal.returns-clause-ran
returns-clause-ran g c source t given untold =
    let whole = c.in-Ok.ensures.whole source t.line_str t.str given.line_str given.str in
    not_refused (g.M.Memory.refuses c.args.memory.now) _ _ _ _ t _ _ _ _ _ _ (sym c.loses.ensures ∙ c.if-loses.false) given.object
    (inr (c.on_lines.ensures.ran source c.args.units t given.line (c.options-options.ensures.dialect ∙ c.file_dialect.ensures
    ∙ ap₂ (class_dialect c.args.units) given.order given.class)
    (subst (IsWhole t.line_str t.str) (sym c.options-options.ensures.strings) whole) untold))

pub returns-in-Err-clause-blames : goal.returns-in-Err-clause-blames
returns-in-Err-clause-blames g c untold = of_file_blamed g.W.Destination.fails c.in-Err.stop c.in-Err.ensures.blames
