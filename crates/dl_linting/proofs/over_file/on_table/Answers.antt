use Rattle.std.proofs.Common.{◌∙◌, ap₂, inl, inr, refl, subst, sym}
use Rattle.std.proofs.KnownBytes.{Keeps-refl}
use Rattle.std.proofs.lemmas.Result.{err_from_is_err_and}
use Rattle.dl_open.specs.Tables.{IsWhole, class_dialect}
use Rattle.dl_program.proofs.BlameLemmas.{of_file_blamed}
use Rattle.dl_linting.proofs.over_file.on_table.Goals as goal

pub returns-clause-ran : goal.returns-clause-ran
returns-clause-ran g c source t given untold =
    let whole = c.in_ok-strings.ensures.whole source t.line_str t.str given.line_str given.str in
    inr (c.on_line.ensures.ran source c.args.units t given.line (c.options-options.ensures.dialect ∙ c.file_dialect.ensures
    ∙ ap₂ (class_dialect c.args.units) given.order given.class)
    (subst (IsWhole t.line_str t.str) (sym c.options-options.ensures.strings) whole) untold)

pub returns-in_err-strings-clause-ran : goal.returns-in_err-strings-clause-ran
returns-in_err-strings-clause-ran g c source t given untold =
    let e = err_from_is_err_and c.from_residual.result c.from_residual.ensures.1 in
    let why = c.in_err-strings.ensures.whole source t.line_str t.str given.line_str given.str in
    rw (e.1, e.2) (inl (_, refl, why, Keeps-refl _, untold))

pub returns-in_err-strings-clause-blames : goal.returns-in_err-strings-clause-blames
returns-in_err-strings-clause-blames g c untold =
    let e = err_from_is_err_and c.from_residual.result c.from_residual.ensures.1 in
    rw (e.1, e.2) (of_file_blamed g.W.Destination.fails _ c.in_err-strings.ensures.blames)
