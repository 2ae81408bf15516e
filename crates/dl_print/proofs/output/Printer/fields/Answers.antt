use Rattle.std.proofs.Common.{◌++◌, append_assoc, refl}
use Rattle.std.proofs.lemmas.Result.{err_from_is_err_and}
use Rattle.dl_print.specs.HeaderFields.{formats_text, lengths_text, padding_text, params_text}
use Rattle.dl_print.proofs.Outs.{Prints-both, PrintsMore-then, TellsOut-first, TellsOut-part}
use Rattle.dl_print.proofs.output.Printer.fields.Goals as goal

pub returns-in_err-lengths-clause-printed : goal.returns-in_err-lengths-clause-printed
returns-in_err-lengths-clause-printed g c = λ start text h.
    let p = err_from_is_err_and c.from_residual.result c.from_residual.ensures.1 in
    let header = c.args.header.now in
    let lengths = lengths_text c.args.lengths.now in
    let params = params_text header.params in
    let formats = formats_text header in
    let padding = padding_text c.args.lengths.now.padding in
    let tells = c.in_err-lengths.ensures.printed start text h in
    rw (p.1, p.2) (TellsOut-first start _ text lengths (params ++ formats ++ padding)
    (lengths ++ params ++ formats ++ padding) _ (simp append_assoc) tells)

pub returns-in_err-params-clause-printed : goal.returns-in_err-params-clause-printed
returns-in_err-params-clause-printed g c = λ start text h.
    let p = err_from_is_err_and c.from_residual-in_err-params.result c.from_residual-in_err-params.ensures.1 in
    let header = c.args.header.now in
    let lengths = lengths_text c.args.lengths.now in
    let params = params_text header.params in
    let formats = formats_text header in
    let padding = padding_text c.args.lengths.now.padding in
    let tells = c.in_err-params.ensures.printed start _ (c.in_ok-lengths.ensures.printed start text h) in
    rw (p.1, p.2) (TellsOut-part start _ text lengths params (formats ++ padding)
    (lengths ++ params ++ formats ++ padding) _ (simp append_assoc) tells)

pub returns-in_err-formats-clause-printed : goal.returns-in_err-formats-clause-printed
returns-in_err-formats-clause-printed g c = λ start text h.
    let p = err_from_is_err_and c.from_residual-in_err-formats.result c.from_residual-in_err-formats.ensures.1 in
    let header = c.args.header.now in
    let lengths = lengths_text c.args.lengths.now in
    let params = params_text header.params in
    let formats = formats_text header in
    let padding = padding_text c.args.lengths.now.padding in
    let both = PrintsMore-then _ _ _ _ _ _ lengths params (lengths ++ params) refl c.in_ok-lengths.ensures.printed
    c.in_ok-params.ensures.printed in
    let tells = c.in_err-formats.ensures.printed start _ (both start text h) in
    rw (p.1, p.2) (TellsOut-part start _ text (lengths ++ params) formats padding
    (lengths ++ params ++ formats ++ padding) _ refl tells)

pub returns-clause-printed : goal.returns-clause-printed
returns-clause-printed g c =
    let header = c.args.header.now in
    let lengths = lengths_text c.args.lengths.now in
    let params = params_text header.params in
    let formats = formats_text header in
    let padding = padding_text c.args.lengths.now.padding in
    let both = PrintsMore-then _ _ _ _ _ _ lengths params (lengths ++ params) refl c.in_ok-lengths.ensures.printed
    c.in_ok-params.ensures.printed in
    let three = PrintsMore-then _ _ _ _ _ _ (lengths ++ params) formats (lengths ++ params ++ formats) refl both
    c.in_ok-formats.ensures.printed in
    Prints-both _ _ _ _ _ _ _ (lengths ++ params ++ formats) padding three c.padding.ensures.printed
