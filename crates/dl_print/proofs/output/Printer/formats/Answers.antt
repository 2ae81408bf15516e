use Rattle.std.proofs.Common.{◌≡◌, codes, ◌++◌, refl}
use Rattle.std.proofs.lemmas.Result.{err_from_is_err_and}
use Rattle.dl_field.specs.HeaderData.{HeaderData}
use Rattle.dl_print.specs.HeaderFields.{format_line, formats_text}
use Rattle.dl_print.proofs.Outs.{Prints-both, TellsOut-first}
use Rattle.dl_print.proofs.output.Printer.formats.Goals as goal

formats_of : (h : HeaderData) → h.params.version ≡ 5 → formats_text h
    ≡ format_line (codes "directory_format") h.directories.pairs ++ format_line (codes "file_format") h.files.pairs
unfolding formats_text
formats_of h five = rw five refl

pub returns-in_err-format-clause-printed : goal.returns-in_err-format-clause-printed
returns-in_err-format-clause-printed g c = λ start text h.
    let p = err_from_is_err_and c.from_residual.result c.from_residual.ensures.1 in
    let header = c.args.header.now in
    let five : header.params.version ≡ 5 = rw c.params.ensures.value at c.if-params-ne5.false in
    let directories = format_line (codes "directory_format") header.directories.pairs in
    let files = format_line (codes "file_format") header.files.pairs in
    let tells = rw (c.pairs.ensures, c.directories.ensures) at (c.in_err-format.ensures.printed start text h) in
    rw (p.1, p.2) (TellsOut-first start _ text directories files (formats_text header) _ (formats_of header five) tells)

pub returns-clause-printed : goal.returns-clause-printed
returns-clause-printed g c =
    let header = c.args.header.now in
    let five : header.params.version ≡ 5 = rw c.params.ensures.value at c.if-params-ne5.false in
    let directories = format_line (codes "directory_format") header.directories.pairs in
    let files = format_line (codes "file_format") header.files.pairs in
    let one = rw (c.pairs.ensures, c.directories.ensures) at c.in_ok-format.ensures.printed in
    let two = rw (c.pairs-2.ensures, c.files.ensures) at c.format-2.ensures.printed in
    rw (formats_of header five) (Prints-both _ _ _ _ _ _ _ directories files one two)
