use Rattle.std.proofs.Common.{◌++◌, codes, append_assoc}
use Rattle.std.proofs.lemmas.Result.{err_from_is_err_and}
use Rattle.dl_print.specs.HeaderText.{table_text}
use Rattle.dl_head.specs.Numbers.{first_number}
use Rattle.dl_print.specs.Text.{unit_line}
use Rattle.dl_print.specs.ValueText.{strings_of}
use Rattle.dl_print.proofs.Outs.{TellsOut-front}
use Rattle.dl_print.proofs.output.Printer.header.Goals as goal

pub returns-in_err-unit-clause-printed : goal.returns-in_err-unit-clause-printed
returns-in_err-unit-clause-printed g c = λ start text h.
    let p = err_from_is_err_and c.from_residual.result c.from_residual.ensures.1 in
    let s = strings_of c.args.strings.now in
    let header = c.args.header.now in
    let unit = unit_line c.args.offset header.params in
    let first = first_number header.params in
    let directories = table_text s (codes "dir ") first header.directories in
    let files = table_text s (codes "file ") first header.files in
    let tells = rw c.params.ensures.value at (c.in_err-unit.ensures.printed start text h) in
    rw (
      p.1,
      p.2,
    ) (TellsOut-front start _ text (unit ++ directories) files _
    (TellsOut-front start _ text unit directories _ tells))

pub returns-clause-printed : goal.returns-clause-printed
returns-clause-printed g c = λ start text h.
    let s = strings_of c.args.strings.now in
    let header = c.args.header.now in
    let unit = unit_line c.args.offset header.params in
    let first = first_number header.params in
    let directories = table_text s (codes "dir ") first header.directories in
    let files = table_text s (codes "file ") first header.files in
    let one = rw c.params.ensures.value at (c.in_ok-unit.ensures.printed start text h) in
    rw (append_assoc unit directories files, ← append_assoc text unit (directories ++ files))
    (c.tables.ensures.printed start (text ++ unit) one)
