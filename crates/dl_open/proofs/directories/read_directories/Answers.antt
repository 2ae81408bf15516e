use Rattle.std.proofs.Common.{arith, length, sym, ◌+◌, ◌∙◌}
use Rattle.std.proofs.lemmas.Result.{err_from_is_err_and}
use Rattle.dl_open.specs.Directories.{texts_size}
use Rattle.dl_open.specs.Tables.{bytes_of}
use Rattle.dl_dirs.specs.Directories.{directory_at}
use Rattle.dl_open.proofs.DirectoriesLemmas.{none_found, some_found, unread_more}
use Rattle.dl_open.proofs.directories.read_directories.Goals as goal

pub returns-in_default : goal.returns-in_default
returns-in_default g c source t gives n =
    c.none.ensures n ∙ sym (none_found t c.args.file.order c.in_ok-places.field-0 n c.in_default.is
    (c.in_ok-places.ensures source t.abbreviations t.info gives.abbreviations gives.info))

pub returns : goal.returns
returns g c source t gives = some_found t c.args.file.order c.in_ok-places.field-0 c.in-Some.places _
    (directory_at c.directories.result) c.in-Some.is
    (c.in_ok-places.ensures source t.abbreviations t.info gives.abbreviations gives.info) gives.order
    (λ a b are. c.in_ok-texts.ensures source t gives.str_offsets gives.str gives.line_str _ a b are)
    (λ a b are. c.directories.ensures _ a b are)

pub returns-in_err-places : goal.returns-in_err-places
returns-in_err-places g c source t gives =
    let fails = g.S.ReadAt.fails_with source in
    let p = err_from_is_err_and c.from_residual.result c.from_residual.ensures.1 in
    rw (p.1, p.2) (unread_more (g.M.Memory.refuses c.args.memory.now) (length (bytes_of t.abbreviations) + length (bytes_of t.info)) (length (bytes_of t.abbreviations) + length (bytes_of t.info) + texts_size t) fails _ (omega arith)
    (c.in_err-places.ensures source t.abbreviations t.info gives.abbreviations gives.info))

pub returns-in_err-texts : goal.returns-in_err-texts
returns-in_err-texts g c source t gives =
    let fails = g.S.ReadAt.fails_with source in
    let p = err_from_is_err_and c.from_residual-in_err-texts.result c.from_residual-in_err-texts.ensures.1 in
    rw (p.1, p.2) (unread_more (g.M.Memory.refuses c.args.memory.now) (texts_size t) (length (bytes_of t.abbreviations) + length (bytes_of t.info) + texts_size t) fails _ (omega arith)
    (c.in_err-texts.ensures source t gives.str_offsets gives.str gives.line_str))
