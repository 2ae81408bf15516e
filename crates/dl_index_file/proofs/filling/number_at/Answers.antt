use Rattle.std.proofs.Common.{◌*◌, ap, ◌∙◌, take, drop}
use Rattle.dl_elf.specs.Elf.{bytes_at}
use Rattle.dl_num.specs.Fixed.{little}
use Rattle.dl_index.specs.Columns.{size_of}
use Rattle.dl_index_file.proofs.RangeLemmas.{read_is, size_small, first_number}
use Rattle.dl_index_file.proofs.filling.number_at.Goals as goal

pub returns-clause-value : goal.returns-clause-value
returns-clause-value g c f is short =
    let r = c.args.column.now in
    let s = size_of c.args.width in
    let small = size_small c.args.width in
    let column = bytes_at r.offset r.size f in
    c.get.ensures ∙ first_number s _
    ∙ ap
    little
    (read_is column _ _ _ _ s (c.args.k * c.size-size.result) c.size-size.ensures small c.fill_in.auto.buffer
    (c.in_ok-fill_in.ensures.bytes f is short))
    ∙ ap (λ n. little (take s (drop (c.args.k * n) column))) c.size-size.ensures
