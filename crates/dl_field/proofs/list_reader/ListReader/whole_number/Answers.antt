use Rattle.dl_field.proofs.WholeListed.{number_taken}
use Rattle.dl_field.proofs.list_reader.ListReader.whole_number.Goals as goal

pub returns-in-Ends : goal.returns-in-Ends
returns-in-Ends c =
    let old = c.args.self.now in
    let h = c.held_number in
    number_taken old c.enter.new.self c.args.left _ c.in_ok-number.number c.args.number h.result c.args.bytes.now
    c.in_ok-number.tail.now c.requires c.in_ok-number.ensures (h.ensures.value old.pool.items) h.ensures.cell
    h.ensures.end c.saturating_sub.ensures c.in-Ends.ensures.made c.in-Ends.ensures.cells
    (c.enter.ensures.going c.in-Ends.is)
