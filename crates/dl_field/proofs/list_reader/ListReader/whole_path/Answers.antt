use Rattle.std.proofs.Common.{◌∙◌, sym, arith}
use Rattle.dl_field.proofs.ValueLemmas.{pushed}
use Rattle.dl_field.proofs.WholeListed.{path_taken}
use Rattle.dl_field.proofs.list_reader.ListReader.whole_path.Goals as goal

pub returns-in-Ends : goal.returns-in-Ends
returns-in-Ends c =
    let old = c.args.self.now in
    path_taken old c.enter.new.self c.args.start c.in_ok-len.len c.numbers-left.result c.args.bytes.now _ c.requires
    (omega (arith, c.if-start-len.false, c.len.ensures, old.pool.ok.0)) (omega (arith, c.if-len-eq0.false))
    c.in_ok-len.ensures.within (sym c.first_zero.ensures.value ∙ c.in_ok-len.was) c.numbers-left.ensures
    (c.extend_from_slice.ensures.items ∙ pushed _ _ c.extend_from_slice.result
    (sym c.is_err-2.ensures.value ∙ c.if-is_err-2.false))
    (rw (c.new.ensures, c.reserve.ensures.items) at c.in-Ends.ensures.made)
    (rw c.reserve.ensures.items at c.in-Ends.ensures.cells) (c.enter.ensures.going c.in-Ends.is)
