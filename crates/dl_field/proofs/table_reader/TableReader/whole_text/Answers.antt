use Rattle.std.proofs.Common.{◌∙◌, sym, refl, arith}
use Rattle.dl_field.proofs.ValueLemmas.{pushed}
use Rattle.dl_field.proofs.WholeValues.{text_taken}
use Rattle.dl_field.proofs.table_reader.TableReader.whole_text.Goals as goal

pub returns-in-Ends : goal.returns-in-Ends
returns-in-Ends c =
    let old = c.args.self.now in
    λ order.
    text_taken order old _ c.enter.new.self c.args.at c.args.start c.in_ok-len.len c.args.format c.args.bytes.now
    c.requires refl refl c.reserve.ensures.items
    (c.extend_from_slice.ensures.items ∙ pushed _ _ c.extend_from_slice.result
    (sym c.is_err-2.ensures.value ∙ c.if-is_err-2.false))
    (omega (arith, c.if-start-len.false, c.len.ensures, old.pool.ok.0)) c.in_ok-len.ensures.within
    (sym c.first_zero.ensures.value ∙ c.in_ok-len.was) (rw c.new.ensures at c.in-Ends.ensures.made) c.in-Ends.ensures.cells
