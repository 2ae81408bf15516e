use Rattle.std.proofs.Common.{◌∙◌, ◌++◌, length, take, sym, ap, arith, length-append}
use Rattle.std.proofs.lemmas.List.{take-append-drop, take_rest, length-take-le}
use Rattle.dl_field.proofs.ValueLemmas.{pushed}
use Rattle.dl_field.proofs.WholeBlocks.{block_entered}
use Rattle.dl_field.proofs.table_reader.TableReader.whole_block.Goals as goal

pub returns-in-Ends : goal.returns-in-Ends
returns-in-Ends c =
    let old = c.args.self.now in
    let bytes = c.args.bytes.now in
    let size = length-take-le c.args.size bytes (omega (arith, c.if-size-bytes.false)) in
    let grown = c.extend_from_slice.ensures.items ∙ pushed _ _ c.extend_from_slice.result
    (sym c.is_err-2.ensures.value ∙ c.if-is_err-2.false) in
    record {
      front = take c.args.size bytes;
      bytes_are = sym (take-append-drop c.args.size bytes)
          ∙ ap (λ l. take c.args.size bytes ++ l) (sym (take_rest bytes c.args.size));
      all = size;
      made = λ order next layout v rest is clear.
          block_entered order old _ _ c.enter.new.self c.args.at _ _ (take c.args.size bytes) c.args.format next layout
          v rest is clear (c.len-start.ensures ∙ old.pool.ok.0) (sym size) c.reserve.ensures.items grown
          (rw c.new.ensures at (c.enter.ensures.goes c.in-Ends.is));
      cells = omega (
        arith,
        c.in-Ends.ensures.cells,
        size,
        ap length grown,
        length-append old.pool.items (take c.args.size bytes),
        ap length c.reserve.ensures.items,
      );
    }
