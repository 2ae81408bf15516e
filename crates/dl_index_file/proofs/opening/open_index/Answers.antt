use Rattle.std.proofs.Common.{length, arith}
use Rattle.dl_index_file.proofs.OpeningLemmas.{front_is, same_len, tells_fault}
use Rattle.dl_index_file.proofs.PlaceLemmas.{ends_at, ends_before, are_parts}
use Rattle.dl_index_file.proofs.opening.open_index.Goals as goal

pub returns-in_err-header-clause-opens : goal.returns-in_err-header-clause-opens
returns-in_err-header-clause-opens g c f is short =
    let front = front_is f c.fill.new.buffer c.in_ok-n.n c.fill.auto.buffer c.in_ok-len.ensures.enough (c.in_ok-n.ensures.bytes f is short) in
    let len = same_len c.in_ok-has_length.field-0 c.in_ok-len.len (length f) (c.in_ok-has_length.ensures.is f is short) c.if-not-branch.false in
    let has = c.in_err-header.ensures.header f front len in
    tells_fault f c.in_err-header.field-0.0 c.from_residual-in_err-header.result c.from_residual-in_err-header.ensures.1 has

pub invariant_of-result : goal.invariant_of-result
invariant_of-result g c =
    let fits = c.in_ok-header.ensures.fits in
    let are = c.places_of.ensures in
    let end = ends_at are in
    record {
      kept = record {
        len = c.fill.auto.buffer;
        reads = fits.reads;
        build_id = fits.build_id;
        places = c.places_of.ensures;
        end = ends_before are 18446744073709551615 (let whole = fits.end in omega arith);
      };
      stands = λ f is short.
          (let front = front_is f c.fill.new.buffer c.in_ok-n.n c.fill.auto.buffer c.in_ok-len.ensures.enough (c.in_ok-n.ensures.bytes f is short) in
          let len = same_len c.in_ok-has_length.field-0 c.in_ok-len.len (length f) (c.in_ok-has_length.ensures.is f is short) c.if-not-branch.false in
          let has = c.in_ok-header.ensures.header f front len in
          record {
            headed = has.0;
            reads = has.1;
            front = front;
            end = ends_before are (length f) (let whole = fits.end in omega arith);
            parts = are_parts are has.1;
          });
    }

pub returns-clause-opens : goal.returns-clause-opens
returns-clause-opens g c f is short =
    let front = front_is f c.fill.new.buffer c.in_ok-n.n c.fill.auto.buffer c.in_ok-len.ensures.enough (c.in_ok-n.ensures.bytes f is short) in
    let len = same_len c.in_ok-has_length.field-0 c.in_ok-len.len (length f) (c.in_ok-has_length.ensures.is f is short) c.if-not-branch.false in
    (c.in_ok-header.ensures.header f front len).0
