use Rattle.dl_field.proofs.WholeValues.{leb_in_front}
use Rattle.dl_field.proofs.whole_value.short_leb_at_front.Goals as goal

pub returns : goal.returns
returns c = λ order.
    let found = c.in_ok-number.ensures in
    rw c.new.ensures (leb_in_front order c.args.number c.args.bytes.now c.in_ok-number.tail.now c.in_ok-number.number (record {
      front = found.number.0;
      bytes_are = found.number.1;
      spelt = (found.number.2, found.fits);
      none = λ w took. (c.is_new.ensures w took).0 c.if-not-is_new.false;
    }))
