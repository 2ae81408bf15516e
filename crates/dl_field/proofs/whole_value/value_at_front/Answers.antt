use Rattle.std.proofs.Common.{subst, sym}
use Rattle.dl_table.specs.declared.table.held.StoredValue.TheVariants as held
use Rattle.dl_field.specs.declared.value_phase.ValuePhase.{ValuePhase}
use Rattle.dl_field.specs.TableMoves.{InFront}
use Rattle.dl_field.proofs.WholeValues.{leb_in_front}
use Rattle.dl_field.proofs.whole_value.value_at_front.Goals as goal

pub returns-in_ok-number-in-Leb : goal.returns-in_ok-number-in-Leb
returns-in_ok-number-in-Leb c =
    let bytes = c.args.bytes.now in
    let tail = c.in_ok-number-in-Leb.tail.now in
    let number = c.in_ok-number-in-Leb.number in
    rw c.new.ensures (subst (λ (v : ValuePhase). InFront c.args.order v bytes (held.Number number) tail) (sym c.in-Leb.is)
    (leb_in_front c.args.order c.in-Leb.number bytes tail number c.in_ok-number-in-Leb.ensures))
