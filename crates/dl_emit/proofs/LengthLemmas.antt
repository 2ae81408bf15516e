-- No length depends on the order.
use Rattle.std.proofs.Common.{◌≡◌, ℕ, List, ◌∷◌, length, refl, ap, arith, length-append}
use Rattle.dl_num.specs.declared.fixed.Order.{Order}
use Rattle.dl_num.specs.declared.fixed.Order.TheVariants.{Little}
use Rattle.dl_num.specs.Fixed.{fixed_bytes}
use Rattle.dl_num.specs.Shortest.{shortest_uleb}
use Rattle.dl_num.proofs.FixedLaws.{fixed_has_its_size}
use Rattle.dl_head.proofs.OrderLemmas.{length-parts}
use Rattle.dl_field.specs.declared.params.Params.{Params}
use Rattle.dl_rows.specs.declared.row.Row.{Row}
use Rattle.dl_rows.specs.declared.operation.Operation.{Operation}
use Rattle.dl_rows.specs.declared.operation.Operation.TheVariants as op
use Rattle.dl_emit.specs.OperationBytes.{extended, operation_bytes}
use Rattle.dl_emit.specs.Program.{operations}
use Rattle.dl_emit.specs.WrittenUnit.{program_bytes, program_len}

length-extended : (v w : List ℕ) → length v ≡ length w → length (extended v) ≡ length (extended w)
length-extended v w e =
    let sizes = ap (λ (n : ℕ). length (shortest_uleb n)) e in
    omega (arith, length-append (shortest_uleb (length v)) v, length-append (shortest_uleb (length w)) w, sizes, e)

length-operation : (order : Order) (size : ℕ) (o : Operation)
    → length (operation_bytes order size o) ≡ length (operation_bytes Little size o)
length-operation order size (op.SetAddress n) =
    length-extended (2 ∷ fixed_bytes order size n) (2 ∷ fixed_bytes Little size n)
    (omega (arith, fixed_has_its_size order size n, fixed_has_its_size Little size n))
length-operation order size o = refl

pub length-program : (order : Order) (h : Params) (rows : List Row)
    → length (program_bytes order h rows) ≡ program_len h rows
length-program order h rows =
    length-parts (operation_bytes order h.address_size) (operation_bytes Little h.address_size)
    (length-operation order h.address_size) (operations h rows)
