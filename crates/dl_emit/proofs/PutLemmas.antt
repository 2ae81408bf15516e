-- Operations that are put one after the other.
use Rattle.std.proofs.Common.{◌≡◌, ℕ, ℤ, ◌+◌, ◌-◌, ◌^◌, ◌%◌, List, [], ◌∷◌, ◌++◌, ap, ◌∙◌, arith, append_assoc, append-nil, w64}
use Rattle.std.specs.Int.{cast_signed, cast_unsigned}
use Rattle.std.proofs.lemmas.Grind.{flat_map-append}
use Rattle.std.proofs.lemmas.Int.{of_z-to_z}
use Rattle.dl_num.specs.declared.fixed.Order.{Order}
use Rattle.dl_field.specs.declared.params.Params.{Params}
use Rattle.dl_rows.specs.declared.operation.Operation.{Operation}
use Rattle.dl_emit.specs.Program.{line_advance}
use Rattle.dl_emit.specs.OperationBytes.{operation_bytes}
use Rattle.dl_emit.specs.WrittenUnit.{operations_bytes}

-- a line advance as it is handed on, in the bits of a number
pub line_kept : (from to : ℕ) (line : ℤ) → line ≡ line_advance from to
    → cast_signed w64 (cast_unsigned w64 line) ≡ line_advance from to
line_kept from to line is =
    ap (λ (l : ℤ). cast_signed w64 (cast_unsigned w64 l)) is
    ∙ ap (cast_signed w64) (of_z-to_z w64 ((to + (2 ^ 64 - from)) % 2 ^ 64) (omega arith))

module _ (order : Order) (h : Params) where
  pub put_two : (p q : List Operation) (a b c : List ℕ) → b ≡ a ++ operations_bytes order h p
      → c ≡ b ++ operations_bytes order h q → c ≡ a ++ operations_bytes order h (p ++ q)
  put_two p q a b c first next = rw (next, first) (simp (flat_map-append, append_assoc))

  pub put_one : (o : Operation) (a b : List ℕ) → b ≡ a ++ operation_bytes order h.address_size o
      → b ≡ a ++ operations_bytes order h (o ∷ [])
  put_one o a b put = rw put (simp append-nil)

  -- the last ones are those that are to be put
  pub put_three : (p q r s : List Operation) (a b c d : List ℕ) → b ≡ a ++ operations_bytes order h p
      → c ≡ b ++ operations_bytes order h q → d ≡ c ++ operations_bytes order h s → s ≡ r
      → d ≡ a ++ operations_bytes order h ((p ++ q) ++ r)
  put_three p q r s a b c d first next last same =
      put_two (p ++ q) r a c d (put_two p q a b c first next)
      (last ∙ ap (λ (os : List Operation). c ++ operations_bytes order h os) same)
