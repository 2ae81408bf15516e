-- The ranges of the operands that bytes spell.
use Rattle.std.proofs.Common.{◌≡◌, ℕ, ◌^◌, ◌<◌, ◌≤◌, ℤ, pos, negsuc, List, [], ◌∷◌, ◌++◌, length, ap, ◌∙◌, arith}
use Rattle.std.specs.Prelude.{unsigned_abs}
use Rattle.dl_num.specs.declared.fixed.Order.{Order}
use Rattle.dl_num.specs.Fixed.{fixed}
use Rattle.dl_num.specs.Leb.{IsSigned64}
use Rattle.dl_num.specs.Laws.{AllBytes}
use Rattle.dl_num.proofs.FixedLaws.{fixed_is_below}
use Rattle.dl_field.specs.declared.params.Params.{Params}
use Rattle.dl_field.specs.Usable.{IsUsable}
use Rattle.dl_rows.specs.declared.operation.Operation.{Operation}
use Rattle.dl_rows.specs.declared.operation.Operation.TheVariants as op
use Rattle.dl_rows.specs.Spelling.{SpellsOperation}
use Rattle.dl_rows.specs.Sums.{HasRange}
use Rattle.dl_rows.proofs.RegisterLemmas.{size_cases}

pub bytes_front : (b x : List ℕ) → AllBytes (b ++ x) → AllBytes b
bytes_front [] x all = tt
bytes_front (c ∷ b) x all = (all.0, bytes_front b x all.1)

pub bytes_back : (b x : List ℕ) → AllBytes (b ++ x) → AllBytes x
bytes_back [] x all = all
bytes_back (c ∷ b) x all = bytes_back b x all.1

pub bytes_joined : (b x : List ℕ) → AllBytes b → AllBytes x → AllBytes (b ++ x)
bytes_joined [] x all more = more
bytes_joined (c ∷ b) x all more = (all.0, bytes_joined b x all.1 more)

signed_range : (i : ℤ) → IsSigned64 i → unsigned_abs i < 2 ^ 64
signed_range (pos n) h = omega arith
signed_range (negsuc n) h = omega arith

address_range : (order : Order) (h : Params) (n : ℕ) (operand : List ℕ) → IsUsable h → AllBytes operand
    → length operand ≡ h.address_size → n ≡ fixed order operand → n < 2 ^ 64
address_range order h n operand usable all size number =
    let lt = fixed_is_below order operand all in
    size_cases h.address_size usable.address_size (λ e. below 1 (size ∙ e) lt (omega arith))
    (λ e. below 2 (size ∙ e) lt (omega arith)) (λ e. below 4 (size ∙ e) lt (omega arith))
    (λ e. below 8 (size ∙ e) lt (omega arith))
  where
    below : (k : ℕ) → length operand ≡ k → fixed order operand < 256 ^ length operand → 256 ^ k ≤ 2 ^ 64 → n < 2 ^ 64
    below k e lt le = let p : 256 ^ length operand ≡ 256 ^ k = ap (λ (x : ℕ). 256 ^ x) e in omega arith

pub range_of : (order : Order) (h : Params) (o : Operation) (v : List ℕ) → IsUsable h → AllBytes v
    → SpellsOperation order h o v → HasRange o
range_of order h (op.Special b) v usable all s = (rw s.1 at all).0
range_of order h (op.AdvanceLine i) v usable all s = signed_range i s.fits
range_of order h (op.SetAddress n) v usable all s =
    let whole : AllBytes (0 ∷ (s.extended.size ++ 2 ∷ s.operand)) =
    rw s.extended.bytes at all in
    address_range order h n s.operand usable (bytes_back s.extended.size (2 ∷ s.operand) whole.1).1 s.size s.number
range_of order h other v usable all s = tt
