-- The reader of a table in the blocks among its values.
use Rattle.std.proofs.Common.{◌≡◌, ◌≢◌, ℕ, ◌+◌, ◌^◌, ◌<◌, ◌≤◌, true, false, List, [], ◌∷◌, ◌++◌, length, take, Option}
use Rattle.std.proofs.Common.{Some, None, Err, refl, sym, ap, subst, ◌∙◌, arith, length-append, append_assoc}
use Rattle.std.proofs.lemmas.Bool.{lt-ltb, le-ltb, le-leb, ne_eqb}
use Rattle.std.proofs.lemmas.List.{take_at}
use Rattle.dl_num.specs.declared.fixed.Order.{Order}
use Rattle.dl_num.specs.declared.leb.LebRange.{LebRange}
use Rattle.dl_num.specs.declared.leb.Uleb.{Uleb}
use Rattle.dl_num.specs.Fixed.{fixed}
use Rattle.dl_num.specs.Leb.{groups, IsUleb}
use Rattle.dl_num.specs.LebFront.{is_leb, leb_front, after_leb}
use Rattle.dl_num.specs.LebReader.{UlebTook, UlebIs}
use Rattle.dl_num.proofs.LebFrontLemmas.{is_leb-continues, leb_front-continues, leb_front-leb}
use Rattle.dl_num.proofs.LebLaws.{leb_tested, leb_is_front}
use Rattle.dl_table.specs.declared.fault.FaultKind.TheVariants as fault
use Rattle.dl_table.specs.declared.form.Format.{Format}
use Rattle.dl_table.specs.declared.form.Form.{Form}
use Rattle.dl_table.specs.declared.form.Form.TheVariants as form
use Rattle.dl_field.specs.Field.{IsFixed, IsUleb64}
use Rattle.dl_table.specs.Value.{block, good, bad, block_spelt, leb_block_spelt, value_spelt}
use Rattle.dl_field.specs.TablePlace.{length_bytes_of, IsLengthOf}
use Rattle.dl_field.proofs.FieldLemmas.{none_some, some_same}
use Rattle.dl_field.proofs.ValueLaws.{value_is_good}

-- ---- a block whose bytes are on their way

fixed_part : (order : Order) (k n : ℕ) (size bytes : List ℕ) → IsFixed order k n size → length bytes < n
    → block_spelt order k (size ++ bytes) ≡ None
fixed_part order k n size bytes is lt =
    let front : take k (size ++ bytes) ≡ size = take_at size bytes k is.0 in
    let other : length (size ++ bytes) ≢ k + fixed order (take k (size ++ bytes)) =
    λ same. omega (arith, same, ap (λ (l : List ℕ). fixed order l) front, is.1, is.0, lt, length-append size bytes) in
    rw (le-leb k (length (size ++ bytes)) (omega (arith, is.0, length-append size bytes)), ne_eqb _ _ other) refl

leb_part : (n : ℕ) (size bytes : List ℕ) → IsUleb64 n size → length bytes < n → leb_block_spelt (size ++ bytes) ≡ None
leb_part n size bytes is lt =
    let t = (leb_tested size n).0 is.0 in
    let f = leb_is_front size bytes n is.0 in
    let number : is_leb (leb_front (size ++ bytes)) ≡ true = ap is_leb f.0 ∙ t.0 in
    let value : groups (leb_front (size ++ bytes)) ≡ n = ap groups f.0 ∙ sym t.1 in
    let small : groups (leb_front (size ++ bytes)) < 2 ^ 64 = omega (arith, value, is.1) in
    let other : length (after_leb (size ++ bytes)) ≢ groups (leb_front (size ++ bytes)) =
    λ same. omega (arith, same, value, ap length f.1, lt) in
    rw (number, lt-ltb _ _ small, ne_eqb _ _ other) refl

no_length : {A : Type 0} (k : ℕ) → ◌≡◌ {A = Option ℕ} None (Some k) → A
no_length k e = absurd (none_some {a = k} refl e)

pub part_block : (order : Order) (format : Format) (f : Form) (n : ℕ) (size bytes : List ℕ) → IsLengthOf order f n size
    → length bytes < n → value_spelt order format f (size ++ bytes) ≡ None
part_block order format form.Block n size bytes is lt = leb_part n size bytes is lt
part_block order format form.Block1 n size bytes is lt =
    fixed_part order 1 n size bytes (subst (λ (k : ℕ). IsFixed order k n size) (sym (some_same 1 is.0 is.1)) is.2) lt
part_block order format form.Block2 n size bytes is lt =
    fixed_part order 2 n size bytes (subst (λ (k : ℕ). IsFixed order k n size) (sym (some_same 2 is.0 is.1)) is.2) lt
part_block order format form.Block4 n size bytes is lt =
    fixed_part order 4 n size bytes (subst (λ (k : ℕ). IsFixed order k n size) (sym (some_same 4 is.0 is.1)) is.2) lt
part_block order format form.Data1 n size bytes is lt = no_length is.0 is.1
part_block order format form.Data2 n size bytes is lt = no_length is.0 is.1
part_block order format form.Data4 n size bytes is lt = no_length is.0 is.1
part_block order format form.Data8 n size bytes is lt = no_length is.0 is.1
part_block order format form.String n size bytes is lt = no_length is.0 is.1
part_block order format form.Strp n size bytes is lt = no_length is.0 is.1
part_block order format form.Udata n size bytes is lt = no_length is.0 is.1
part_block order format form.StrpSup n size bytes is lt = no_length is.0 is.1
part_block order format form.Data16 n size bytes is lt = no_length is.0 is.1
part_block order format form.LineStrp n size bytes is lt = no_length is.0 is.1

-- ---- a block that is whole

pub whole_block : (order : Order) (format : Format) (f : Form) (size bytes : List ℕ)
    → IsLengthOf order f (length bytes) size → value_spelt order format f (size ++ bytes) ≡ good (block bytes)
whole_block order format form.Block size bytes is =
    value_is_good order format form.Block (size ++ bytes) (block bytes) (bytes, refl, (size, refl, is))
whole_block order format form.Block1 size bytes is =
    value_is_good order format form.Block1 (size ++ bytes) (block bytes) (
      bytes,
      refl,
      (
        size,
        refl,
        subst (λ (k : ℕ). IsFixed order k (length bytes) size) (sym (some_same 1 is.0 is.1))
            is.2,
      ),
    )
whole_block order format form.Block2 size bytes is =
    value_is_good order format form.Block2 (size ++ bytes) (block bytes) (
      bytes,
      refl,
      (
        size,
        refl,
        subst (λ (k : ℕ). IsFixed order k (length bytes) size) (sym (some_same 2 is.0 is.1))
            is.2,
      ),
    )
whole_block order format form.Block4 size bytes is =
    value_is_good order format form.Block4 (size ++ bytes) (block bytes) (
      bytes,
      refl,
      (
        size,
        refl,
        subst (λ (k : ℕ). IsFixed order k (length bytes) size) (sym (some_same 4 is.0 is.1))
            is.2,
      ),
    )
whole_block order format form.Data1 size bytes is = no_length is.0 is.1
whole_block order format form.Data2 size bytes is = no_length is.0 is.1
whole_block order format form.Data4 size bytes is = no_length is.0 is.1
whole_block order format form.Data8 size bytes is = no_length is.0 is.1
whole_block order format form.String size bytes is = no_length is.0 is.1
whole_block order format form.Strp size bytes is = no_length is.0 is.1
whole_block order format form.Udata size bytes is = no_length is.0 is.1
whole_block order format form.StrpSup size bytes is = no_length is.0 is.1
whole_block order format form.Data16 size bytes is = no_length is.0 is.1
whole_block order format form.LineStrp size bytes is = no_length is.0 is.1

-- ---- the length of a block

pub length_of : (order : Order) (f : Form) (k n : ℕ) (w : List ℕ) → length_bytes_of f ≡ Some k → IsFixed order k n w
    → IsLengthOf order f n w
length_of order form.Block1 k n w e is = (k, e, is)
length_of order form.Block2 k n w e is = (k, e, is)
length_of order form.Block4 k n w e is = (k, e, is)
length_of order form.Block k n w e is = no_length k e
length_of order form.Data1 k n w e is = (k, e, is)
length_of order form.Data2 k n w e is = (k, e, is)
length_of order form.Data4 k n w e is = (k, e, is)
length_of order form.Data8 k n w e is = (k, e, is)
length_of order form.String k n w e is = (k, e, is)
length_of order form.Strp k n w e is = (k, e, is)
length_of order form.Udata k n w e is = (k, e, is)
length_of order form.StrpSup k n w e is = (k, e, is)
length_of order form.Data16 k n w e is = (k, e, is)
length_of order form.LineStrp k n w e is = (k, e, is)

pub leb_length_of : (order : Order) (f : Form) (n : ℕ) (w : List ℕ) → f ≡ form.Block → IsUleb w n → n < 2 ^ 64
    → IsLengthOf order f n w
leb_length_of order f n w is spelt lt = subst (λ (g : Form). IsLengthOf order g n w) (sym is) (spelt, lt)

pub leb_length_open : (order : Order) (format : Format) (f : Form) (u : Uleb) (w : List ℕ) → f ≡ form.Block
    → UlebTook u w → value_spelt order format f w ≡ None
leb_length_open order format f u w is took =
    let front : is_leb (leb_front w) ≡ false = ap is_leb (leb_front-continues w took.continue)
    ∙ is_leb-continues w took.continue in
    let none : leb_block_spelt w ≡ None = rw front refl in
    ap (λ (g : Form). value_spelt order format g w) is ∙ none

pub leb_length_large : (order : Order) (format : Format) (f : Form) (w : List ℕ) (e : LebRange) → f ≡ form.Block
    → UlebIs w (Err e) → value_spelt order format f w ≡ bad fault.LebRange
leb_length_large order format f w e is large =
    let t = (leb_tested w large.0).0 large.1 in
    let front : leb_front w ≡ w = leb_front-leb w t.0 in
    let number : is_leb (leb_front w) ≡ true = ap is_leb front ∙ t.0 in
    let le : 2 ^ 64 ≤ groups (leb_front w) = omega (arith, ap groups front, t.1, large.2) in
    let none : leb_block_spelt w ≡ bad fault.LebRange = rw (number, le-ltb _ _ le, t.0) refl in
    ap (λ (g : Form). value_spelt order format g w) is ∙ none

-- the bytes, and one more
pub one_more : (rest size bytes : List ℕ) (byte : ℕ) → rest ≡ size ++ bytes
    → rest ++ byte ∷ [] ≡ size ++ (bytes ++ byte ∷ [])
one_more rest size bytes byte e = ap (λ (l : List ℕ). l ++ byte ∷ []) e ∙ append_assoc size bytes (byte ∷ [])
