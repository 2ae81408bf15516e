-- A value that is read fits its form. DWARF 5, section 7.5.5.
use Rattle.std.proofs.Common.{◌≡◌, ℕ, ◌^◌, ◌<◌, true, not, ◌==◌, List, [], ◌∷◌, ◌++◌, length, refl, sym, subst}
use Rattle.std.specs.List.{list_all}
use Rattle.std.proofs.lemmas.Bool.{lt-ltb, eq-eqb, ne_eqb}
use Rattle.dl_num.specs.declared.fixed.Order.{Order}
use Rattle.dl_num.specs.Fixed.{fixed}
use Rattle.dl_num.specs.Laws.{AllBytes}
use Rattle.dl_num.proofs.FixedLaws.{fixed_is_below}
use Rattle.dl_table.specs.declared.form.Format.{Format}
use Rattle.dl_table.specs.declared.form.Format.TheVariants.{Dwarf32, Dwarf64}
use Rattle.dl_table.specs.declared.form.Form.{Form}
use Rattle.dl_table.specs.declared.form.Form.TheVariants as form
use Rattle.dl_table.specs.Value.{Value, offset_size}
use Rattle.dl_field.specs.Field.{IsFixed, HasNoZero, IsValue}
use Rattle.dl_table.specs.Built.{fits_offset, fits_form}

-- ---- bytes

pub front_bytes : (v w : List ℕ) → AllBytes (v ++ w) → AllBytes v
front_bytes [] w all = tt
front_bytes (b ∷ v) w all = (all.0, front_bytes v w all.1)

pub back_bytes : (v w : List ℕ) → AllBytes (v ++ w) → AllBytes w
back_bytes [] w all = all
back_bytes (b ∷ v) w all = back_bytes v w all.1

-- ---- values

pub fixed_below : (order : Order) (k n : ℕ) (w : List ℕ) → AllBytes w → IsFixed order k n w → n < 256 ^ k
fixed_below order k n w all is = let lt = fixed_is_below order w all in
    subst (λ (m : ℕ). m < 256 ^ k) (sym is.1) (subst (λ (j : ℕ). fixed order w < 256 ^ j) is.0 lt)

offset_below : (order : Order) (format : Format) (n : ℕ) (w : List ℕ) → AllBytes w
    → IsFixed order (offset_size format) n w → fits_offset format n ≡ true
offset_below order Dwarf32 n w all is = lt-ltb n (2 ^ 32) (fixed_below order 4 n w all is)
offset_below order Dwarf64 n w all is = lt-ltb n (2 ^ 64) (fixed_below order 8 n w all is)

pub no_zeros : (w : List ℕ) → HasNoZero w → list_all (λ b. not (b == 0)) w ≡ true
no_zeros [] h = refl
no_zeros (b ∷ w) h = rw (ne_eqb b 0 h.0) (no_zeros w h.1)

size_bytes : (size bytes w : List ℕ) → w ≡ size ++ bytes → AllBytes w → AllBytes size
size_bytes size bytes w e all = front_bytes size bytes (subst AllBytes e all)

-- a value that is read fits its form
pub value_fits : (order : Order) (format : Format) (f : Form) (v : Value) (w : List ℕ) → AllBytes w
    → IsValue order format f v w → fits_form format f v ≡ true
value_fits order format form.Block2 v w all is = let size = is.2 in
    rw is.1 (lt-ltb (length is.0) (2 ^ 16)
    (fixed_below order 2 (length is.0) size.0 (size_bytes size.0 is.0 w size.1 all) size.2))
value_fits order format form.Block4 v w all is = let size = is.2 in
    rw is.1 (lt-ltb (length is.0) (2 ^ 32)
    (fixed_below order 4 (length is.0) size.0 (size_bytes size.0 is.0 w size.1 all) size.2))
value_fits order format form.Data2 v w all is = rw is.1 (lt-ltb is.0 (2 ^ 16) (fixed_below order 2 is.0 w all is.2))
value_fits order format form.Data4 v w all is = rw is.1 (lt-ltb is.0 (2 ^ 32) (fixed_below order 4 is.0 w all is.2))
value_fits order format form.Data8 v w all is = rw is.1 (lt-ltb is.0 (2 ^ 64) (fixed_below order 8 is.0 w all is.2))
value_fits order format form.String v w all is = rw is.1 (no_zeros is.0 is.2.1)
value_fits order format form.Block v w all is = rw is.1 (lt-ltb (length is.0) (2 ^ 64) is.2.2.1)
value_fits order format form.Block1 v w all is = let size = is.2 in
    rw is.1 (lt-ltb (length is.0) (2 ^ 8)
    (fixed_below order 1 (length is.0) size.0 (size_bytes size.0 is.0 w size.1 all) size.2))
value_fits order format form.Data1 v w all is = rw is.1 (lt-ltb is.0 (2 ^ 8) (fixed_below order 1 is.0 w all is.2))
value_fits order format form.Strp v w all is = rw is.1 (offset_below order format is.0 w all is.2)
value_fits order format form.Udata v w all is = rw is.1 (lt-ltb is.0 (2 ^ 64) is.2.1)
value_fits order format form.StrpSup v w all is = rw is.1 (offset_below order format is.0 w all is.2)
value_fits order format form.Data16 v w all is = rw is.0 (eq-eqb (length w) 16 is.1)
value_fits order format form.LineStrp v w all is = rw is.1 (offset_below order format is.0 w all is.2)
