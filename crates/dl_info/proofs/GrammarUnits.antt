-- The readers of fields, values, heads and entries, and the grammar of these.
use Rattle.std.proofs.Common.{◌≡◌, ℕ, ◌+◌, ◌-◌, ◌^◌, ◌≤◌, List, [], ◌∷◌, ◌++◌, length, take, drop}
use Rattle.std.proofs.Common.{Ok, refl, sym, ap, ◌∙◌, arith, inl, inr, nat_lt}
use Rattle.std.proofs.Common.{append_assoc, length-append, length-take}
use Rattle.std.specs.Prelude.{◌==◌, ◌||◌}
use Rattle.std.proofs.lemmas.Bool.{cases_Bool, cases_lt, le-ltb, lt-ltb}
use Rattle.std.proofs.lemmas.List.{drop_at, take_at, take-append-drop}
use Rattle.dl_num.specs.declared.fixed.Order.{Order}
use Rattle.dl_num.specs.Leb.{groups}
use Rattle.dl_num.specs.LebFront.{is_leb, leb_front, after_leb}
use Rattle.dl_num.proofs.LebLaws.{leb_is}
use Rattle.dl_table.specs.declared.form.Format.{Format}
use Rattle.dl_table.specs.declared.form.Format.TheVariants.{Dwarf32, Dwarf64}
use Rattle.dl_table.specs.Value.{offset_size}
use Rattle.dl_info.specs.declared.front.FieldFault.TheVariants.{Short, Damaged}
use Rattle.dl_info.specs.declared.form.Encoding.{Encoding}
use Rattle.dl_info.specs.declared.form.Shape.{Shape}
use Rattle.dl_info.specs.declared.form.Shape.TheVariants as shape
use Rattle.dl_info.specs.declared.abbreviation.Attribute.{Attribute}
use Rattle.dl_info.specs.Front.{bytes_at, fixed_at, leb_at, text_at, uleb_at}
use Rattle.dl_info.specs.Forms.{direct_at, indirect_at, leb_sized_at, shape_of, shaped_at, sized_at, value_at}
use Rattle.dl_info.specs.Heads.{head_at, kind_size, length_at, long_length_at, newer_head_at, older_head_at}
use Rattle.dl_info.specs.Entries.{EntryData, values_at, with_value}
use Rattle.dl_info.specs.Grammar.{AreValues, IsBytes, IsDirect, IsFixed, IsHead, IsIndirect, IsLebSized}
use Rattle.dl_info.specs.Grammar.{IsLength, IsLongLength, IsNewerHead, IsNumber, IsOlderHead, IsShaped, IsSized, IsText}
use Rattle.dl_info.specs.Grammar.{IsUleb64, IsValue}
use Rattle.dl_info.proofs.FrontLemmas.{leb_here, number_here}
use Rattle.dl_info.proofs.SpelledLemmas.{fixed_read, fixed_told, front_and_rest, not_read, text_read, text_told, uleb_told}
use Rattle.dl_info.proofs.SpelledLemmas.{Reads, value_is}
use Rattle.dl_info.proofs.GrammarLemmas.{done_reads, known_reads, never_reads, Reader, then_reads, which_reads}

-- ---- fields

bytes_told : (n : ℕ) (b rest x : List ℕ) → Reads (bytes_at n b) x rest
    → (w : List ℕ) × (b ≡ w ++ rest) × IsBytes n x w
bytes_told n b rest x is = elim (cases_lt (length b) n) [
  | inl less ↦ absurd (not_read (Short (n - length b)) x rest (rw (lt-ltb (length b) n less) at is))
  | inr enough ↦
      let same = value_is (take n b) x (drop n b) rest (rw (le-ltb (length b) n enough) at is) in
      (take n b, rw (← same.1) (sym (take-append-drop n b)), (same.0, omega (arith, length-take n b, enough)))
]

bytes_read : (n : ℕ) (x w rest : List ℕ) → IsBytes n x w → Reads (bytes_at n (w ++ rest)) x rest
bytes_read n x w rest is =
    let enough : n ≤ length (w ++ rest) = omega (arith, length-append w rest, is.1) in
    rw (← is.0) (rw (le-ltb (length (w ++ rest)) n enough, take_at w rest n is.1, drop_at w rest n is.1) refl)

pub reads_bytes : (n : ℕ) → Reader (bytes_at n) (IsBytes n)
reads_bytes n = record { told = bytes_told n; gives = bytes_read n }

reads_fixed : (order : Order) (k : ℕ) → Reader (fixed_at order k) (IsFixed order k)
reads_fixed order k =
    record {
      told = λ b rest n is. let s = fixed_told order k n b rest is in (s.0, s.1, (s.2, s.3));
      gives = λ n w rest is. fixed_read order k n (w ++ rest) rest w refl is.0 is.1;
    }

pub reads_uleb : Reader uleb_at IsUleb64
reads_uleb =
    record {
      told = λ b rest n is. let s = uleb_told n b rest is in (s.0, s.1, (s.2, s.3));
      gives = λ n w rest is. number_here (w ++ rest) w rest n refl is.0 is.1;
    }

leb_told : (b rest x : List ℕ) → Reads (leb_at b) x rest → (w : List ℕ) × (b ≡ w ++ rest) × IsNumber x w
leb_told b rest x is =
    let w = leb_front b in
    elim (cases_Bool (is_leb w)) [
      | inl whole ↦
          let same = value_is w x (after_leb b) rest (rw whole at is) in
          let leb = leb_is w whole in
          (w, rw (← same.1) (front_and_rest b), (same.0, (groups w, (leb.0, leb.1, leb.2, refl))))
      | inr none ↦ absurd (not_read (Short 1) x rest (rw none at is))
    ]

pub reads_leb : Reader leb_at IsNumber
reads_leb =
    record {
      told = leb_told;
      gives = λ x w rest is. leb_here (w ++ rest) w rest is.1.0 refl is.1.1 ∙ ap (λ y. Ok (y, rest)) is.0;
    }

reads_text : Reader text_at IsText
reads_text =
    record {
      told = λ b rest t is.
          let s = text_told t b rest is in
          (t ++ 0 ∷ [], s.0 ∙ sym (append_assoc t (0 ∷ []) rest), (refl, s.1));
      gives = λ t w rest is.
          text_read t (w ++ rest) rest (ap (λ z. z ++ rest) is.0 ∙ append_assoc t (0 ∷ []) rest) is.1;
    }

-- ---- values

reads_sized : (order : Order) (n : ℕ) → Reader (sized_at order n) (IsSized order n)
unfolding sized_at
reads_sized order n =
    then_reads (fixed_at order n) bytes_at (IsFixed order n) IsBytes (reads_fixed order n) reads_bytes

reads_leb_sized : Reader leb_sized_at IsLebSized
unfolding leb_sized_at
reads_leb_sized = then_reads uleb_at bytes_at IsUleb64 IsBytes reads_uleb reads_bytes

reads_shaped : (order : Order) (s : Shape) → Reader (shaped_at order s) (IsShaped order s)
reads_shaped order (shape.Bytes n) = reads_bytes n
reads_shaped order shape.Leb = reads_leb
reads_shaped order shape.Text = reads_text
reads_shaped order shape.Block1 = reads_sized order 1
reads_shaped order shape.Block2 = reads_sized order 2
reads_shaped order shape.Block4 = reads_sized order 4
reads_shaped order shape.Block = reads_leb_sized

reads_direct : (e : Encoding) (form : ℕ) → Reader (direct_at e form) (IsDirect e form)
unfolding direct_at
reads_direct e form =
    known_reads (shape_of e form) _ _
    (λ s. then_reads (shaped_at e.order s) _ (IsShaped e.order s) _ (reads_shaped e.order s)
    (λ w. done_reads (record { form = form; bytes = w })))

reads_indirect : (e : Encoding) → Reader (indirect_at e) (IsIndirect e)
unfolding indirect_at
reads_indirect e =
    then_reads uleb_at _ IsUleb64 _ reads_uleb
    (λ form. which_reads (form == 0x21) _ _ _ _ (never_reads Damaged) (reads_direct e form))

reads_value : (e : Encoding) (form : ℕ) → Reader (value_at e form) (IsValue e form)
reads_value e form = which_reads (form == 0x16) _ _ _ _ (reads_indirect e) (reads_direct e form)

pub reads_values : (e : Encoding) (attributes : List Attribute) (told : EntryData)
    → Reader (values_at e attributes told) (AreValues e attributes told)
reads_values e [] told = done_reads told
reads_values e (a ∷ attributes) told =
    then_reads (value_at e a.form) _ (IsValue e a.form) _ (reads_value e a.form)
    (λ v. reads_values e attributes (with_value e.order a.name v told))

-- ---- heads

reads_long_length : (order : Order) → Reader (long_length_at order) (IsLongLength order)
unfolding long_length_at
reads_long_length order =
    then_reads (fixed_at order 8) _ (IsFixed order 8) _ (reads_fixed order 8)
    (λ n. which_reads (nat_lt (n + 12) (2 ^ 64)) _ _ _ _ (done_reads (record { format = Dwarf64; size = n + 12 }))
    (never_reads Damaged))

pub reads_length : (order : Order) → Reader (length_at order) (IsLength order)
unfolding length_at
reads_length order =
    then_reads (fixed_at order 4) _ (IsFixed order 4) _ (reads_fixed order 4)
    (λ n. which_reads (nat_lt n 0xfffffff0) _ _ _ _ (done_reads (record { format = Dwarf32; size = n + 4 }))
    (which_reads (n == 0xffffffff) _ _ _ _ (reads_long_length order) (never_reads Damaged)))

reads_older : (order : Order) (format : Format) (version : ℕ)
    → Reader (older_head_at order format version) (IsOlderHead order format version)
unfolding older_head_at
reads_older order format version =
    let size = offset_size format in
    then_reads (fixed_at order size) _ (IsFixed order size) _ (reads_fixed order size)
    (λ abbreviations. then_reads (fixed_at order 1) _ (IsFixed order 1) _ (reads_fixed order 1)
    (λ address. done_reads _))

reads_newer : (order : Order) (format : Format) → Reader (newer_head_at order format) (IsNewerHead order format)
unfolding newer_head_at
reads_newer order format =
    let size = offset_size format in
    then_reads (fixed_at order 1) _ (IsFixed order 1) _ (reads_fixed order 1)
    (λ kind. known_reads (kind_size format kind) _ _
    (λ more. then_reads (fixed_at order 1) _ (IsFixed order 1) _ (reads_fixed order 1)
    (λ address. then_reads (fixed_at order size) _ (IsFixed order size) _ (reads_fixed order size)
    (λ abbreviations. then_reads (bytes_at more) _ (IsBytes more) _ (reads_bytes more) (λ others. done_reads _)))))

pub reads_head : (order : Order) → Reader (head_at order) (IsHead order)
unfolding head_at
reads_head order =
    then_reads (length_at order) _ (IsLength order) _ (reads_length order)
    (λ l. then_reads (fixed_at order 2) _ (IsFixed order 2) _ (reads_fixed order 2)
    (λ version. which_reads ((version == 2) || (version == 3) || (version == 4)) _ _ _ _
    (reads_older order l.format version)
    (which_reads (version == 5) _ _ _ _ (reads_newer order l.format) (never_reads Damaged))))
