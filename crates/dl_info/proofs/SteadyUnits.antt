-- What is read of a unit's bytes, and of the same bytes with others behind.
use Rattle.std.proofs.Common.{◌≡◌, ℕ, ◌+◌, ◌-◌, ◌^◌, ◌<◌, ◌≤◌, Bool, true, false, List, [], ◌∷◌, ◌++◌, length, take, drop}
use Rattle.std.proofs.Common.{cond, nat_le}
use Rattle.std.proofs.Common.{Result, Ok, Err, refl, sym, ap, subst, ◌∙◌, arith, inl, inr}
use Rattle.std.proofs.Common.{length-append, length-drop, length-take, nat_lt}
use Rattle.std.specs.Prelude.{◌==◌, ◌||◌}
use Rattle.std.proofs.lemmas.Bool.{cases_lt, le-leb, le-ltb, lt-leb}
use Rattle.std.proofs.lemmas.List.{append-nil, take_all, take-append-le}
use Rattle.std.proofs.Math.Seq.{take-append-add}
use Rattle.dl_num.specs.declared.fixed.Order.{Order}
use Rattle.dl_num.specs.Fixed.{fixed}
use Rattle.dl_table.specs.declared.form.Format.{Format}
use Rattle.dl_table.specs.declared.form.Format.TheVariants.{Dwarf32, Dwarf64}
use Rattle.dl_table.specs.Value.{offset_size}
use Rattle.dl_info.specs.declared.front.FieldFault.{FieldFault}
use Rattle.dl_info.specs.declared.front.FieldFault.TheVariants.{Short, Damaged}
use Rattle.dl_info.specs.declared.form.Encoding.{Encoding}
use Rattle.dl_info.specs.declared.form.Shape.{Shape}
use Rattle.dl_info.specs.declared.form.Shape.TheVariants as shape
use Rattle.dl_info.specs.declared.abbreviation.Attribute.{Attribute}
use Rattle.dl_info.specs.declared.head.UnitLength.{UnitLength}
use Rattle.dl_info.specs.declared.unit.Answer.{Answer}
use Rattle.dl_info.specs.declared.unit.Answer.TheVariants.{Found, More, Unreadable}
use Rattle.dl_info.specs.Front.{◌>>=◌, bytes_at, fixed_at, uleb_at}
use Rattle.dl_info.specs.Forms.{direct_at, indirect_at, leb_sized_at, shape_of, shaped_at, sized_at, value_at}
use Rattle.dl_info.specs.Heads.{head_at, kind_size, length_at, long_length_at, newer_head_at, older_head_at}
use Rattle.dl_info.specs.Abbreviations.{declared_in, or_none}
use Rattle.dl_info.specs.Entries.{EntryData, entry_at, values_at, with_value, without_values}
use Rattle.dl_info.specs.Units.{entry_of, entry_with, length_answer, settled, unit_length}
use Rattle.dl_info.specs.Laws.{AnswersStay, IsTold, LengthsStay, TwelveBytesTell, WholeUnitsTell}
use Rattle.dl_info.proofs.SteadyLemmas.{Continues, Steady, steady_bytes, steady_damaged, steady_done, steady_fixed}
use Rattle.dl_info.proofs.SteadyLemmas.{steady_if, steady_leb, steady_or_damaged, steady_text, steady_then, steady_uleb}

-- ---- values

steady_sized : (order : Order) (n : ℕ) → Steady (sized_at order n)
unfolding sized_at
steady_sized order n = steady_then (fixed_at order n) _ (steady_fixed order n) (λ size. steady_bytes size)

steady_leb_sized : Steady leb_sized_at
unfolding leb_sized_at
steady_leb_sized = steady_then uleb_at _ steady_uleb (λ size. steady_bytes size)

steady_shaped : (order : Order) (s : Shape) → Steady (shaped_at order s)
steady_shaped order (shape.Bytes n) = steady_bytes n
steady_shaped order shape.Leb = steady_leb
steady_shaped order shape.Text = steady_text
steady_shaped order shape.Block1 = steady_sized order 1
steady_shaped order shape.Block2 = steady_sized order 2
steady_shaped order shape.Block4 = steady_sized order 4
steady_shaped order shape.Block = steady_leb_sized

steady_direct : (e : Encoding) (form : ℕ) → Steady (direct_at e form)
unfolding direct_at
steady_direct e form =
    steady_or_damaged (shape_of e form) _
    (λ s. steady_then (shaped_at e.order s) _ (steady_shaped e.order s) (λ w. steady_done _))

steady_indirect : (e : Encoding) → Steady (indirect_at e)
unfolding indirect_at
steady_indirect e = steady_then uleb_at _ steady_uleb (λ form. steady_if _ _ _ steady_damaged (steady_direct e form))

steady_value : (e : Encoding) (form : ℕ) → Steady (value_at e form)
steady_value e form = steady_if _ _ _ (steady_indirect e) (steady_direct e form)

steady_values : (e : Encoding) (attributes : List Attribute) (told : EntryData) → Steady (values_at e attributes told)
steady_values e [] told = steady_done told
steady_values e (a ∷ attributes) told =
    steady_then (value_at e a.form) _ (steady_value e a.form)
    (λ v. steady_values e attributes (with_value e.order a.name v told))

-- ---- heads

steady_long_length : (order : Order) → Steady (long_length_at order)
unfolding long_length_at
steady_long_length order =
    steady_then (fixed_at order 8) _ (steady_fixed order 8) (λ n. steady_if _ _ _ (steady_done _) steady_damaged)

pub steady_length : (order : Order) → Steady (length_at order)
unfolding length_at
steady_length order =
    steady_then (fixed_at order 4) _ (steady_fixed order 4)
    (λ n. steady_if (nat_lt n 0xfffffff0) _ _ (steady_done (record { format = Dwarf32; size = n + 4 }))
    (steady_if (n == 0xffffffff) _ _ (steady_long_length order) steady_damaged))

steady_older : (order : Order) (format : Format) (version : ℕ) → Steady (older_head_at order format version)
unfolding older_head_at
steady_older order format version =
    steady_then (fixed_at order (offset_size format)) _ (steady_fixed order (offset_size format))
    (λ abbreviations. steady_then (fixed_at order 1) _ (steady_fixed order 1) (λ address. steady_done _))

steady_newer : (order : Order) (format : Format) → Steady (newer_head_at order format)
unfolding newer_head_at
steady_newer order format =
    steady_then (fixed_at order 1) _ (steady_fixed order 1) (λ kind. steady_or_damaged (kind_size format kind) _
    (λ more. steady_then (fixed_at order 1) _ (steady_fixed order 1)
    (λ address. steady_then (fixed_at order (offset_size format)) _ (steady_fixed order (offset_size format))
    (λ abbreviations. steady_then (bytes_at more) _ (steady_bytes more) (λ others. steady_done _)))))

steady_head : (order : Order) → Steady (head_at order)
unfolding head_at
steady_head order =
    steady_then (length_at order) _ (steady_length order) (λ l. steady_then (fixed_at order 2) _ (steady_fixed order 2)
    (λ version. steady_if ((version == 2) || (version == 3) || (version == 4)) _ _ (steady_older order l.format version)
    (steady_if (version == 5) _ _ (steady_newer order l.format) steady_damaged)))

-- ---- entries

steady_or_none : {A B : Type 0} (r : Result A FieldFault) (next : A → List ℕ → Result (B × List ℕ) FieldFault)
    → ((x : A) → Steady (next x)) → Steady (λ b. or_none r >>= λ x. next x b)
steady_or_none (Ok x) next steady = steady x
steady_or_none (Err s) next steady = steady_damaged

pub steady_entry : (order : Order) (abbreviations : List ℕ) → Steady (entry_at order abbreviations)
unfolding entry_at
steady_entry order abbreviations =
    steady_then (head_at order) _ (steady_head order) (λ head. steady_then uleb_at _ steady_uleb
    (λ code. let table = drop head.abbreviations abbreviations in
    steady_or_none (declared_in (length table) code table) _
    (λ attributes. steady_values head.encoding attributes (without_values head.encoding.format))))

-- ---- lengths

length_again : (now after : Result (UnitLength × List ℕ) FieldFault) (c : List ℕ) → Continues now c after
    → IsTold (length_answer now) → length_answer after ≡ length_answer now
length_again (Ok x) after c same told = ap length_answer same
length_again (Err Damaged) after c same told = ap length_answer same
length_again (Err (Short n)) after c same told = absurd (told refl)

pub lengths_stay : LengthsStay
lengths_stay order b c told =
    length_again (length_at order b) (length_at order (b ++ c)) c ((steady_length order).continues b c) told

-- ---- first entries

-- with others behind that are no more than the unit has
settled_again : (beyond : ℕ) (now after : Result (EntryData × List ℕ) FieldFault) (c : List ℕ) → Continues now c after
    → length c ≤ beyond → IsTold (settled beyond now) → settled (beyond - length c) after ≡ settled beyond now
settled_again beyond (Ok x) after c same few told = ap (settled (beyond - length c)) same
settled_again beyond (Err Damaged) after c same few told = ap (settled (beyond - length c)) same
settled_again beyond (Err (Short n)) after c same few told = elim (cases_lt beyond n) [
  | inl less ↦
      let still : beyond - length c < n - length c = omega (arith, less, few) in
      ap (settled (beyond - length c)) (same.1 (omega (arith, less, few)))
      ∙ (rw (lt-leb n beyond less, lt-leb (n - length c) (beyond - length c) still) refl)
  | inr enough ↦ absurd (told (rw (le-leb n beyond enough) refl))
]

-- of a unit of which all bytes are known
settled_whole : (now : Result (EntryData × List ℕ) FieldFault) → Continues now [] now → IsTold (settled 0 now)
settled_whole (Ok x) same more = absurd cc
settled_whole (Err Damaged) same more = absurd cc
settled_whole (Err (Short n)) same more =
    let none : nat_le n 0 ≡ false = lt-leb n 0 (omega (arith, same.0)) in
    absurd (let both : Unreadable ≡ More = sym (ap (λ t. cond t More Unreadable) none) ∙ more in cc)

of_longer : (order : Order) (abbreviations : List ℕ) (size : ℕ) (b c : List ℕ)
    → IsTold (entry_of order abbreviations size (take size b))
    → entry_of order abbreviations size (take size (b ++ c)) ≡ entry_of order abbreviations size (take size b)
of_longer order abbreviations size b c told = elim (cases_lt (length b) size) [
  | inl less ↦
      let more = size - length b in
      let d = take more c in
      let few : length d ≤ more = omega (arith, length-take more c) in
      let whole : take size b ≡ b = take_all size b (omega (arith, less)) in
      let size_is : length b + more ≡ size = omega (arith, less) in
      let longer : take size (b ++ c) ≡ b ++ d =
      ap (λ n. take n (b ++ c)) (sym size_is) ∙ take-append-add b c more in
      let left : size - length (b ++ d) ≡ more - length d = omega (arith, length-append b d) in
      let known : IsTold (settled more (entry_at order abbreviations b)) =
      subst (λ unit. IsTold (entry_of order abbreviations size unit)) whole told in
      ap (entry_of order abbreviations size) longer
      ∙ (ap (λ n. settled n (entry_at order abbreviations (b ++ d))) left
      ∙ (settled_again more (entry_at order abbreviations b) (entry_at order abbreviations (b ++ d)) d
      ((steady_entry order abbreviations).continues b d) few known
      ∙ sym (ap (entry_of order abbreviations size) whole)))
  | inr enough ↦ ap (entry_of order abbreviations size) (take-append-le size b c enough)
]

with_longer : (order : Order) (abbreviations b c : List ℕ) (u : Answer UnitLength)
    → IsTold (entry_with order abbreviations b u)
    → entry_with order abbreviations (b ++ c) u ≡ entry_with order abbreviations b u
with_longer order abbreviations b c (Found l) told = of_longer order abbreviations l.size b c told
with_longer order abbreviations b c More told = refl
with_longer order abbreviations b c Unreadable told = refl

length_told : (order : Order) (abbreviations b : List ℕ) (u : Answer UnitLength)
    → IsTold (entry_with order abbreviations b u) → IsTold u
length_told order abbreviations b (Found l) told more = absurd cc
length_told order abbreviations b More told more = told refl
length_told order abbreviations b Unreadable told more = absurd cc

pub answers_stay : AnswersStay
answers_stay order abbreviations b c told =
    let same = lengths_stay order b c (length_told order abbreviations b (unit_length order b) told) in
    ap (entry_with order abbreviations (b ++ c)) same ∙ with_longer order abbreviations b c (unit_length order b) told

pub whole_units_tell : WholeUnitsTell
whole_units_tell order abbreviations b l is within =
    let unit = take l.size b in
    let none : l.size - length unit ≡ 0 = omega (arith, length-take l.size b, within) in
    let read = entry_at order abbreviations in
    let same : Continues (read unit) [] (read unit) =
    subst (λ w. Continues (read unit) [] (read w)) (append-nil unit)
    ((steady_entry order abbreviations).continues unit []) in
    let told : IsTold (settled 0 (read unit)) = settled_whole (read unit) same in
    let so : IsTold (entry_of order abbreviations l.size unit) =
    subst (λ n. IsTold (settled n (read unit))) (sym none) told in
    subst (λ u. IsTold (entry_with order abbreviations b u)) (sym is) so

-- ---- twelve bytes

fixed_whole : (order : Order) (n : ℕ) (b : List ℕ) → n ≤ length b
    → fixed_at order n b ≡ Ok (fixed order (take n b), drop n b)
unfolding fixed_at
fixed_whole order n b enough = rw (le-ltb (length b) n enough) refl

told_if : (t : Bool) (f g : Result (UnitLength × List ℕ) FieldFault) → IsTold (length_answer f) → IsTold (length_answer g)
    → IsTold (length_answer (cond t f g))
told_if true f g tf tg = tf
told_if false f g tf tg = tg

told_found : (x : UnitLength × List ℕ) → IsTold (length_answer (Ok x))
told_found x more = absurd cc

told_damaged : IsTold (length_answer (Err Damaged))
told_damaged more = absurd cc

long_told : (order : Order) (b : List ℕ) → 8 ≤ length b → IsTold (length_answer (long_length_at order b))
unfolding long_length_at
long_told order b enough =
    let n = fixed order (take 8 b) in
    let l : UnitLength × List ℕ = (record { format = Dwarf64; size = n + 12 }, drop 8 b) in
    rw (fixed_whole order 8 b enough)
    (told_if (nat_lt (n + 12) (2 ^ 64)) (Ok l) (Err Damaged) (told_found l) told_damaged)

pub twelve_bytes_tell : TwelveBytesTell
unfolding length_at
twelve_bytes_tell order b enough =
    let rest : 8 ≤ length (drop 4 b) = omega (arith, length-drop 4 b, enough) in
    let four : 4 ≤ length b = omega (arith, enough) in
    let n = fixed order (take 4 b) in
    let l : UnitLength × List ℕ = (record { format = Dwarf32; size = n + 4 }, drop 4 b) in
    let long = long_length_at order (drop 4 b) in
    rw (fixed_whole order 4 b four)
    (told_if (nat_lt n 0xfffffff0) (Ok l) (cond (n == 0xffffffff) long (Err Damaged)) (told_found l)
    (told_if (n == 0xffffffff) long (Err Damaged) (long_told order (drop 4 b) rest) told_damaged))
