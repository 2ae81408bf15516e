-- The length of a unit, and the version of a foreign one, as they are computed; and that this holds no cells.
use Rattle.dl_head.specs.declared.dialect.Dialect.{Dialect}
use Rattle.std.proofs.Common.{◌≡◌, ◌≢◌, ℕ, ◌≤◌, ◌^◌, ◌+◌, List, [], ◌∷◌, ◌++◌, length, Option, Some, None, refl, sym}
use Rattle.std.proofs.Common.{ap, ◌∙◌, arith, inl, inr, length-append, append_assoc, append-nil, sum_by}
use Rattle.std.proofs.lemmas.List.{nil_from_length}
use Rattle.std.proofs.lemmas.Bool.{cases_eq, eq-eqb, ne_eqb}
use Rattle.dl_num.specs.declared.fixed.Order.{Order}
use Rattle.dl_table.specs.declared.form.Format.{Format}
use Rattle.dl_table.specs.declared.form.Format.TheVariants.{Dwarf32, Dwarf64}
use Rattle.dl_table.specs.Value.{good}
use Rattle.dl_field.specs.Field.{IsInitialLength}
use Rattle.dl_field.specs.Layout.{version, Layout, number_then, foreign_version, Item, length_is, number_is, following}
use Rattle.dl_field.specs.Layout.{following_all, field_spelt}
use Rattle.dl_head.specs.Dialect.{older_size}
use Rattle.dl_head.specs.HeaderLayout.{header_layout, initial_size, from_address_size, format_alone, older_params}
use Rattle.dl_head.specs.HeaderLayout.{from_older_version}
use Rattle.dl_head.specs.Header.{SpellsFields, Cut, cut, unit_end, unit_len, foreign_made, foreign_in}
use Rattle.dl_field.proofs.FieldLemmas.{none_some}
use Rattle.dl_field.proofs.FieldLaws.{field_is_judged}
use Rattle.dl_head.proofs.CutLemmas.{cut_front, cut_sound, Sound}
use Rattle.dl_head.proofs.HeaderLaws.{cut_is_computed}
use Rattle.dl_head.proofs.RefusalLaws.{foreign_last}
use Rattle.dl_head.proofs.FirstFields.{not_foreign, older_not_foreign, is_number, is_length}
use Rattle.dl_head.proofs.Openings.{after_length}
use Rattle.dl_rows.specs.LineUnit.{HasItsLength, IsForeignUnit, IsUnit}
use Rattle.dl_rows.specs.UnitLaws.{LengthIsComputed, NoUnitBeginsAnother}
use Rattle.dl_rows.proofs.UnitLemmas.{unit_len_on}
use Rattle.std.proofs.lemmas.List.Sums.{sum_by-cons}
use Rattle.dl_field.specs.Cells.{item_cells, rest_cells}
use Rattle.dl_head.specs.Cells.{cells}

length_same : (f g : Format) (m n : ℕ) → length_is f m ≡ length_is g n → initial_size f + m ≡ initial_size g + n
length_same f g m n e = cc

pub some_same : (m n : ℕ) → ◌≡◌ {A = Option ℕ} (Some m) (Some n) → m ≡ n
some_same m n e = cc

initial_length : (order : Order) (format : Format) (n : ℕ) (w : List ℕ) → IsInitialLength order format n w
    → length w ≡ initial_size format
initial_length order Dwarf32 n w s = s.0.0
initial_length order Dwarf64 n w s =
    let l = ap length s.2 in let m = length-append s.0 s.1 in omega (arith, s.3.0, s.4.0)

-- an initial length is the first field
length_judged : (dialect : Dialect) (format : Format) (n : ℕ) (w : List ℕ) → IsInitialLength dialect.order format n w
    → field_spelt dialect.order (header_layout dialect) w ≡ good (length_is format n)
length_judged dialect format n w s = (field_is_judged dialect.order (header_layout dialect) (length_is format n) w).0
    (format, n, refl, s)

length_of : (dialect : Dialect) (u : List ℕ) → HasItsLength dialect.order u → unit_len dialect u ≡ Some (length u)
length_of dialect u is =
    let first = length_judged dialect is.format is.unit_length is.front is.spells in
    let whole : initial_size is.format + is.unit_length ≡ length u =
    omega (
      arith,
      ap length is.whole,
      length-append is.front is.rest,
      is.size,
      initial_length dialect.order is.format is.unit_length is.front is.spells,
    ) in
    ap (λ (b : List ℕ). unit_len dialect b) is.whole
    ∙ ap (λ (c : Cut). unit_end c.items)
    (cut_front dialect.order (header_layout dialect) is.front is.rest (length_is is.format is.unit_length) first)
    ∙ ap (λ (n : ℕ). Some n) whole

-- the initial length that is the first field
length_first : (dialect : Dialect) (u : List ℕ) (format : Format) (n : ℕ) (front rest : List ℕ) → u ≡ front ++ rest
    → field_spelt dialect.order (header_layout dialect) front ≡ good (length_is format n)
    → initial_size format + n ≡ length u → HasItsLength dialect.order u
length_first dialect u format n front rest whole e size =
    let is = (field_is_judged dialect.order (header_layout dialect) (length_is format n) front).1 e in
    let sizes = length_same format is.0 n is.1 is.2 in
    record {
      format = is.0;
      unit_length = is.1;
      front = front;
      rest = rest;
      whole = whole;
      spells = is.3;
      size = omega (
        arith,
        ap length whole,
        length-append front rest,
        initial_length dialect.order is.0 is.1 front is.3,
        sizes,
        size,
      );
    }

length_in : (dialect : Dialect) (u fields rest : List ℕ) (items : List Item) → u ≡ fields ++ rest
    → SpellsFields dialect.order (header_layout dialect) items fields → unit_end items ≡ Some (length u)
    → HasItsLength dialect.order u
length_in dialect u fields rest (length_is format n ∷ items) whole s e =
    length_first dialect u format n s.0 (s.1 ++ rest) (whole ∙ ap (λ (w : List ℕ). w ++ rest) s.2
    ∙ append_assoc s.0 s.1 rest) s.3 (some_same _ _ e)
length_in dialect u fields rest other whole s e = absurd (none_some refl e)

pub length_is_computed : LengthIsComputed
length_is_computed dialect u = (
  length_of dialect u,
  λ e. (let s : Sound dialect.order (header_layout dialect) u (cut dialect
      u) = cut_sound dialect.order (header_layout dialect) [] u in
      length_in dialect u s.front (cut dialect u).rest (cut dialect u).items s.whole s.spelt e),
)

pub length_of_unit : (dialect : Dialect) (u : List ℕ) → IsUnit dialect u → unit_len dialect u ≡ Some (length u)
length_of_unit dialect u (inl foreign) = length_of dialect u foreign.1.its_length
length_of_unit dialect u (inr own) = length_of dialect u own.2.its_length

pub no_unit_begins_another : NoUnitBeginsAnother
no_unit_begins_another dialect u v one two =
    let same =
    some_same _ _ (sym (unit_len_on dialect u v (length u) (length_of_unit dialect u one))
    ∙ length_of_unit dialect (u ++ v) two) in
    nil_from_length v (omega (arith, same, length-append u v))

-- ---- the version of a foreign unit

pub foreign_of : (dialect : Dialect) (v : ℕ) (u : List ℕ) → IsForeignUnit dialect v u → foreign_in dialect u ≡ Some v
foreign_of dialect v u is =
    let l = is.its_length in
    let next : after_length dialect l.format l.unit_length v ≡ foreign_version v = rw (ne_eqb v 5 is.other)
    (rw is.unread refl) in
    let judged =
    (field_is_judged dialect.order (number_then version (after_length dialect l.format l.unit_length))
    (number_is v) is.front).0 (
      v,
      refl,
      is.spells,
      refl,
    ) in
    let computed = (cut_is_computed dialect u (length_is l.format l.unit_length ∷ number_is v ∷ []) is.back).0 (record {
      fields = l.front ++ is.front;
      whole = l.whole ∙ ap (λ (w : List ℕ). l.front ++ w) is.whole ∙ sym (append_assoc l.front is.front is.back);
      spelt = (
        l.front,
        is.front,
        refl,
        length_judged dialect l.format l.unit_length l.front l.spells,
        (is.front, [], sym (append-nil is.front), judged, refl),
      );
      no_more = λ front back i e f. none_some (ap (λ (x : Layout). field_spelt dialect.order x front) next) f;
    }) in
    ap (λ (c : Cut). foreign_made (following_all (header_layout dialect) c.items)) computed ∙ ap foreign_made next

-- after a foreign version no field is spelled
none_foreign : (order : Order) (v w : ℕ) (items : List Item) (b : List ℕ)
    → SpellsFields order (foreign_version v) items b → following_all (foreign_version v) items ≡ foreign_version w
    → v ≡ w
none_foreign order v w [] b s e = cc
none_foreign order v w (i ∷ items) b s e = absurd (none_some refl s.3)

pub number_same : (m n : ℕ) → number_is m ≡ number_is n → m ≡ n
number_same m n e = cc

-- what follows a version other than 5 leads to a foreign version only where it isn't read
unread_of : (order : Order) (format : Format) (n m v : ℕ) (o : Option ℕ) (items : List Item) (b : List ℕ)
    → SpellsFields order (from_older_version format n m o) items b
    → following_all (from_older_version format n m o) items ≡ foreign_version v → (m ≡ v) × (o ≡ None)
unread_of order format n m v None items b s e = (none_foreign order m v items b s e, refl)
unread_of order format n m v (Some size) items b s e =
    absurd (older_not_foreign n (older_params format m size) items v e)

-- the version, where none that is read was
version_of : (dialect : Dialect) (format : Format) (n m v : ℕ) (items : List Item) (b : List ℕ)
    → SpellsFields dialect.order (after_length dialect format n m) items b
    → following_all (after_length dialect format n m) items ≡ foreign_version v
    → (m ≡ v) × (v ≢ 5) × (older_size dialect v ≡ None)
version_of dialect format n m v items b s e = elim (cases_eq m 5) [
  | inl same ↦
      let f : following_all (from_address_size n (format_alone format)) items ≡ foreign_version v =
      rw (eq-eqb m 5 same) at e in
      absurd (not_foreign n (format_alone format) items v f)
  | inr other ↦
      let t : SpellsFields dialect.order (from_older_version format n m (older_size dialect m)) items b =
      rw (ne_eqb m 5 other) at s in
      let f : following_all (from_older_version format n m (older_size dialect m)) items ≡ foreign_version v =
      rw (ne_eqb m 5 other) at e in
      let found = unread_of dialect.order format n m v (older_size dialect m) items b t f in
      (found.0, λ five. other (found.0 ∙ five), ap (older_size dialect) (sym found.0) ∙ found.1)
]

foreign_in_fields : (dialect : Dialect) (v : ℕ) (u fields rest : List ℕ) (items : List Item) → u ≡ fields ++ rest
    → SpellsFields dialect.order (header_layout dialect) items fields → unit_end items ≡ Some (length u)
    → following_all (header_layout dialect) items ≡ foreign_version v → IsForeignUnit dialect v u
unfolding length_first
foreign_in_fields dialect v u fields rest [] whole s e f = absurd (none_some {a = v} refl (ap foreign_made f))
foreign_in_fields dialect v u fields rest (i ∷ []) whole s e f =
    let a = is_length dialect.order s.0 i s.3 in
    absurd (none_some {a = v} (ap (λ (j : Item). foreign_made (following (header_layout dialect) j)) a.item)
    (ap foreign_made f))
foreign_in_fields dialect v u fields rest (i ∷ j ∷ items) whole s e f =
    let a = is_length dialect.order s.0 i s.3 in
    let first : field_spelt dialect.order (header_layout dialect) s.0 ≡ good (length_is a.format a.number) =
    s.3 ∙ ap (λ (k : Item). good k) a.item in
    let next : SpellsFields dialect.order (number_then version (after_length dialect a.format a.number)) (j ∷ items)
    s.1 = rw a.item at s.4 in
    let n = is_number dialect.order version (after_length dialect a.format a.number) next.0 j next.3 in
    let tail : following_all (after_length dialect a.format a.number n.number) items ≡ foreign_version v =
    rw (a.item, n.item) at f in
    let found =
    version_of dialect a.format a.number n.number v items next.1
    (rw n.item at next.4) tail in
    let judged =
    (field_is_judged dialect.order (number_then version (after_length dialect a.format a.number))
    (number_is n.number) next.0).1
    (rw n.item at next.3) in
    record {
      its_length =
          length_first dialect u a.format a.number s.0 (s.1 ++ rest) (whole ∙ ap (λ (w : List ℕ). w ++ rest) s.2
          ∙ append_assoc s.0 s.1 rest) first
          (some_same _ _ (ap (λ (k : Item). unit_end (k ∷ j ∷ items)) (sym a.item) ∙ e));
      front = next.0;
      back = next.1 ++ rest;
      whole = ap (λ (w : List ℕ). w ++ rest) next.2 ∙ append_assoc next.0 next.1 rest;
      spells =
          rw (sym (number_same n.number judged.0 judged.1) ∙ found.0) at judged.2;
      other = found.1;
      unread = found.2;
    }

pub foreign_unit : (dialect : Dialect) (v : ℕ) (u : List ℕ) → unit_len dialect u ≡ Some (length u)
    → foreign_in dialect u ≡ Some v → IsForeignUnit dialect v u
foreign_unit dialect v u len foreign =
    let s : Sound dialect.order (header_layout dialect) u (cut dialect u) =
    cut_sound dialect.order (header_layout dialect) [] u in
    foreign_in_fields dialect v u s.front (cut dialect u).rest (cut dialect u).items s.whole s.spelt len
    (foreign_last (following_all (header_layout dialect) (cut dialect u).items) v foreign)

-- no unit is very long
small_length : (order : Order) (format : Format) (n : ℕ) (w : List ℕ) → IsInitialLength order format n w
    → initial_size format + n ≤ 2 ^ 41
small_length order Dwarf32 n w s = omega (arith, s.1)
small_length order Dwarf64 n w s = omega (arith, s.5)

pub unit_len_small : (dialect : Dialect) (b : List ℕ) (n : ℕ) → unit_len dialect b ≡ Some n → n ≤ 2 ^ 41
unit_len_small dialect b n e =
    let s : Sound dialect.order (header_layout dialect) b (cut dialect b) =
    cut_sound dialect.order (header_layout dialect) [] b in
    on (cut dialect b).items s.front s.spelt e
  where
    on : (items : List Item) (w : List ℕ) → SpellsFields dialect.order (header_layout dialect) items w
        → unit_end items ≡ Some n → n ≤ 2 ^ 41
    on (length_is format m ∷ items) w s e =
        let is = (field_is_judged dialect.order (header_layout dialect) (length_is format m) s.0).1 s.3 in
        let sizes = length_same format is.0 m is.1 is.2 in
        omega (arith, some_same _ _ e, sizes, small_length dialect.order is.0 is.1 s.0 is.3)
    on other w s e = absurd (none_some refl e)

-- ---- a foreign unit holds no cells

-- after a foreign version no field is spelled
after_version : (dialect : Dialect) (format : Format) (n m v : ℕ) (items : List Item) (w : List ℕ)
    → SpellsFields dialect.order (after_length dialect format n m) items w
    → following_all (after_length dialect format n m) items ≡ foreign_version v → sum_by item_cells items ≡ 0
after_version dialect format n m v [] w s e = refl
after_version dialect format n m v (i ∷ items) w s e =
    let found = version_of dialect format n m v (i ∷ items) w s e in
    let same : after_length dialect format n m ≡ foreign_version m =
    rw (found.0, ne_eqb v 5 found.1) (rw found.2 refl) in
    let t : SpellsFields dialect.order (foreign_version m) (i ∷ items) w = rw same at s in
    absurd (none_some refl t.3)

-- nor is its length or its version a cell
in_fields : (dialect : Dialect) (v : ℕ) (items : List Item) (w : List ℕ)
    → SpellsFields dialect.order (header_layout dialect) items w
    → following_all (header_layout dialect) items ≡ foreign_version v → sum_by item_cells items ≡ 0
in_fields dialect v [] w s f = absurd (none_some {a = v} refl (ap foreign_made f))
in_fields dialect v (i ∷ []) w s f =
    let a = is_length dialect.order s.0 i s.3 in
    absurd (none_some {a = v} (ap (λ (j : Item). foreign_made (following (header_layout dialect) j)) a.item)
    (ap foreign_made f))
in_fields dialect v (i ∷ j ∷ items) w s f =
    let a = is_length dialect.order s.0 i s.3 in
    let next : SpellsFields dialect.order (number_then version (after_length dialect a.format a.number)) (j ∷ items)
    s.1 = rw a.item at s.4 in
    let n = is_number dialect.order version (after_length dialect a.format a.number) next.0 j next.3 in
    let tail : following_all (after_length dialect a.format a.number n.number) items ≡ foreign_version v =
    rw (a.item, n.item) at f in
    let rest =
    after_version dialect a.format a.number n.number v items next.1
    (rw n.item at next.4) tail in
    let first : item_cells i ≡ 0 = ap item_cells a.item in
    let second : item_cells j ≡ 0 = ap item_cells n.item in
    omega (arith, sum_by-cons item_cells i (j ∷ items), sum_by-cons item_cells j items, first, second, rest)

-- what begins with a foreign version holds no cells
pub foreign_no_cells : (dialect : Dialect) (v : ℕ) (b : List ℕ) → foreign_in dialect b ≡ Some v → cells dialect b ≡ 0
foreign_no_cells dialect v b foreign =
    let s : Sound dialect.order (header_layout dialect) b (cut dialect b) =
    cut_sound dialect.order (header_layout dialect) [] b in
    let last : following_all (header_layout dialect) (cut dialect b).items ≡ foreign_version v =
    foreign_last (following_all (header_layout dialect) (cut dialect b).items) v foreign in
    let items = in_fields dialect v (cut dialect b).items s.front s.spelt last in
    ap (λ (l : Layout). sum_by item_cells (cut dialect b).items + rest_cells l (cut dialect b).rest) last
    ∙ ap (λ (n : ℕ). n + 0) items
