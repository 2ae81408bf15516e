-- The fields of a header up to header_length: five of version 5, three of versions 2 to 4.
use Rattle.std.proofs.Common.{◌≡◌, ◌≢◌, ℕ, ◌+◌, ◌-◌, ◌≤◌, if◌then◌else◌, ◌==◌, List, [], ◌∷◌, length, Option, Some}
use Rattle.std.proofs.Common.{None, Ok, refl, sym, ap, subst, ◌∙◌, arith, inl, inr, ◌⊎◌, Bool, length-append}
use Rattle.std.proofs.lemmas.Bool.{cases_lt, cases_eq, lt-leb, ne_eqb, eq-eqb}
use Rattle.dl_num.specs.declared.fixed.Order.{Order}
use Rattle.dl_head.specs.declared.dialect.Dialect.{Dialect}
use Rattle.dl_table.specs.declared.fault.FaultKind.TheVariants as fault
use Rattle.dl_table.specs.declared.form.Format.{Format}
use Rattle.dl_field.specs.declared.params.Params.{Params}
use Rattle.dl_table.specs.Value.{offset_size}
use Rattle.dl_field.specs.Layout.{NumberField, version, address_size, any_byte, header_length, Layout, number_then}
use Rattle.dl_field.specs.Layout.{Item, length_is, number_is, form_is, value_is, following, following_all, objection}
use Rattle.dl_field.specs.Layout.{number_judged, sized_spelt, number_size, end_is}
use Rattle.dl_head.specs.HeaderLayout.{header_layout, from_address_size, older_params, from_older_version}
use Rattle.dl_head.specs.HeaderLayout.{from_segment_selector_size, from_header_length, from_minimum_length}
use Rattle.dl_head.specs.HeaderLayout.{format_alone, initial_size, fixed_part}
use Rattle.dl_head.specs.Dialect.{older_size}
use Rattle.dl_head.specs.Header.{own_end, unit_end, SpellsFields, header_end}
use Rattle.dl_field.proofs.FieldLemmas.{none_some, sized_length}
use Rattle.dl_head.proofs.FirstFields.{is_length, is_number}

-- a number is the first field that is spelled
pub record Numbered (order : Order) (field : NumberField) (next : ℕ → Layout) (k : ℕ) (i : Item) (items : List Item)
    (w : List ℕ) : Type 0 where
  pub number : ℕ
  pub item : i ≡ number_is number
  pub fits : objection field number ≡ None
  pub rest : List ℕ
  pub size : length w ≡ k + length rest
  pub spelt : SpellsFields order (next number) items rest

pub numbered : (order : Order) (field : NumberField) (next : ℕ → Layout) (k : ℕ) → number_size field ≡ Some k
    → (i : Item) (items : List Item) (w : List ℕ) → SpellsFields order (number_then field next) (i ∷ items) w
    → Numbered order field next k i items w
numbered order field next k sized i items w s =
    let n = is_number order field next s.0 i s.3 in
    let size : length s.0 ≡ k = sized_length order field k s.0 (Ok i)
    (ap (λ o. number_judged field (sized_spelt order o s.0)) (sym sized) ∙ s.3) in
    record {
      number = n.number;
      item = n.item;
      fits = n.fits;
      rest = s.1;
      size = ap length s.2 ∙ length-append s.0 s.1 ∙ ap (λ (m : ℕ). m + length s.1) size;
      spelt = subst (λ (j : Item). SpellsFields order (following (number_then field next) j) items s.1) n.item s.4;
    }

-- the items of a header whose end is known: five fields and others, or three of an older version
abbrev pub OwnItems : Format → ℕ → ℕ → List Item → ℕ → List Item → Type 0
OwnItems format unit_length header more v items =
    (address : ℕ) × (segment : ℕ) × (v ≡ 5)
    × (items ≡ length_is format unit_length ∷ number_is 5 ∷ number_is address ∷ number_is segment
    ∷ number_is header ∷ more)

abbrev pub OlderItems : Dialect → Format → ℕ → ℕ → List Item → ℕ → List Item → Type 0
OlderItems dialect format unit_length header more v items =
    (size : ℕ) × (v ≢ 5) × (older_size dialect v ≡ Some size)
    × (items ≡ length_is format unit_length ∷ number_is v ∷ number_is header ∷ more)

-- the values of a header's fields up to header_length, and their sizes
pub record Opening (dialect : Dialect) (items : List Item) (w : List ℕ) : Type 0 where
  pub format : Format
  pub unit_length : ℕ
  pub of_version : ℕ
  pub header : ℕ
  pub more : List Item
  pub shape : OwnItems format unit_length header more of_version items
      ⊎ OlderItems dialect format unit_length header more of_version items
  pub unit : unit_end items ≡ Some (initial_size format + unit_length)
  pub end : header_end items ≡ Some (initial_size format + fixed_part format of_version + header)
  pub rest : List ℕ
  pub size : length w ≡ initial_size format + fixed_part format of_version + length rest
  pub fits : header ≤ unit_length - fixed_part format of_version
  pub p : Params
  pub spelt : SpellsFields dialect.order (from_minimum_length p) more rest
  pub after : following_all (header_layout dialect) items ≡ following_all (from_minimum_length p) more

fits_unit : (format : Format) (left n : ℕ) → objection (header_length format left) n ≡ None → n ≤ left
fits_unit format left n e = elim (cases_lt left n) [
  | inl lt ↦
      absurd (none_some {a = fault.HeaderBeyondUnit} e (rw (lt-leb n left lt) refl))
  | inr le ↦ le
]

-- the values from the second field on, where the first is an initial length
abbrev pub after_length : Dialect → Format → ℕ → ℕ → Layout
after_length dialect format n v = if v == 5 then from_address_size n (format_alone format) else from_older_version
    format n v (older_size dialect v)

-- what follows each of the fields
abbrev pub after_address : Format → ℕ → ℕ → Layout
after_address f n address = from_segment_selector_size n (record (format_alone f) { address_size = address })

abbrev pub after_segment : Format → ℕ → ℕ → ℕ → Layout
after_segment f n address segment = from_header_length n
    (record (format_alone f) { address_size = address; segment_selector_size = segment })

abbrev pub after_header : Format → ℕ → ℕ → ℕ → Layout
after_header f address segment header = from_minimum_length
    (record (format_alone f) { address_size = address; segment_selector_size = segment })

five_same : {i j k l m i2 j2 k2 l2 m2 : Item} (more : List Item) → i ≡ i2 → j ≡ j2 → k ≡ k2 → l ≡ l2 → m ≡ m2
    → (i ∷ j ∷ k ∷ l ∷ m ∷ more) ≡ (i2 ∷ j2 ∷ k2 ∷ l2 ∷ m2 ∷ more)
five_same more a b c d e = cc

three_same : {i j k i2 j2 k2 : Item} (more : List Item) → i ≡ i2 → j ≡ j2 → k ≡ k2
    → (i ∷ j ∷ k ∷ more) ≡ (i2 ∷ j2 ∷ k2 ∷ more)
three_same more a b c = cc

-- ---- the fields of version 5

own_opening : (dialect : Dialect) (f : Format) (n v : ℕ) (i j k l m : Item) (more : List Item) (w s0 rest : List ℕ)
    → i ≡ length_is f n
    → j ≡ number_is v → v ≡ 5 → length w ≡ initial_size f + 2 + length rest
    → SpellsFields dialect.order (from_address_size n (format_alone f))
    (k ∷ l ∷ m ∷ more) rest
    → Opening dialect (i ∷ j ∷ k ∷ l ∷ m ∷ more) w
own_opening dialect f n v i j k l m more w s0 rest first second
    five long s =
    let c = numbered dialect.order address_size (after_address f n) 1 refl k (l ∷ m ∷ more) rest s in
    let d = numbered dialect.order any_byte (after_segment f n c.number) 1 refl l (m ∷ more)
    c.rest c.spelt in
    let e = numbered dialect.order (header_length f (n - fixed_part f 5))
    (after_header f c.number d.number) (offset_size f) refl m more d.rest d.spelt in
    let same : (i ∷ j ∷ k ∷ l ∷ m ∷ more) ≡ (length_is f n ∷ number_is 5 ∷ number_is c.number ∷ number_is d.number
    ∷ number_is e.number ∷ more) = five_same more first (second ∙ ap (λ (v : ℕ). number_is v) five)
    c.item
    d.item e.item in
    record {
      format = f;
      unit_length = n;
      of_version = 5;
      header = e.number;
      more = more;
      shape = inl (c.number, d.number, refl, same);
      unit = ap unit_end same;
      end = ap header_end same;
      rest = e.rest;
      size = omega (arith, long, c.size, d.size, e.size);
      fits = fits_unit f (n - fixed_part f 5) e.number e.fits;
      p = record (format_alone f) { address_size = c.number; segment_selector_size = d.number };
      spelt = e.spelt;
      after = ap (λ (l : List Item). following_all (header_layout dialect) l) same;
    }

-- fewer fields have no header_length among them
own_few : (f : Format) (k : Item) (more : List Item) (end : ℕ) → own_end f (k ∷ more) ≡ Some end
    → (l : Item) × (m : Item) × (rest : List Item) × (more ≡ l ∷ m ∷ rest)
own_few f k [] end e = absurd (none_some refl e)
own_few f k (l ∷ []) end e = absurd (none_some refl e)
own_few f k (l ∷ m ∷ rest) end e = (l, m, rest, refl)

-- ---- those of an older version

older_ends : (f : Format) (n v header : ℕ) (more : List Item) → v ≢ 5
    → header_end (length_is f n ∷ number_is v ∷ number_is header ∷ more)
    ≡ Some (initial_size f + fixed_part f v + header)
older_ends f n v header more other = rw (ne_eqb v 5 other) refl

older_after : (dialect : Dialect) (f : Format) (n v size header : ℕ) (more : List Item) → v ≢ 5
    → older_size dialect v ≡ Some size
    → following_all (header_layout dialect) (length_is f n ∷ number_is v ∷ number_is header ∷ more)
    ≡ following_all (from_minimum_length (older_params f v size)) more
older_after dialect f n v size header more other is =
    ap (λ (own : Bool). following_all (following (if own then from_address_size n (format_alone f)
    else from_older_version f n v (older_size dialect v)) (number_is header)) more) (ne_eqb v 5 other)
    ∙ ap (λ (o : Option ℕ). following_all (following (from_older_version f n v o) (number_is header)) more) is

older_opening : (dialect : Dialect) (f : Format) (n v size : ℕ) (i j k : Item) (more : List Item) (w rest : List ℕ)
    → i ≡ length_is f n → j ≡ number_is v → v ≢ 5 → older_size dialect v ≡ Some size
    → length w ≡ initial_size f + 2 + length rest
    → SpellsFields dialect.order (from_header_length n (older_params f v size)) (k ∷ more) rest
    → Opening dialect (i ∷ j ∷ k ∷ more) w
older_opening dialect f n v size i j k more w rest first second other is long s =
    let e = numbered dialect.order (header_length f (n - fixed_part f v))
    (λ m. from_minimum_length (older_params f v size))
    (offset_size f) refl k more rest s in
    let same : (i ∷ j ∷ k ∷ more) ≡ (length_is f n ∷ number_is v ∷ number_is e.number ∷ more) =
    three_same more first second e.item in
    let part : fixed_part f v ≡ 2 + offset_size f = rw (ne_eqb v 5 other) refl in
    record {
      format = f;
      unit_length = n;
      of_version = v;
      header = e.number;
      more = more;
      shape = inr (size, other, is, same);
      unit = ap unit_end same;
      end = ap header_end same ∙ older_ends f n v e.number more other;
      rest = e.rest;
      size = omega (arith, long, e.size, part);
      fits = fits_unit f (n - fixed_part f v) e.number e.fits;
      p = older_params f v size;
      spelt = e.spelt;
      after = ap (λ (l : List Item). following_all (header_layout dialect) l) same
          ∙ older_after dialect f n v size e.number more other is;
    }

-- a version that isn't read leads to no field
older_read : (order : Order) (f : Format) (n v : ℕ) (o : Option ℕ) (k : Item) (more : List Item) (w : List ℕ)
    → SpellsFields order (from_older_version f n v o) (k ∷ more) w
    → (size : ℕ) × (o ≡ Some size) × SpellsFields order (from_header_length n (older_params f v size)) (k ∷ more) w
older_read order f n v None k more w s = absurd (none_some {a = Ok k} refl s.3)
older_read order f n v (Some size) k more w s = (size, refl, s)

-- ---- both

few_end : (i : Item) (items : List Item) → length items ≤ 1 → header_end (i ∷ items) ≡ None
few_end (number_is n) items h = refl
few_end (form_is f) items h = refl
few_end (value_is v) items h = refl
few_end (end_is n) items h = refl
few_end (length_is f n) [] h = refl
few_end (length_is f n) (number_is v ∷ []) h = elim (cases_eq v 5) [
  | inl five ↦ rw (eq-eqb v 5 five) refl
  | inr other ↦ rw (ne_eqb v 5 other) refl
]
few_end (length_is f n) (length_is g m ∷ []) h = refl
few_end (length_is f n) (form_is g ∷ []) h = refl
few_end (length_is f n) (value_is v ∷ []) h = refl
few_end (length_is f n) (end_is m ∷ []) h = refl
few_end (length_is f n) (a ∷ b ∷ items) h = absurd (omega (arith, h))

opening : (dialect : Dialect) (i j k : Item) (more : List Item) (w : List ℕ) (end : ℕ)
    → SpellsFields dialect.order (header_layout dialect) (i ∷ j ∷ k ∷ more) w
    → header_end (i ∷ j ∷ k ∷ more) ≡ Some end → Opening dialect (i ∷ j ∷ k ∷ more) w
opening dialect i j k more w end s e =
    let a = is_length dialect.order s.0 i s.3 in
    let first : SpellsFields dialect.order (number_then version (after_length dialect a.format a.number))
    (j ∷ k ∷ more) s.1 =
    subst (λ (x : Item). SpellsFields dialect.order (following (header_layout dialect) x) (j ∷ k ∷ more) s.1) a.item
    s.4 in
    let b = numbered dialect.order version (after_length dialect a.format a.number) 2 refl j (k ∷ more) s.1 first in
    let long : length w ≡ initial_size a.format + 2 + length b.rest =
    omega (arith, ap length s.2, length-append s.0 s.1, a.size, b.size) in
    elim (cases_eq b.number 5) [
      | inl five ↦
          let known : own_end a.format (k ∷ more) ≡ Some end =
          sym (ap (λ (l : List Item). header_end l) (three_same more a.item (b.item ∙ ap (λ (v : ℕ). number_is v) five)
          refl))
          ∙ e in
          let few = own_few a.format k more end known in
          let t : SpellsFields dialect.order (from_address_size a.number (format_alone a.format)) (k ∷ more) b.rest =
          rw (eq-eqb b.number 5 five) at b.spelt in
          subst (λ (l : List Item). Opening dialect (i ∷ j ∷ k ∷ l) w) (sym few.3)
          (own_opening dialect a.format a.number b.number i j k few.0 few.1 few.2 w [] b.rest a.item b.item five long
          (subst (λ (l : List Item). SpellsFields dialect.order (from_address_size a.number (format_alone a.format))
          (k ∷ l)
          b.rest) few.3 t))
      | inr other ↦
          let t : SpellsFields dialect.order (from_older_version a.format a.number b.number
          (older_size dialect b.number))
          (k ∷ more) b.rest = rw (ne_eqb b.number 5 other) at b.spelt in
          let r = older_read dialect.order a.format a.number b.number (older_size dialect b.number) k more b.rest t in
          older_opening dialect a.format a.number b.number r.0 i j k more w b.rest a.item b.item other r.1 long r.2
    ]

-- where a header's end is known, its fields up to header_length are read
pub opening_of : (dialect : Dialect) (items : List Item) (w : List ℕ) (end : ℕ)
    → SpellsFields dialect.order (header_layout dialect) items w
    → header_end items ≡ Some end → Opening dialect items w
opening_of dialect [] w end s e = absurd (none_some refl e)
opening_of dialect (i ∷ []) w end s e = absurd (none_some (few_end i [] (omega arith)) e)
opening_of dialect (i ∷ j ∷ []) w end s e = absurd (none_some (few_end i (j ∷ []) (omega arith)) e)
opening_of dialect (i ∷ j ∷ k ∷ more) w end s e = opening dialect i j k more w end s e
