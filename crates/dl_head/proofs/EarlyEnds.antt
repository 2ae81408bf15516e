-- Where a header and its unit end, by the fields up to header_length.
use Rattle.std.proofs.Common.{◌≡◌, ℕ, ◌+◌, ◌<◌, ◌≤◌, inl, inr, ◌≢◌, List, [], ◌∷◌, ◌++◌, length, Option, Some, None}
use Rattle.std.proofs.Common.{refl, sym, ap, ◌∙◌, arith, length-append}
use Rattle.std.proofs.lemmas.Bool.{ne_eqb, eq-eqb, cases_eq}
use Rattle.dl_num.specs.declared.fixed.Order.{Order}
use Rattle.dl_field.specs.Layout.{end_is, Layout, Item, length_is, number_is, form_is, value_is, following}
use Rattle.dl_head.specs.declared.dialect.Dialect.{Dialect}
use Rattle.dl_table.specs.declared.fault.FaultKind.{FaultKind}
use Rattle.dl_table.specs.declared.fault.FaultKind.TheVariants as fault
use Rattle.dl_table.specs.declared.form.Format.{Format}
use Rattle.dl_head.specs.HeaderLayout.{header_layout, initial_size, fixed_part, from_minimum_length}
use Rattle.dl_head.specs.Header.{SpellsFields, unit_end, header_end, own_end, older_end}
use Rattle.dl_head.specs.Refusal.{at_end, field_overrun}
use Rattle.dl_field.proofs.FieldLemmas.{none_some}
use Rattle.dl_head.proofs.Openings.{Opening, opening_of}
use Rattle.dl_head.proofs.FirstFields.{is_length}

-- ---- the ends, by the values of the fields

own_end-append : (f : Format) (items more : List Item) (e : ℕ) → own_end f items ≡ Some e
    → own_end f (items ++ more) ≡ Some e
own_end-append f [] more e h = absurd (none_some refl h)
own_end-append f (a ∷ []) more e h = absurd (none_some refl h)
own_end-append f (a ∷ b ∷ []) more e h = absurd (none_some refl h)
own_end-append f (a ∷ b ∷ number_is m ∷ items) more e h = h
own_end-append f (a ∷ b ∷ length_is g m ∷ items) more e h = absurd (none_some refl h)
own_end-append f (a ∷ b ∷ form_is g ∷ items) more e h = absurd (none_some refl h)
own_end-append f (a ∷ b ∷ value_is v ∷ items) more e h = absurd (none_some refl h)
own_end-append f (a ∷ b ∷ end_is n ∷ items) more e h = absurd (none_some refl h)

older_end-append : (f : Format) (v : ℕ) (items more : List Item) (e : ℕ) → older_end f v items ≡ Some e
    → older_end f v (items ++ more) ≡ Some e
older_end-append f v [] more e h = absurd (none_some refl h)
older_end-append f v (number_is m ∷ items) more e h = h
older_end-append f v (length_is g m ∷ items) more e h = absurd (none_some refl h)
older_end-append f v (form_is g ∷ items) more e h = absurd (none_some refl h)
older_end-append f v (value_is u ∷ items) more e h = absurd (none_some refl h)
older_end-append f v (end_is n ∷ items) more e h = absurd (none_some refl h)

pub header_end-append : (items more : List Item) (e : ℕ) → header_end items ≡ Some e
    → header_end (items ++ more) ≡ Some e
header_end-append [] more e h = absurd (none_some refl h)
header_end-append (number_is n ∷ items) more e h = absurd (none_some refl h)
header_end-append (form_is f ∷ items) more e h = absurd (none_some refl h)
header_end-append (value_is v ∷ items) more e h = absurd (none_some refl h)
header_end-append (end_is n ∷ items) more e h = absurd (none_some refl h)
header_end-append (length_is f n ∷ []) more e h = absurd (none_some refl h)
header_end-append (length_is f n ∷ length_is g m ∷ items) more e h = absurd (none_some refl h)
header_end-append (length_is f n ∷ form_is g ∷ items) more e h = absurd (none_some refl h)
header_end-append (length_is f n ∷ value_is v ∷ items) more e h = absurd (none_some refl h)
header_end-append (length_is f n ∷ end_is m ∷ items) more e h = absurd (none_some refl h)
header_end-append (length_is f n ∷ number_is v ∷ items) more e h = elim (cases_eq v 5) [
  | inl five ↦ rw (eq-eqb v 5 five) (own_end-append f items more e (rw (eq-eqb v 5 five) at h))
  | inr other ↦ rw (ne_eqb v 5 other) (older_end-append f v items more e (rw (ne_eqb v 5 other) at h))
]

pub unit_end-append : (items more : List Item) (e : ℕ) → unit_end items ≡ Some e → unit_end (items ++ more) ≡ Some e
unit_end-append [] more e h = absurd (none_some refl h)
unit_end-append (number_is n ∷ items) more e h = absurd (none_some refl h)
unit_end-append (form_is f ∷ items) more e h = absurd (none_some refl h)
unit_end-append (value_is v ∷ items) more e h = absurd (none_some refl h)
unit_end-append (end_is n ∷ items) more e h = absurd (none_some refl h)
unit_end-append (length_is f n ∷ items) more e h = h

pub not_at : (kind : FaultKind) (n e : ℕ) → n < e → at_end kind n (Some e) ≡ None
not_at kind n e lt = rw (ne_eqb n e (λ same. omega arith)) refl

-- before both ends no overrun is decided
pub no_overrun : (n : ℕ) (items : List Item) → ((e : ℕ) → header_end items ≡ Some e → n < e)
    → ((u : ℕ) → header_end items ≡ None → unit_end items ≡ Some u → n < u)
    → field_overrun n items (header_end items) ≡ None
no_overrun n items header unit = on (header_end items) refl where
  unit_on : header_end items ≡ None → (o : Option ℕ) → unit_end items ≡ o → at_end fault.UnitOverrun n o ≡ None
  unit_on none None h = refl
  unit_on none (Some u) h = not_at fault.UnitOverrun n u (unit u none h)

  on : (o : Option ℕ) → header_end items ≡ o → field_overrun n items o ≡ None
  on (Some e) h = not_at fault.HeaderOverrun n e (header e h)
  on None h = unit_on h (unit_end items) refl

-- ---- how many bytes the fields up to header_length take

pub length_first : (dialect : Dialect) (f : Format) (n : ℕ) (items : List Item) (w : List ℕ)
    → SpellsFields dialect.order (header_layout dialect) (length_is f n ∷ items) w
    → (rest : List ℕ) × (length w ≡ initial_size f + length rest)
    × SpellsFields dialect.order (following (header_layout dialect) (length_is f n)) items rest
length_first dialect f n items w s =
    let a = is_length dialect.order s.0 (length_is f n) s.3 in
    let same : f ≡ a.format = ap (λ (i : Item). elim i [
      | length_is g m ↦ g
      | number_is m ↦ f
      | form_is g ↦
          f
      | value_is v ↦ f
      | end_is m ↦ f
    ]) a.item in (
      s.1,
      ap length s.2 ∙ length-append s.0 s.1 ∙ ap (λ (m : ℕ). m + length s.1) (a.size ∙ ap initial_size (sym same)),
      s.4,
    )

-- how many fields there are before header_length
own_short : (f : Format) (n address segment header : ℕ) (more before after : List Item) (item : Item)
    → (length_is f n ∷ number_is 5 ∷ number_is address ∷ number_is segment ∷ number_is header ∷ more)
    ≡ before ++ item ∷ after → header_end before ≡ None → length before ≤ 4
own_short f n address segment header more [] after item e none = omega arith
own_short f n address segment header more (a ∷ []) after item e none = omega arith
own_short f n address segment header more (a ∷ b ∷ []) after item e none = omega arith
own_short f n address segment header more (a ∷ b ∷ c ∷ []) after item e none = omega arith
own_short f n address segment header more (a ∷ b ∷ c ∷ d ∷ []) after item e none = omega arith
own_short f n address segment header more (a ∷ b ∷ c ∷ d ∷ m ∷ before) after item e none =
    let same : (a ∷ b ∷ c ∷ d ∷ m ∷ before)
    ≡ (length_is f n ∷ number_is 5 ∷ number_is address ∷ number_is segment ∷ number_is header ∷ before) = cc in
    absurd (none_some (ap header_end (sym same) ∙ none) refl)

older_short : (f : Format) (n v header : ℕ) (more before after : List Item) (item : Item) → v ≢ 5
    → (length_is f n ∷ number_is v ∷ number_is header ∷ more) ≡ before ++ item ∷ after → header_end before ≡ None
    → length before ≤ 2
older_short f n v header more [] after item other e none = omega arith
older_short f n v header more (a ∷ []) after item other e none = omega arith
older_short f n v header more (a ∷ b ∷ []) after item other e none = omega arith
older_short f n v header more (a ∷ b ∷ m ∷ before) after item other e none =
    let same : (a ∷ b ∷ m ∷ before) ≡ (length_is f n ∷ number_is v ∷ number_is header ∷ before) = cc in
    absurd (none_some {a = initial_size f + fixed_part f v + header} (ap header_end (sym same) ∙ none)
    (rw (ne_eqb v 5 other) refl))

none_spelt : (order : Order) (layout : Layout) (items : List Item) (w : List ℕ) → length items ≡ 0
    → SpellsFields order layout items w → length w ≡ 0
none_spelt order layout [] w none s = ap length s
none_spelt order layout (i ∷ items) w none s = absurd (omega (arith, none))

-- the bytes up to the field by which the end is known
pub header_room : (dialect : Dialect) (items : List Item) (i : Item) (w : List ℕ) (e : ℕ)
    → SpellsFields dialect.order (header_layout dialect) (items ++ i ∷ []) w
    → header_end items ≡ None → header_end (items ++ i ∷ []) ≡ Some e → length w ≤ e
header_room dialect items i w e s none h = omega (
  arith,
  o.size,
  is,
  none_spelt dialect.order
      (from_minimum_length o.p) o.more o.rest last o.spelt,
) where
  o : Opening dialect (items ++ i ∷ []) w
  o = opening_of dialect (items ++ i ∷ []) w e s h

  is : initial_size o.format + fixed_part o.format o.of_version + o.header ≡ e
  is = let same : Some (initial_size o.format + fixed_part o.format o.of_version + o.header) ≡ Some e = sym o.end ∙ h in
      cc

  last : length o.more ≡ 0
  last = elim o.shape [
    | inl t ↦ omega (
      arith,
      length-append items (i ∷ []),
      ap length t.3,
      own_short o.format o.unit_length t.0 t.1 o.header o.more items [] i (sym t.3) none,
    )
    | inr t ↦ omega (
      arith,
      length-append items (i ∷ []),
      ap length t.3,
      older_short o.format o.unit_length o.of_version o.header o.more items [] i t.1 (sym t.3) none,
    )
  ]
