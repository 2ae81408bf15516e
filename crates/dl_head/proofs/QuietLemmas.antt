-- No front of a header or of a foreign unit decides anything.
use Rattle.std.proofs.Common.{◌≡◌, ℕ, ◌+◌, ◌<◌, ◌≤◌, inl, inr, List, [], ◌∷◌, ◌++◌, length, Option, Some, None, Ok}
use Rattle.std.proofs.Common.{refl, sym, ap, ◌∙◌, arith, length-append, append_assoc, append-nil}
use Rattle.dl_num.specs.declared.fixed.Order.{Order}
use Rattle.dl_head.specs.declared.dialect.Dialect.{Dialect}
use Rattle.dl_field.specs.HeaderData.{HeaderData}
use Rattle.dl_field.specs.Layout.{any_byte, foreign_version, Item, following_all}
use Rattle.dl_head.specs.HeaderLayout.{header_layout, initial_size, fixed_part, from_minimum_length}
use Rattle.dl_head.specs.Header.{SpellsFields, cut_after, cut, unit_end, header_end, header_made, IsHeader}
use Rattle.dl_head.specs.Refusal.{header_decided}
use Rattle.dl_head.specs.Laws.{HeaderIsNotRefused, ForeignIsNotRefused}
use Rattle.dl_field.proofs.FieldLemmas.{none_some, sized_length}
use Rattle.dl_head.proofs.CutLemmas.{cut_of, before_none, cut_fields, cut_last, cut_sound, Sound}
use Rattle.dl_head.proofs.HeaderLaws.{made_last}
use Rattle.dl_head.proofs.FrontLemmas.{GoesOn, fronts, Inside, inside}
use Rattle.dl_head.proofs.RefusalLaws.{quiet, foreign_last}
use Rattle.dl_head.proofs.Openings.{Opening, opening_of}
use Rattle.dl_head.proofs.FirstFields.{late_not_foreign}
use Rattle.dl_head.proofs.EarlyEnds.{no_overrun, header_end-append, unit_end-append}

-- ---- fronts of a header

-- after good fields that end a header, any bytes
last_quiet : (dialect : Dialect) (h : HeaderData) (w v : List ℕ) (is : IsHeader dialect h w)
    → header_decided dialect (is.fields ++ v) ≡ None
last_quiet dialect h w v is =
    rw (
      cut_fields dialect.order (header_layout dialect) is.items is.fields v is.spelt,
      made_last _ h is.made,
      cut_last dialect.order h [] v,
      append-nil,
      made_last _ h is.made,
    ) refl

some_number : (a b : ℕ) → ◌≡◌ {A = Option ℕ} (Some a) (Some b) → a ≡ b
some_number a b e = cc

-- a header has fields after header_length
more_fields : (dialect : Dialect) (h : HeaderData) (w : List ℕ) (is : IsHeader dialect h w)
    (o : Opening dialect is.items is.fields) → 1 ≤ length o.rest
more_fields dialect h w is o = on o.more o.after o.spelt where
  on : (more : List Item) → following_all (header_layout dialect) is.items
      ≡ following_all (from_minimum_length o.p) more
      → SpellsFields dialect.order (from_minimum_length o.p) more o.rest → 1 ≤ length o.rest
  on [] same s = absurd (none_some {a = h} refl
      (sym (ap header_made same) ∙ is.made))
  on (i ∷ more) same s =
      let size : length s.0 ≡ 1 = sized_length dialect.order any_byte 1 s.0 (Ok i) s.3 in
      omega (arith, ap length s.2, length-append s.0 s.1, size)

-- inside a field of a header
inside_quiet : (dialect : Dialect) (h : HeaderData) (w b : List ℕ) (is : IsHeader dialect h w) → GoesOn b is.fields
    → header_decided dialect b ≡ None
inside_quiet dialect h w b is goes =
    quiet dialect b at.before at.rest at.cut_is
    (before_none dialect.order (following_all (header_layout dialect) at.before) at.rest at.byte at.back
    (Ok at.item) at.field)
    (no_overrun (length b) at.before header unit)
  where
    at : Inside dialect.order (header_layout dialect) is.items b
    at = inside dialect.order (header_layout dialect) is.items is.fields b is.spelt goes

    o : Opening dialect is.items is.fields
    o = opening_of dialect is.items is.fields (length w) is.spelt is.end

    shorter : length b < length w
    shorter = omega (
      arith,
      ap length goes.2,
      length-append b (goes.0 ∷ goes.1),
      ap length is.whole,
      length-append is.fields is.padding,
    )

    header : (e : ℕ) → header_end at.before ≡ Some e → length b < e
    header e same =
        let end : Some (length w) ≡ Some e = sym is.end ∙ ap header_end at.items_are
        ∙ header_end-append at.before (at.item ∷ at.after) e same in
        let size : length w ≡ e = some_number _ _ end in omega (arith, shorter, size)

    unit : (u : ℕ) → header_end at.before ≡ None → unit_end at.before ≡ Some u → length b < u
    unit u none same =
        let ends : Some (initial_size o.format + o.unit_length) ≡ Some u = sym o.unit
        ∙ ap unit_end at.items_are ∙ unit_end-append at.before (at.item ∷ at.after) u same in
        let whole : u ≡ initial_size o.format + o.unit_length = sym (some_number _ _ ends) in
        let header_is : initial_size o.format + fixed_part o.format o.of_version + o.header ≡ length w =
        some_number _ _ (sym o.end ∙ is.end) in
        omega (
          arith,
          whole,
          header_is,
          o.fits,
          o.size,
          shorter,
          more_fields dialect h w is o,
          ap length is.whole,
          length-append is.fields is.padding,
        )

pub header_is_not_refused : HeaderIsNotRefused
header_is_not_refused dialect h w v front back at kind is e r = none_some silent r.decided where
  whole : is.fields ++ (is.padding ++ v) ≡ front ++ back
  whole = sym (append_assoc is.fields is.padding v) ∙ ap (λ (l : List ℕ). l ++ v) (sym is.whole) ∙ e

  silent : header_decided dialect front ≡ None
  silent = elim (fronts is.fields front (is.padding ++ v) back whole) [
    | inl same ↦ ap (λ (l : List ℕ). header_decided dialect l) (sym same ∙ sym (append-nil is.fields))
        ∙ last_quiet dialect h w [] is
    | inr (inl goes) ↦ ap (λ (l : List ℕ). header_decided dialect l) goes.2
        ∙ last_quiet dialect h w (goes.0 ∷ goes.1) is
    | inr (inr goes) ↦ inside_quiet dialect h w front is goes
  ]

-- ---- fronts of a foreign unit

-- after a foreign version nothing is cut off
cut_foreign : (order : Order) (v : ℕ) (begun y : List ℕ)
    → cut_after order (foreign_version v) begun y ≡ cut_of [] (begun ++ y)
cut_foreign order v begun [] = ap (λ (z : List ℕ). cut_of [] z) (sym (append-nil begun))
cut_foreign order v begun (x ∷ y) = cut_foreign order v (begun ++ x ∷ []) y
    ∙ ap (λ (z : List ℕ). cut_of [] z) (append_assoc begun (x ∷ []) y)

-- bytes with a foreign version that end within their unit
record IsForeignPart (dialect : Dialect) (b : List ℕ) (items : List Item) (fields rest : List ℕ)
    (other unit : ℕ) : Type 0
  where
    whole : b ≡ fields ++ rest
    spelt : SpellsFields dialect.order (header_layout dialect) items fields
    next : following_all (header_layout dialect) items ≡ foreign_version other
    unit_is : unit_end items ≡ Some unit
    within : length b ≤ unit

foreign_last_quiet : (dialect : Dialect) (b : List ℕ) (items : List Item) (fields rest : List ℕ) (other unit : ℕ)
    → IsForeignPart dialect b items fields rest other unit
    → (v : List ℕ) → header_decided dialect (fields ++ v) ≡ None
foreign_last_quiet dialect b items fields rest other unit is v =
    rw (
      cut_fields dialect.order (header_layout dialect) items fields v is.spelt,
      is.next,
      cut_foreign dialect.order other [] v,
      append-nil,
      is.next,
    ) refl

foreign_inside_quiet : (dialect : Dialect) (b : List ℕ) (items : List Item) (fields rest : List ℕ) (other unit : ℕ)
    → IsForeignPart dialect b items fields rest other unit
    → (front : List ℕ) → GoesOn front fields → header_decided dialect front ≡ None
foreign_inside_quiet dialect b items fields rest other unit is front goes =
    quiet dialect front at.before at.rest at.cut_is
    (before_none dialect.order (following_all (header_layout dialect) at.before) at.rest at.byte at.back
    (Ok at.item) at.field)
    (no_overrun (length front) at.before (λ e same. absurd (no_header e same)) (λ u none same. ends u same))
  where
    at : Inside dialect.order (header_layout dialect) items front
    at = inside dialect.order (header_layout dialect) items fields front is.spelt goes

    no_header : (e : ℕ) → header_end at.before ≡ Some e → ⊥
    no_header e same =
        let o = opening_of dialect items fields e is.spelt
        (ap header_end at.items_are ∙ header_end-append at.before (at.item ∷ at.after) e same) in
        late_not_foreign o.p o.more other
        (sym o.after ∙ is.next)

    ends : (u : ℕ) → unit_end at.before ≡ Some u → length front < u
    ends u same =
        let ends_same : unit ≡ u = some_number _ _
        (sym is.unit_is ∙ ap unit_end at.items_are ∙ unit_end-append at.before (at.item ∷ at.after) u same) in
        omega (
          arith,
          ends_same,
          is.within,
          ap length goes.2,
          length-append front (goes.0 ∷ goes.1),
          ap length is.whole,
          length-append fields rest,
        )

pub foreign_is_not_refused : ForeignIsNotRefused
foreign_is_not_refused dialect b front back other unit at kind foreign unit_is within e r =
    none_some silent r.decided where
      s : Sound dialect.order (header_layout dialect) b (cut dialect b)
      s = cut_sound dialect.order (header_layout dialect) [] b

      part : IsForeignPart dialect b (cut dialect b).items s.front (cut dialect b).rest other unit
      part = record {
        whole = s.whole;
        spelt = s.spelt;
        next = foreign_last
            (following_all (header_layout dialect) (cut dialect b).items) other foreign;
        unit_is = unit_is;
        within = within;
      }

      quiet_after : (v : List ℕ) → header_decided dialect (s.front ++ v) ≡ None
      quiet_after v = foreign_last_quiet dialect b (cut dialect b).items s.front (cut dialect b).rest other unit part v

      silent : header_decided dialect front ≡ None
      silent = elim (fronts s.front front (cut dialect b).rest back (sym s.whole ∙ e)) [
        | inl same ↦ ap (λ (l : List ℕ). header_decided dialect l) (sym same ∙ sym (append-nil s.front))
            ∙ quiet_after []
        | inr (inl goes) ↦ ap (λ (l : List ℕ). header_decided dialect l) goes.2 ∙ quiet_after (goes.0 ∷ goes.1)
        | inr (inr goes) ↦ foreign_inside_quiet dialect b (cut dialect b).items s.front (cut dialect b).rest
            other unit part
            front
            goes
      ]
