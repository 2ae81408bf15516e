-- Where a unit or its header ends, by the fields that were read.
use Rattle.std.proofs.Common.{◌<◌, ◌≡◌, ℕ, ◌+◌, ◌≤◌, List, [], ◌∷◌, ◌++◌, length, Option, Some, None, refl, sym, ap}
use Rattle.std.proofs.Common.{inl, inr, ◌≢◌, subst, ◌∙◌, arith, length-append, append-nil}
use Rattle.std.proofs.lemmas.Bool.{ne_eqb, eq-eqb}
use Rattle.dl_head.specs.declared.dialect.Dialect.{Dialect}
use Rattle.dl_field.specs.Layout.{end_is as list_end, Layout, Item, length_is, number_is, form_is, value_is}
use Rattle.dl_field.specs.Layout.{following_all, field_spelt}
use Rattle.dl_head.specs.declared.reader.HeadReader.{HeadReader}
use Rattle.dl_table.specs.declared.fault.FaultKind.{FaultKind}
use Rattle.dl_table.specs.declared.fault.FaultKind.TheVariants as fault
use Rattle.dl_table.specs.Value.{good}
use Rattle.dl_head.specs.HeaderLayout.{header_layout, initial_size, fixed_part}
use Rattle.dl_head.specs.Header.{SpellsFields, cut, unit_end, header_end}
use Rattle.dl_head.specs.Refusal.{at_end, field_overrun}
use Rattle.dl_head.specs.Place.{Parts, parts, Early, Past, end_of_unit, before_length, before_header_length}
use Rattle.dl_head.specs.Place.{IsOfVersion, length_item}
use Rattle.dl_head.specs.Standing.{Below, unit_known}
use Rattle.dl_head.proofs.CutLemmas.{cut_of, cut_good, cut_sound, Sound}
use Rattle.dl_head.proofs.Openings.{Opening, opening_of}
use Rattle.dl_head.proofs.EarlyEnds.{header_end-append, unit_end-append, length_first, header_room}
use Rattle.dl_field.proofs.FieldLemmas.{none_some}

-- the header's end, or else the unit's, as far as they are known
abbrev pub first_end : Option ℕ → Option ℕ → Option ℕ
first_end (Some header) unit = Some header
first_end None unit = unit

abbrev pub end_from : List Item → Option ℕ
end_from items = first_end (header_end items) (unit_end items)

-- what is wrong where that end comes inside a field
abbrev pub overrun_of : Option ℕ → FaultKind
overrun_of (Some header) = fault.HeaderOverrun
overrun_of None = fault.UnitOverrun

abbrev pub overrun_from : List Item → FaultKind
overrun_from items = overrun_of (header_end items)

pub overrun_at : (n : ℕ) (items : List Item) → field_overrun n items (header_end items)
    ≡ at_end (overrun_from items) n (end_from items)
overrun_at n items =
    elim (header_end items) as (λ o. field_overrun n items o
    ≡ at_end (overrun_of o) n (first_end o (unit_end items))) [ Some e ↦ refl | None ↦ refl ]

pub not_at_end : (kind : FaultKind) (n : ℕ) (end : Option ℕ) → Below n end → at_end kind n end ≡ None
not_at_end kind n None lt = refl
not_at_end kind n (Some e) lt = rw (ne_eqb n e (λ same. omega arith)) refl

pub just_at_end : (kind : FaultKind) (n : ℕ) (end : Option ℕ) → end ≡ Some n → at_end kind n end ≡ Some kind
just_at_end kind n end is = rw (is, eq-eqb n n refl) refl

-- ---- the reader's end is that of the fields

pub record EndIs (r : HeadReader) (items : List Item) : Type 0 where
  pub end : r.end ≡ end_from items
  pub overrun : r.overrun ≡ overrun_from items
  pub unit : unit_known (end_of_unit r) r.end ≡ unit_end items

pub early_end : (r : HeadReader) (items is : List Item) → Early r items is → header_end is ≡ None
    → unit_end is ≡ Some (end_of_unit r) → EndIs r items
early_end r items is e none unit =
    let header : header_end items ≡ None = ap header_end e.items_are ∙ none in
    let unit_is : unit_end items ≡ Some (end_of_unit r) = ap unit_end e.items_are ∙ unit in
    record {
      end = e.end ∙ sym unit_is ∙ ap (λ (o : Option ℕ). first_end o (unit_end items)) (sym header);
      overrun = e.overrun ∙ ap overrun_of (sym header);
      unit = ap (λ (o : Option ℕ). unit_known (end_of_unit r) o) e.end ∙ sym unit_is;
    }

-- the fields after header_length
pub after_end : (r : HeadReader) (items : List Item) (layout : Layout) → Past r items layout → EndIs r items
after_end r items layout e = record {
  end = e.end ∙ ap (λ (o : Option ℕ). first_end o (unit_end items)) (sym e.header_ends);
  overrun = e.overrun ∙ ap overrun_of (sym e.header_ends);
  unit = ap (λ (o : Option ℕ). unit_known (end_of_unit r) o) e.end ∙ sym e.unit;
}

pub start_end : (r : HeadReader) (items : List Item) → items ≡ [] → r.end ≡ None → r.overrun ≡ fault.UnitOverrun
    → EndIs r items
start_end r items none end overrun = record {
  end = end ∙ sym (ap end_from none);
  overrun = overrun ∙ sym (ap overrun_from none);
  unit = ap (λ (o : Option ℕ). unit_known (end_of_unit r) o) end ∙ sym (ap unit_end none);
}

-- the fields before header_length, by the version
pub before_own : (r : Parts) → r.params.version ≡ 5
    → before_length r ≡ length_is r.params.format r.unit_length ∷ number_is 5 ∷ number_is r.params.address_size
    ∷ number_is r.params.segment_selector_size ∷ []
before_own r five = rw (eq-eqb r.params.version 5 five) refl

pub before_older : (r : Parts) → r.params.version ≢ 5
    → before_length r ≡ length_is r.params.format r.unit_length ∷ number_is r.params.version ∷ []
before_older r other = rw (ne_eqb r.params.version 5 other) refl

older_none : (r : HeadReader) → r.params.version ≢ 5
    → header_end (length_item r ∷ number_is r.params.version ∷ []) ≡ None
older_none r other = rw (ne_eqb r.params.version 5 other) refl

pub before_end : (r : HeadReader) (items : List Item) → Early r items (before_header_length r) → IsOfVersion r
    → EndIs r items
before_end r items e (inl own) =
    early_end r items (before_header_length r) e (ap header_end (before_own (parts r) own))
    (ap unit_end (before_own (parts r) own))
before_end r items e (inr older) =
    early_end r items (before_header_length r) e
    (ap header_end (before_older (parts r) older.other) ∙ older_none r older.other)
    (ap unit_end (before_older (parts r) older.other))

-- ---- a field ends at that end or before it

-- n bytes end at the end or before it
abbrev pub UpTo : ℕ → Option ℕ → Type 0
UpTo n None = Unit {0}
UpTo n (Some end) = n ≤ end

pub below_next : (n : ℕ) (end : Option ℕ) → Below n end → UpTo (n + 1) end
below_next n None lt = tt
below_next n (Some e) lt = omega arith

unit_room : (dialect : Dialect) (items : List Item) (i : Item) (w : List ℕ) (n : ℕ) → length w ≡ n + 1
    → SpellsFields dialect.order (header_layout dialect) (items ++ i ∷ []) w
    → Below n (unit_end items) → UpTo (length w) (unit_end (items ++ i ∷ []))
unit_room dialect [] (length_is f m) w n size s lt =
    let a = length_first dialect f m [] w s in
    let z : length a.0 ≡ 0 = ap length a.2 in omega (arith, a.1)
unit_room dialect [] (number_is m) w n size s lt = tt
unit_room dialect [] (form_is f) w n size s lt = tt
unit_room dialect [] (value_is v) w n size s lt = tt
unit_room dialect [] (list_end m) w n size s lt = tt
unit_room dialect (length_is f m ∷ items) i w n size s lt = omega (arith, size)
unit_room dialect (number_is m ∷ items) i w n size s lt = tt
unit_room dialect (form_is f ∷ items) i w n size s lt = tt
unit_room dialect (value_is v ∷ items) i w n size s lt = tt
unit_room dialect (list_end m ∷ items) i w n size s lt = tt

-- the good fields up to a field's last byte
spells_on : (dialect : Dialect) (b : List ℕ) (x : ℕ) (items : List Item) (rest : List ℕ) (i : Item)
    → cut dialect b ≡ cut_of items rest
    → field_spelt dialect.order (following_all (header_layout dialect) items) (rest ++ x ∷ []) ≡ good i
    → SpellsFields dialect.order (header_layout dialect) (items ++ i ∷ []) (b ++ x ∷ [])
spells_on dialect b x items rest i e spelt =
    let w = b ++ x ∷ [] in
    let whole : Sound dialect.order (header_layout dialect) w (cut_of (items ++ i ∷ []) []) =
    subst (λ c. Sound dialect.order (header_layout dialect) w c) (cut_good dialect b x items rest i e spelt)
    (cut_sound dialect.order (header_layout dialect) [] w) in
    subst (λ (l : List ℕ). SpellsFields dialect.order (header_layout dialect) (items ++ i ∷ []) l)
    (sym (whole.whole ∙ append-nil whole.front)) whole.spelt

-- the bytes up to a field's last one
pub room_on : (dialect : Dialect) (b : List ℕ) (x : ℕ) (items : List Item) (rest : List ℕ) (i : Item)
    → cut dialect b ≡ cut_of items rest
    → field_spelt dialect.order (following_all (header_layout dialect) items) (rest ++ x ∷ []) ≡ good i
    → Below (length b) (end_from items) → UpTo (length (b ++ x ∷ [])) (end_from (items ++ i ∷ []))
room_on dialect b x items rest i e spelt lt = on (header_end items) refl lt (header_end (items ++ i ∷ [])) refl where
  w : List ℕ
  w = b ++ x ∷ []

  size : length w ≡ length b + 1
  size = length-append b (x ∷ [])

  s : SpellsFields dialect.order (header_layout dialect) (items ++ i ∷ []) w
  s = spells_on dialect b x items rest i e spelt

  up_to : (p : Option ℕ) → header_end (items ++ i ∷ []) ≡ p → UpTo (length w) (first_end p (unit_end (items ++ i ∷ [])))
      → UpTo (length w) (end_from (items ++ i ∷ []))
  up_to p g le = subst (λ (o : Option ℕ). UpTo (length w) (first_end o (unit_end (items ++ i ∷ [])))) (sym g) le

  on : (o : Option ℕ) → header_end items ≡ o → Below (length b) (first_end o (unit_end items)) → (p : Option ℕ)
      → header_end (items ++ i ∷ []) ≡ p
      → UpTo (length w) (end_from (items ++ i ∷ []))
  on (Some end) h below p g = up_to (Some end) (header_end-append items (i ∷ []) end h) (omega (arith, size, below))
  on None h below (Some end) g = up_to (Some end) g (header_room dialect items i w end s h g)
  on None h below None g = up_to None g (unit_room dialect items i w (length b) size s below)

-- ---- the header ends with its unit or before it

abbrev pub EndsWithin : List Item → Type 0
EndsWithin items = (n e : ℕ) → unit_end items ≡ Some n → header_end items ≡ Some e → e ≤ n

some_same : (a b : ℕ) → ◌≡◌ {A = Option ℕ} (Some a) (Some b) → a ≡ b
some_same a b e = cc

-- a header whose end is known is in a unit whose end is known
unit_known_of : (items more : List Item) (e : ℕ) → header_end (items ++ more) ≡ Some e → length more ≤ 1
    → (n : ℕ) × (unit_end items ≡ Some n)
unit_known_of (length_is f n ∷ items) more e h few = (initial_size f + n, refl)
unit_known_of (number_is n ∷ items) more e h few = absurd (none_some refl h)
unit_known_of (form_is f ∷ items) more e h few = absurd (none_some refl h)
unit_known_of (value_is v ∷ items) more e h few = absurd (none_some refl h)
unit_known_of (list_end n ∷ items) more e h few = absurd (none_some refl h)
unit_known_of [] [] e h few = absurd (none_some refl h)
unit_known_of [] (length_is f n ∷ []) e h few = absurd (none_some refl h)
unit_known_of [] (number_is n ∷ []) e h few = absurd (none_some refl h)
unit_known_of [] (form_is f ∷ []) e h few = absurd (none_some refl h)
unit_known_of [] (value_is v ∷ []) e h few = absurd (none_some refl h)
unit_known_of [] (list_end n ∷ []) e h few = absurd (none_some refl h)
unit_known_of [] (i ∷ j ∷ more) e h few = absurd (omega (arith, few))

pub ends_on : (dialect : Dialect) (b : List ℕ) (x : ℕ) (items : List Item) (rest : List ℕ) (i : Item)
    → cut dialect b ≡ cut_of items rest
    → field_spelt dialect.order (following_all (header_layout dialect) items) (rest ++ x ∷ []) ≡ good i
    → Below (length b) (end_from items) → EndsWithin items → EndsWithin (items ++ i ∷ [])
ends_on dialect b x items rest i e spelt below ends n stop unit header = on (header_end items) refl below where
  known : (m : ℕ) × (unit_end items ≡ Some m)
  known = unit_known_of items (i ∷ []) stop header (omega arith)

  same : known.0 ≡ n
  same = some_same known.0 n (sym (unit_end-append items (i ∷ []) known.0 known.1) ∙ unit)

  w : List ℕ
  w = b ++ x ∷ []

  s : SpellsFields dialect.order (header_layout dialect) (items ++ i ∷ []) w
  s = spells_on dialect b x items rest i e spelt

  on : (o : Option ℕ) → header_end items ≡ o → Below (length b) (first_end o (unit_end items)) → stop ≤ n
  on (Some before) h lt =
      let kept : before ≡ stop = some_same before stop (sym (header_end-append items (i ∷ []) before h) ∙ header) in
      omega (arith, ends known.0 before known.1 h, kept, same)
  on None h lt =
      let o : Opening dialect (items ++ i ∷ []) w = opening_of dialect (items ++ i ∷ []) w stop s header in
      let size : length w ≡ length b + 1 = length-append b (x ∷ []) in
      let lt' : length b < known.0 = subst (λ (m : Option ℕ). Below (length b) m) known.1 lt in
      let whole : initial_size o.format + o.unit_length ≡ n = some_same _ n (sym o.unit ∙ unit) in
      let end : initial_size o.format + fixed_part o.format o.of_version + o.header ≡ stop =
      some_same _ stop (sym o.end ∙ header) in
      omega (arith, o.fits, o.size, size, lt', same, whole, end)

-- bytes up to the end are bytes of the unit
pub of_unit : (items : List Item) (n m : ℕ) → EndsWithin items → UpTo m (end_from items) → unit_end items ≡ Some n
    → m ≤ n
of_unit items n m ends up unit = on (header_end items) refl up where
  on : (o : Option ℕ) → header_end items ≡ o → UpTo m (first_end o (unit_end items)) → m ≤ n
  on (Some e) h le = omega (arith, ends n e unit h, le)
  on None h le = subst (λ (o : Option ℕ). UpTo m o) unit le
