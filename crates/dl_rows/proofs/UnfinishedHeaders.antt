-- Where a header isn't complete at its end or at that of its unit, something is decided there.
use Rattle.dl_head.specs.declared.dialect.Dialect.{Dialect}
use Rattle.std.proofs.Common.{◌≡◌, ℕ, ◌+◌, ◌-◌, ◌≤◌, Bool, true, nat_le, ◌&&◌, if◌then◌else◌, List, [], ◌∷◌, ◌++◌}
use Rattle.std.proofs.Common.{length, take, drop, Option, Some, None, refl, sym, ap, ◌∙◌, arith, inl, inr, ◌⊎◌}
use Rattle.std.proofs.Common.{length-append, append_assoc}
use Rattle.std.proofs.lemmas.Bool.Decides.{nat_tests}
use Rattle.std.proofs.lemmas.Bool.{cases_eq, eq-eqb, ne_eqb, le-leb}
use Rattle.std.proofs.lemmas.List.{take-append-drop, length-take-le}
use Rattle.dl_num.specs.declared.fixed.Order.{Order}
use Rattle.dl_table.specs.declared.fault.FaultKind.{FaultKind}
use Rattle.dl_table.specs.declared.fault.FaultKind.TheVariants as fault
use Rattle.dl_table.specs.declared.form.Format.{Format}
use Rattle.dl_field.specs.HeaderData.{HeaderData}
use Rattle.dl_field.specs.Layout.{any_byte, address_size, header_length, version, Layout, number_then, foreign_version}
use Rattle.dl_field.specs.Layout.{last_entry, Item, length_is, number_is, following, following_all, field_spelt}
use Rattle.dl_head.specs.HeaderLayout.{header_layout, initial_size, fixed_part, from_minimum_length, from_address_size}
use Rattle.dl_head.specs.HeaderLayout.{format_alone, from_older_version, older_params}
use Rattle.dl_head.specs.Dialect.{older_size}
use Rattle.dl_head.specs.Header.{SpellsFields, Cut, cut, unit_end, unit_len, header_end, header_made, header_up_to}
use Rattle.dl_head.specs.Header.{foreign_made, foreign_in, header_in, own_end, older_end}
use Rattle.dl_head.specs.Refusal.{or_else, bad_kind, at_end, field_overrun, header_decided}
use Rattle.dl_field.proofs.FieldLemmas.{none_some}
use Rattle.dl_head.proofs.CutLemmas.{cut_fields, cut_sound, Sound}
use Rattle.dl_head.proofs.FirstFields.{is_length, is_number, late_not_foreign}
use Rattle.dl_head.proofs.Openings.{Opening, opening_of, after_length, after_address, after_segment, after_header}
use Rattle.dl_head.proofs.EarlyEnds.{header_end-append}
use Rattle.dl_head.proofs.RefusalLaws.{decided_on}
use Rattle.dl_rows.proofs.UnitLengths.{some_same, number_same}

-- ---- where a header ends without being complete

pub decides : (o : Option FaultKind) (kind : FaultKind) (n : ℕ) → or_else o (at_end kind n (Some n)) ≡ None → ⊥
decides o kind n e = grind (arith, nat_tests)

-- where bytes end in an incomplete field, and decide nothing, the fields are complete, or those of a foreign unit
quiet_ends : (dialect : Dialect) (b : List ℕ) (kind : FaultKind)
    → field_overrun (length b) (cut dialect b).items (header_end (cut dialect b).items)
    ≡ at_end kind (length b) (Some (length b)) → header_decided dialect b ≡ None
    → ((h : HeaderData) × (following_all (header_layout dialect) (cut dialect b).items ≡ last_entry h))
    ⊎ ((v : ℕ) × (following_all (header_layout dialect) (cut dialect b).items ≡ foreign_version v))
quiet_ends dialect b kind over quiet = on (following_all (header_layout dialect) (cut dialect b).items) refl where
  incomplete : (l : Layout) → decided_on dialect.order (length b) (cut dialect b).items (cut dialect b).rest l ≡ None
      → decided_on dialect.order (length b) (cut dialect b).items (cut dialect b).rest l
      ≡ or_else (bad_kind (field_spelt dialect.order l (cut dialect b).rest))
      (field_overrun (length b) (cut dialect b).items (header_end (cut dialect b).items))
      → ⊥
  incomplete l none same =
      decides (bad_kind (field_spelt dialect.order l (cut dialect b).rest)) kind (length b)
      (ap (or_else (bad_kind (field_spelt dialect.order l (cut dialect b).rest))) (sym over) ∙ sym same ∙ none)

  on : (l : Layout) → following_all (header_layout dialect) (cut dialect b).items ≡ l
      → ((h : HeaderData) × (l ≡ last_entry h)) ⊎ ((v : ℕ) × (l ≡ foreign_version v))
  on (last_entry h) e = inl (h, refl)
  on (foreign_version v) e = inr (v, refl)
  on other e = absurd (incomplete other
      (ap (decided_on dialect.order (length b) (cut dialect b).items (cut dialect b).rest) (sym e) ∙ quiet) refl)

-- all fields that header_length and what follows it leave decide something at the header's last byte
pub end_decides : (dialect : Dialect) (b : List ℕ) → header_end (cut dialect b).items ≡ Some (length b)
    → header_in dialect b ≡ None → header_decided dialect b ≡ None → ⊥
end_decides dialect b end none quiet =
    elim (quiet_ends dialect b fault.HeaderOverrun (ap (field_overrun (length b) (cut dialect b).items) end) quiet) [
      | inl (h, e) ↦
          let fields = length b - length (cut dialect b).rest in
          let within : (nat_le fields (length b) && nat_le (length b) (length b)) ≡ true =
          rw (le-leb fields (length b) (omega arith)) (le-leb (length b) (length b) (omega arith)) in
          let found : header_in dialect b ≡ Some (h, drop (length b) b) =
          ap (λ (l : Layout). header_up_to b fields (header_made l) (header_end (cut dialect b).items)) e
          ∙ ap (λ (o : Option ℕ). header_up_to b fields (Some h) o) end
          ∙ ap (λ (t : Bool). if t then Some (h, drop (length b) b) else None) within in
          none_some none found
      | inr (v, e) ↦
          let s : Sound dialect.order (header_layout dialect) b (cut dialect b) =
          cut_sound dialect.order (header_layout dialect) [] b in
          let o = opening_of dialect (cut dialect b).items s.front (length b) s.spelt end in
          late_not_foreign o.p o.more v (sym o.after ∙ e)
    ]

spells_split : (order : Order) (layout : Layout) (items more : List Item) (w : List ℕ)
    → SpellsFields order layout (items ++ more) w
    → (u : List ℕ) × (v : List ℕ) × (w ≡ u ++ v) × SpellsFields order layout items u
spells_split order layout [] more w s = ([], w, refl, refl)
spells_split order layout (i ∷ items) more w s =
    let r = spells_split order (following layout i) items more s.1 s.4 in (
      s.0 ++ r.0,
      r.1,
      s.2 ∙ ap (λ (z : List ℕ). s.0 ++ z) r.2 ∙ sym (append_assoc s.0 r.0 r.1),
      (s.0, r.0, refl, s.3, r.3),
    )

-- the bytes of a unit up to the end of its header
pub record UpToHeader (dialect : Dialect) (b : List ℕ) : Type 0 where
  pub front : List ℕ
  pub back : List ℕ
  pub whole : b ≡ front ++ back
  pub ends : header_end (cut dialect front).items ≡ Some (length front)

-- the values of the fields up to header_length, and the size of these
record FirstItems (dialect : Dialect) (items : List Item) (f : Format) (v header : ℕ) : Type 0 where
  first : List Item
  more : List Item
  all : items ≡ first ++ more
  end : header_end first ≡ Some (initial_size f + fixed_part f v + header)
  size : (u : List ℕ) → SpellsFields dialect.order (header_layout dialect) first u
      → length u ≡ initial_size f + fixed_part f v

-- where no field follows these, no byte does
size_of : (dialect : Dialect) (items : List Item) (f : Format) (v end : ℕ) (u : List ℕ) → header_end items ≡ Some end
    → ((o : Opening dialect items u) → (o.more ≡ []) × (o.format ≡ f) × (o.of_version ≡ v))
    → SpellsFields dialect.order (header_layout dialect) items u → length u ≡ initial_size f + fixed_part f v
size_of dialect items f v end u e is s =
    let o = opening_of dialect items u end s e in
    let k = is o in
    let zero : length o.rest ≡ 0 = ap length (rw k.0 at o.spelt) in
    rw (← k.1, ← k.2) (omega (arith, o.size, zero))

first_of : (dialect : Dialect) (items : List Item) (w : List ℕ) (o : Opening dialect items w)
    → FirstItems dialect items o.format o.of_version o.header
first_of dialect items w o = elim o.shape [
  | inl own ↦
      let first : List Item = length_is o.format o.unit_length ∷ number_is 5 ∷ number_is own.0 ∷ number_is own.1
      ∷ number_is o.header ∷ [] in
      let end : header_end first ≡ Some (initial_size o.format + fixed_part o.format o.of_version + o.header) =
      ap (λ (v : ℕ). Some (initial_size o.format + fixed_part o.format v + o.header)) (sym own.2) in
      record {
        first = first;
        more = o.more;
        all = own.3;
        end = end;
        size = λ u s. size_of dialect first o.format o.of_version _ u end (λ c. elim c.shape [
          | inl d ↦ (cc, cc, d.2 ∙ sym own.2)
          | inr d ↦ absurd (d.1 (number_same c.of_version 5 (cc)))
        ]) s;
      }
  | inr older ↦
      let first : List Item = length_is o.format o.unit_length ∷ number_is o.of_version ∷ number_is o.header ∷ [] in
      let end : header_end first ≡ Some (initial_size o.format + fixed_part o.format o.of_version + o.header) =
      rw (ne_eqb o.of_version 5 older.1) refl in
      record {
        first = first;
        more = o.more;
        all = older.3;
        end = end;
        size = λ u s. size_of dialect first o.format o.of_version _ u end (λ c. elim c.shape [
          | inl d ↦ absurd (older.1 (number_same o.of_version 5 (cc)))
          | inr d ↦ (cc, cc, number_same c.of_version o.of_version (cc))
        ]) s;
      }
]

pub up_to_header : (dialect : Dialect) (b : List ℕ) (end : ℕ) → unit_len dialect b ≡ Some (length b)
    → header_end (cut dialect b).items ≡ Some end → UpToHeader dialect b
up_to_header dialect b end len e =
    let s : Sound dialect.order (header_layout dialect) b (cut dialect b) =
    cut_sound dialect.order (header_layout dialect) [] b in
    opened (cut dialect b).items s.front (cut dialect b).rest s.whole s.spelt len
    (opening_of dialect (cut dialect b).items s.front end s.spelt e)
  where
    opened : (items : List Item) (fields rest : List ℕ) → b ≡ fields ++ rest
        → SpellsFields dialect.order (header_layout dialect) items fields → unit_end items ≡ Some (length b)
        → Opening dialect items fields → UpToHeader dialect b
    opened items fields rest whole s unit o =
        let i = first_of dialect items fields o in
        let u = spells_split dialect.order (header_layout dialect) i.first i.more fields
        (rw i.all at s) in
        let tail = u.1 ++ rest in
        let all : b ≡ u.0 ++ tail = whole ∙ ap (λ (w : List ℕ). w ++ rest) u.2 ∙ append_assoc u.0 u.1 rest in
        let size = i.size u.0 u.3 in
        let long : initial_size o.format + o.unit_length ≡ length b = some_same _ _ (sym o.unit ∙ unit) in
        let le : o.header ≤ length tail =
        omega (arith, o.fits, size, long, ap length all, length-append u.0 tail) in
        record {
          front = u.0 ++ take o.header tail;
          back = drop o.header tail;
          whole = all ∙ ap (λ (w : List ℕ). u.0 ++ w) (sym (take-append-drop o.header tail))
              ∙ sym (append_assoc u.0 (take o.header tail) (drop o.header tail));
          ends =
              ap (λ (c : Cut). header_end c.items)
              (cut_fields dialect.order (header_layout dialect) i.first u.0 (take o.header tail) u.3)
              ∙ header_end-append i.first _ _ i.end
              ∙ ap (λ (m : ℕ). Some m) (omega (
                arith,
                size,
                length-append u.0 (take o.header tail),
                length-take-le o.header tail le,
              ));
        }

-- ---- where header_length isn't complete

made_own : (order : Order) (f : Format) (n : ℕ) (items : List Item) (w : List ℕ) → own_end f items ≡ None
    → SpellsFields order (from_address_size n (format_alone f)) items w
    → header_made (following_all (from_address_size n (format_alone f)) items) ≡ None
made_own order f n [] w e s = refl
made_own order f n (i ∷ []) w e s = rw (is_number order address_size (after_address f n) s.0 i s.3).item
made_own order f n (i ∷ j ∷ []) w e s =
    let a = is_number order address_size (after_address f n) s.0 i s.3 in
    let t : SpellsFields order (after_address f n a.number) (j ∷ []) s.1 = rw a.item at s.4 in
    rw (a.item, (is_number order any_byte (after_segment f n a.number) t.0 j t.3).item)
made_own order f n (i ∷ j ∷ k ∷ items) w e s =
    let a = is_number order address_size (after_address f n) s.0 i s.3 in
    let t : SpellsFields order (after_address f n a.number) (j ∷ k ∷ items) s.1 = rw a.item at s.4 in
    let b = is_number order any_byte (after_segment f n a.number) t.0 j t.3 in
    let u : SpellsFields order (after_segment f n a.number b.number) (k ∷ items) t.1 = rw b.item at t.4 in
    let c = is_number order (header_length f (n - fixed_part f 5)) (after_header f a.number b.number) u.0 k u.3 in
    absurd (none_some e (ap (λ (x : Item). own_end f (i ∷ j ∷ x ∷ items)) c.item))

made_foreign : (order : Order) (v : ℕ) (items : List Item) (w : List ℕ) → SpellsFields order (foreign_version v) items w
    → header_made (following_all (foreign_version v) items) ≡ None
made_foreign order v [] w s = refl
made_foreign order v (i ∷ items) w s = absurd (none_some refl s.3)

made_older : (order : Order) (f : Format) (n v : ℕ) (o : Option ℕ) (items : List Item) (w : List ℕ)
    → older_end f v items ≡ None → SpellsFields order (from_older_version f n v o) items w
    → header_made (following_all (from_older_version f n v o) items) ≡ None
made_older order f n v None items w e s = made_foreign order v items w s
made_older order f n v (Some size) [] w e s = refl
made_older order f n v (Some size) (k ∷ items) w e s =
    let c = is_number order (header_length f (n - fixed_part f v)) (λ m. from_minimum_length (older_params f v size))
    s.0
    k s.3 in
    absurd (none_some e (ap (λ (x : Item). older_end f v (x ∷ items)) c.item))

made_version : (dialect : Dialect) (f : Format) (n v : ℕ) (items : List Item) (w : List ℕ)
    → header_end (length_is f n ∷ number_is v ∷ items) ≡ None
    → SpellsFields dialect.order (after_length dialect f n v) items w
    → header_made (following_all (after_length dialect f n v) items) ≡ None
made_version dialect f n v items w e s = elim (cases_eq v 5) [
  | inl same ↦ rw (eq-eqb v 5 same) (made_own dialect.order f n items w (rw (eq-eqb v 5 same) at e)
      (rw (eq-eqb v 5 same) at s))
  | inr other ↦ rw (ne_eqb v 5 other) (made_older dialect.order f n v (older_size dialect v) items w
      (rw (ne_eqb v 5 other) at e) (rw (ne_eqb v 5 other) at s))
]

-- a complete header has its header_length
made_ends : (dialect : Dialect) (items : List Item) (w : List ℕ)
    → SpellsFields dialect.order (header_layout dialect) items w
    → header_end items ≡ None → header_made (following_all (header_layout dialect) items) ≡ None
made_ends dialect [] w s e = refl
made_ends dialect (i ∷ []) w s e = rw (is_length dialect.order s.0 i s.3).item
made_ends dialect (i ∷ j ∷ items) w s e =
    let a = is_length dialect.order s.0 i s.3 in
    let next = number_then version (after_length dialect a.format a.number) in
    let t : SpellsFields dialect.order next (j ∷ items) s.1 = rw a.item at s.4 in
    let b = is_number dialect.order version (after_length dialect a.format a.number) t.0 j t.3 in
    rw (a.item, b.item)
    (made_version dialect a.format a.number b.number items t.1 (rw (a.item, b.item) at e) (rw b.item at t.4))

-- the unit's last byte decides something
pub unit_decides : (dialect : Dialect) (b : List ℕ) → unit_len dialect b ≡ Some (length b)
    → header_end (cut dialect b).items ≡ None → foreign_in dialect b ≡ None → header_decided dialect b ≡ None → ⊥
unit_decides dialect b len end foreign quiet =
    elim (quiet_ends dialect b fault.UnitOverrun
    (ap (field_overrun (length b) (cut dialect b).items) end ∙ ap (at_end fault.UnitOverrun (length b)) len) quiet) [
      | inl (h, e) ↦
          let s : Sound dialect.order (header_layout dialect) b (cut dialect b) =
          cut_sound dialect.order (header_layout dialect) [] b in
          none_some {a = h} (made_ends dialect (cut dialect b).items s.front s.spelt end) (ap header_made e)
      | inr (v, e) ↦ none_some {a = v} foreign (ap foreign_made e)
    ]
