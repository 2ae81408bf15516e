-- The table that its reader holds, once the last entry is complete.
use Rattle.std.proofs.Common.{◌≡◌, ℕ, ◌*◌, ◌/◌, List, [], ◌∷◌, ◌++◌, length, drop, map, inl, inr, refl, sym, ap, ◌∙◌}
use Rattle.std.proofs.Common.{arith, length-append, append-nil}
use Rattle.std.proofs.lemmas.Bool.{cases_lt}
use Rattle.std.proofs.lemmas.List.{length-map, take_at, drop_at}
use Rattle.std.proofs.Math.Nat.{mul-div_cancel}
use Rattle.dl_table.specs.declared.form.Format.{Format}
use Rattle.dl_table.specs.declared.table.Pair.{Pair}
use Rattle.dl_table.specs.declared.table.held.StoredValue.{StoredValue}
use Rattle.dl_field.specs.declared.table_reader.TableReader.{TableReader}
use Rattle.dl_table.specs.TableData.{TableData}
use Rattle.dl_table.specs.Held.{value_held, rows, table_of}
use Rattle.dl_table.specs.Held.{IsWhole as AreRows}
use Rattle.dl_table.specs.TableCells.{table_cells}
use Rattle.dl_field.specs.Layout.{Layout}
use Rattle.dl_table.specs.Value.{Value}
use Rattle.dl_field.specs.TablePlace.{joined, AreWide, Holds, IsWhole, reader_cells}
use Rattle.dl_table.proofs.RowLemmas.{cells_table}

length-joined : (width : ℕ) (entries : List (List Value)) → AreWide width entries
    → length (joined entries) ≡ length entries * width
length-joined width [] wide = omega arith
length-joined width (e ∷ entries) wide = omega
    (arith, length-append e (joined entries), wide.0, length-joined width entries wide.1)

-- the rows of entries that are joined are the entries
rows_joined : (width : ℕ) (entries : List (List Value)) → AreWide width entries
    → rows (length entries) width (joined entries) ≡ entries
rows_joined width [] wide = refl
rows_joined width (e ∷ entries) wide =
    ap (λ (l : List Value). l ∷ rows (length entries) width (drop width (e ++ joined entries)))
    (take_at e (joined entries) width wide.0)
    ∙ ap (λ (l : List Value). e ∷ rows (length entries) width l) (drop_at e (joined entries) width wide.0)
    ∙ ap (λ (l : List (List Value)). e ∷ l) (rows_joined width entries wide.1)

-- the values are whole rows, which are these entries
pub record AreEntries (pairs : List Pair) (pool : List ℕ) (values : List StoredValue)
    (entries : List (List Value)) : Type 0 where
  pub whole : AreRows (length values) (length pairs)
  pub rows_are : rows (length values / length pairs) (length pairs) (map (value_held pool) values) ≡ entries

pub rows_held : (pairs : List Pair) (pool : List ℕ) (values : List StoredValue) (entries : List (List Value))
    (height : length values / length pairs ≡ length entries) → Holds pairs pool values entries []
    → AreEntries pairs pool values entries
rows_held pairs pool values entries height holds =
    let all : joined entries ≡ map (value_held pool) values = sym (append-nil (joined entries)) ∙ holds.held in
    let count : length values ≡ length entries * length pairs =
    omega (
      arith,
      ap length all,
      length-map values (value_held pool),
      length-joined (length pairs) entries holds.wide,
    ) in
    record {
      whole = ap (λ (n : ℕ). n * length pairs) height ∙ sym count;
      rows_are =
          ap (λ (n : ℕ). rows n (length pairs) (map (value_held pool) values)) height
          ∙ ap (λ (l : List Value). rows (length entries) (length pairs) l) (sym all)
          ∙ rows_joined (length pairs) entries holds.wide;
    }

pub count_held : (pairs : List Pair) (pool : List ℕ) (values : List StoredValue) (entries : List (List Value))
    → Holds pairs pool values entries [] → length values ≡ length entries * length pairs
count_held pairs pool values entries holds =
    omega (
      arith,
      ap length holds.held,
      ap length (append-nil (joined entries)),
      length-map values (value_held pool),
      length-joined (length pairs) entries holds.wide,
    )

pub height_held : (values width entries : ℕ) → values ≡ entries * width → (width ≡ 0 → entries ≡ 0)
    → values / width ≡ entries
height_held values width entries count none = elim (cases_lt 0 width) [
  | inl some ↦ ap (λ (n : ℕ). n / width) count ∙ mul-div_cancel entries some
  | inr zero_is ↦
      let w : width ≡ 0 = omega (arith, zero_is) in
      let e : entries ≡ 0 = none w in
      let v : values ≡ 0 = count ∙ ap (λ (n : ℕ). n * width) e ∙ omega arith in
      ap (λ (n : ℕ). n / width) v ∙ ap (λ (n : ℕ). 0 / n) w ∙ sym e
]

pub whole_held : (t : TableReader) (format : Format) (next : TableData → Layout) (layout : Layout)
    (is : IsWhole t format next layout) → AreEntries t.pairs.items t.pool.items t.values.items is.entries
whole_held t format next layout is =
    rows_held t.pairs.items t.pool.items t.values.items is.entries
    (height_held (length t.values.items) (length t.pairs.items) (length is.entries)
    (count_held t.pairs.items t.pool.items t.values.items is.entries is.holds) (λ none. ap length (is.some_pairs none)))
    is.holds

-- the table that is made of the values: it is what was read, and as many cells as the reader held
pub table_taken : (t : TableReader) (format : Format) (next : TableData → Layout) (layout : Layout) (d : TableData)
    → IsWhole t format next layout
    → d ≡ table_of format t.pairs.items t.values.items t.pool.items
    → (layout ≡ next d) × (table_cells d ≡ reader_cells t)
table_taken t format next layout d is made =
    let e = whole_held t format next layout is in (
      is.layout_is ∙ ap next (ap (λ (es : List (List Value)). record {
        format = format;
        pairs = t.pairs.items;
        entries = es;
      }) (sym e.rows_are) ∙ sym made),
      omega (
        arith,
        ap table_cells made,
        cells_table format t.pairs.items t.values.items t.pool.items is.holds.within
            e.whole,
        is.summed,
      ),
    )
