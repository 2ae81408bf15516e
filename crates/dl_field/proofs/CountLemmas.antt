-- The reader of a table at the count of its entries.
use Rattle.std.proofs.Common.{◌≡◌, ◌≢◌, ℕ, suc, ◌-◌, ◌^◌, ◌<◌, ◌≤◌, ◌==◌, Bool, true, false, not, List, [], length, map}
use Rattle.std.proofs.Common.{sum_by, None, refl, sym, ap, ◌∙◌, arith}
use Rattle.std.proofs.lemmas.Bool.{lt-ltb, le-ltb, ne_eqb, eq-eqb, eqb-true}
use Rattle.dl_num.specs.declared.fixed.Order.{Order}
use Rattle.dl_num.specs.declared.leb.Uleb.{Uleb}
use Rattle.dl_num.specs.Leb.{IsUleb}
use Rattle.dl_num.specs.LebReader.{UlebTook}
use Rattle.dl_num.proofs.LebFrontLemmas.{true_false}
use Rattle.dl_table.specs.declared.fault.FaultKind.TheVariants as fault
use Rattle.dl_table.specs.declared.form.Format.{Format}
use Rattle.dl_table.specs.declared.table.Pair.{Pair}
use Rattle.dl_table.specs.declared.table.held.StoredValue.{StoredValue}
use Rattle.dl_field.specs.declared.table_reader.TableReader.{TableReader}
use Rattle.dl_table.specs.TableData.{TableData}
use Rattle.dl_table.specs.Held.{value_held, values_end, cells_held}
use Rattle.dl_table.specs.Value.{good, bad}
use Rattle.dl_field.specs.Layout.{Layout, entry_count, number_is, following, field_spelt, entries_layout, objection}
use Rattle.dl_field.specs.Layout.{judged}
use Rattle.dl_field.specs.TablePlace.{after_pairs, NoValues, Holds, Summed, values_left, IsWhole, TableAt}
use Rattle.dl_field.specs.TableMoves.{GoesOn}
use Rattle.dl_field.proofs.PairLemmas.{number_open, number_whole}

abbrev some_pairs : List Pair → Bool
some_pairs pairs = not (length pairs == 0)

no_pairs : (pairs : List Pair) → length pairs ≡ 0 → some_pairs pairs ≡ false
no_pairs pairs e = ap not (eq-eqb _ _ e)

has_pairs : (pairs : List Pair) → length pairs ≢ 0 → some_pairs pairs ≡ true
has_pairs pairs e = ap not (ne_eqb _ _ e)

pub count_open : (order : Order) (format : Format) (next : TableData → Layout) (some : Bool) (pairs : List Pair)
    (layout : Layout) (u : Uleb) (w : List ℕ) → layout ≡ after_pairs format next some pairs → UlebTook u w
    → field_spelt order layout w ≡ None
count_open order format next some pairs layout u w is took = ap (λ (l : Layout). field_spelt order l w) is
    ∙ number_open order (entry_count some) u w took

count_judged : (order : Order) (format : Format) (next : TableData → Layout) (some : Bool) (pairs : List Pair)
    (layout : Layout) (w : List ℕ) (n : ℕ) → layout ≡ after_pairs format next some pairs → IsUleb w n
    → field_spelt order layout w ≡ judged (objection (entry_count some) n) n
count_judged order format next some pairs layout w n is spelt = ap (λ (l : Layout). field_spelt order l w) is
    ∙ number_whole order (entry_count some) w n spelt

pub count_empty : (order : Order) (format : Format) (next : TableData → Layout) (pairs : List Pair) (layout : Layout)
    (w : List ℕ) (n : ℕ) → layout ≡ after_pairs format next (some_pairs pairs) pairs → IsUleb w n
    → length pairs ≡ 0 → n ≢ 0 → field_spelt order layout w ≡ bad fault.EmptyFormat
count_empty order format next pairs layout w n is spelt none other =
    count_judged order format next (some_pairs pairs) pairs layout w n is spelt
    ∙ ap (λ (b : Bool). judged (objection (entry_count b) n) n) (no_pairs pairs none) ∙ rw (ne_eqb n 0 other) refl

pub count_large : (order : Order) (format : Format) (next : TableData → Layout) (pairs : List Pair) (layout : Layout)
    (w : List ℕ) (n : ℕ) → layout ≡ after_pairs format next (some_pairs pairs) pairs → IsUleb w n
    → length pairs ≢ 0 → 2 ^ 64 ≤ n → field_spelt order layout w ≡ bad fault.LebRange
count_large order format next pairs layout w n is spelt some le =
    count_judged order format next (some_pairs pairs) pairs layout w n is spelt
    ∙ ap (λ (b : Bool). judged (objection (entry_count b) n) n) (has_pairs pairs some) ∙ rw (le-ltb n (2 ^ 64) le) refl

count_good : (order : Order) (format : Format) (next : TableData → Layout) (pairs : List Pair) (layout : Layout)
    (w : List ℕ) (n : ℕ) → layout ≡ after_pairs format next (some_pairs pairs) pairs → IsUleb w n
    → length pairs ≢ 0 → n < 2 ^ 64 → field_spelt order layout w ≡ good (number_is n)
count_good order format next pairs layout w n is spelt some lt =
    count_judged order format next (some_pairs pairs) pairs layout w n is spelt
    ∙ ap (λ (b : Bool). judged (objection (entry_count b) n) n) (has_pairs pairs some) ∙ rw (lt-ltb n (2 ^ 64) lt) refl

zero_good : (some : Bool) (n : ℕ) → n ≡ 0 → judged (objection (entry_count some) n) n ≡ good (number_is 0)
zero_good true n e = ap (λ (m : ℕ). judged (objection (entry_count true) m) m) e
zero_good false n e = ap (λ (m : ℕ). judged (objection (entry_count false) m) m) e

holds_none : (t : TableReader) → NoValues t → Holds t.pairs.items t.pool.items t.values.items [] []
holds_none t none = record {
  held = ap (λ (hs : List StoredValue). map (value_held t.pool.items) hs) (sym none.values);
  wide = tt;
  within = omega (arith, ap values_end none.values);
}

summed_none : (t : TableReader) → NoValues t → Summed t.values.items (length t.pool.items)
summed_none t none = omega (arith, ap (sum_by cells_held) none.values, ap length none.values, ap length none.pool)

-- no entries
pub no_entries : (order : Order) (t : TableReader) (format : Format) (next : TableData → Layout) (layout : Layout)
    (w : List ℕ) (n : ℕ) → NoValues t
    → layout ≡ after_pairs format next (some_pairs t.pairs.items) t.pairs.items → IsUleb w n → n ≡ 0
    → (field_spelt order layout w ≡ good (number_is 0)) × IsWhole t format next (following layout (number_is 0))
no_entries order t format next layout w n none is spelt e = (
  count_judged order format next (some_pairs t.pairs.items) t.pairs.items layout w n is spelt
      ∙ zero_good (some_pairs t.pairs.items) n e,
  record {
    entries = [];
    holds = holds_none t none;
    summed = summed_none t none;
    some_pairs = λ e. refl;
    layout_is = ap
        (λ (l : Layout). following l (number_is 0)) is;
  },
)

-- the first entry
pub first_entry : (order : Order) (old new : TableReader) (format : Format) (next : TableData → Layout)
    (layout : Layout) (w : List ℕ) (n : ℕ) → NoValues old
    → layout ≡ after_pairs format next (some_pairs old.pairs.items) old.pairs.items → IsUleb w n → n ≢ 0 → n < 2 ^ 64
    → length old.pairs.items ≢ 0
    → GoesOn old.pairs.items old.pool.items (old.values.items) 0 n format new
    → (field_spelt order layout w ≡ good (number_is n))
    × TableAt order new new.phase format next (following layout (number_is n)) []
first_entry order old new format next layout w n none is spelt other lt some goes =
    let pairs = old.pairs.items in
    let one : n ≡ suc (n - 1) = omega (arith, other) in
    let left : following layout (number_is n) ≡ values_left format next pairs [] [] n =
    ap (λ (l : Layout). following l (number_is n)) is
    ∙ ap (λ (k : ℕ). entries_layout format pairs k [] λ entries. next
    (record { format = format; pairs = pairs; entries = entries })) one in (
      count_good order format next pairs layout w n is spelt some lt,
      goes order next (following layout (number_is n)) [] [] (holds_none old none) (summed_none old none) refl left,
    )

-- ---- by the test for pairs

pub tested_none : (r : Bool) (len n : ℕ) → r ≡ (len == 0) → r ≡ true → len ≡ n → n ≡ 0
tested_none r len n is t e = sym e ∙ eqb-true len 0 (sym is ∙ t)

pub tested_some : (r : Bool) (len n : ℕ) → r ≡ (len == 0) → r ≡ false → len ≡ n → n ≢ 0
tested_some r len n is f e = λ zero_is. true_false (eq-eqb len 0 (e ∙ zero_is)) (sym is ∙ f)
