-- Tables are equal where their formats, pairs and values are.
use Rattle.std.proofs.Common.{◌≡◌, ℕ, ◌+◌, ◌/◌, ◌<◌, List, length, take, map, get_or, refl, sym, ap, ◌∙◌, arith}
use Rattle.std.specs.List.{flat_map}
use Rattle.std.proofs.lemmas.List.{length-map, take_more_same}
use Rattle.dl_table.specs.declared.form.Format.{Format}
use Rattle.dl_table.specs.declared.table.Pair.{Pair}
use Rattle.dl_table.specs.declared.table.held.StoredValue.{StoredValue}
use Rattle.dl_table.specs.Value.{Value, number}
use Rattle.dl_table.specs.TableData.{TableData}
use Rattle.dl_table.specs.Held.{table_of, value_held, IsWhole}
use Rattle.dl_table.proofs.HeldLemmas.{value_at}
use Rattle.dl_table.proofs.RowLemmas.{joined_rows}

module _ (pool other : List ℕ) (values others : List StoredValue) where
  -- one value more is the same
  pub same_values-more : (i : ℕ) {h k : StoredValue} → i < length values → i < length others
      → h ≡ get_or values i h → k ≡ get_or others i k
      → take i (map (value_held pool) values) ≡ take i (map (value_held other) others)
      → value_held pool h ≡ value_held other k
      → take (i + 1) (map (value_held pool) values) ≡ take (i + 1) (map (value_held other) others)
  same_values-more i within other_within is other_is before now =
      take_more_same (map (value_held pool) values) (map (value_held other) others) i (number 0)
      (omega (arith, length-map values (value_held pool))) (omega (arith, length-map others (value_held other))) before
      (value_at pool values i within is ∙ now ∙ sym (value_at other others i other_within other_is))

  -- the same values are the same at each place
  pub same_values-at : (i : ℕ) {h k : StoredValue} → i < length values → i < length others
      → h ≡ get_or values i h → k ≡ get_or others i k
      → map (value_held pool) values ≡ map (value_held other) others → value_held pool h ≡ value_held other k
  same_values-at i within other_within is other_is all =
      sym (value_at pool values i within is) ∙ ap (λ (vs : List Value). get_or vs i (number 0)) all
      ∙ value_at other others i other_within other_is

  -- a table has the values of its entries
  pub table_of-same : (format other_format : Format) (pairs other_pairs : List Pair) → format ≡ other_format
      → pairs ≡ other_pairs → map (value_held pool) values ≡ map (value_held other) others
      → table_of format pairs values pool ≡ table_of other_format other_pairs others other
  table_of-same format other_format pairs other_pairs formats pairs_same all =
      let count : length values ≡ length others = omega
      (arith, length-map values (value_held pool), length-map others (value_held other), ap length all) in
      rw (formats, pairs_same, all, count) refl

  pub values-same : (format other_format : Format) (pairs other_pairs : List Pair)
      → IsWhole (length values) (length pairs) → IsWhole (length others) (length other_pairs)
      → table_of format pairs values pool ≡ table_of other_format other_pairs others other
      → map (value_held pool) values ≡ map (value_held other) others
  values-same format other_format pairs other_pairs whole other_whole same =
      let left = joined_rows (length values / length pairs) (length pairs) (map (value_held pool) values)
      (omega (arith, length-map values (value_held pool))) in
      let right = joined_rows (length others / length other_pairs) (length other_pairs) (map (value_held other) others)
      (omega (arith, length-map others (value_held other))) in
      sym left ∙ ap (λ (t : TableData). flat_map (λ row. row) t.entries) same ∙ right
