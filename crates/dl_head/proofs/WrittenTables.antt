-- The tables that are written are good fields, one after the other. DWARF 5, section 6.2.4.
use Rattle.std.proofs.Common.{◌≡◌, ℕ, ◌+◌, ◌^◌, ◌<◌, Bool, true, false, not, ◌==◌, if◌then◌else◌, List, [], ◌∷◌, ◌++◌}
use Rattle.std.proofs.Common.{length, Option, Some, None, refl, sym, ap, subst, arith, append_assoc}
use Rattle.std.specs.List.{AllByRecursion, flat_map, list_all}
use Rattle.std.proofs.lemmas.List.{append-nil}
use Rattle.std.proofs.lemmas.Bool.{ltb-true, lt-ltb, eqb-true, eq-eqb, ne_eqb}
use Rattle.dl_num.specs.declared.fixed.Order.{Order}
use Rattle.dl_num.specs.declared.fixed.Order.TheVariants.{Little, Big}
use Rattle.dl_num.specs.Fixed.{fixed, fixed_bytes}
use Rattle.dl_num.specs.Shortest.{shortest_uleb}
use Rattle.dl_num.proofs.FixedLaws.{fixed_reads_back, fixed_has_its_size}
use Rattle.dl_num.proofs.ShortestLemmas.{computed_is_shortest}
use Rattle.dl_num.proofs.LebFrontLemmas.{true_false, and_left, and_right}
use Rattle.dl_table.specs.declared.form.Format.{Format}
use Rattle.dl_table.specs.declared.form.Format.TheVariants.{Dwarf32, Dwarf64}
use Rattle.dl_table.specs.declared.form.Form.{Form}
use Rattle.dl_table.specs.declared.form.Form.TheVariants as form
use Rattle.dl_table.specs.declared.table.Pair.{Pair}
use Rattle.dl_table.specs.TableData.{TableData}
use Rattle.dl_table.specs.Value.{Value, text, line_str, str, str_sup, number, block, data16, form_code, offset_size}
use Rattle.dl_field.specs.Layout.{Layout, number_then, Item, number_is, form_is, value_is, following, following_all}
use Rattle.dl_field.specs.Layout.{content_code, entry_count, objection, pairs_layout, entry_layout, entries_layout}
use Rattle.dl_field.specs.Layout.{table_layout}
use Rattle.dl_head.specs.Header.{SpellsFields}
use Rattle.dl_field.specs.Field.{IsFixed, HasNoZero, IsValue, IsField}
use Rattle.dl_table.specs.Written.{value_bytes, pair_bytes, entry_bytes, table_bytes}
use Rattle.dl_table.specs.Built.{fits_offset, fits_form, wrong_value, entry_fault_of}
use Rattle.dl_table.specs.Sound.{IsSoundTable}
use Rattle.dl_field.proofs.FieldLaws.{field_is_judged}

-- ---- values

pub fixed_written : (order : Order) (k n : ℕ) → n < 256 ^ k → IsFixed order k n (fixed_bytes order k n)
fixed_written order k n lt = (fixed_has_its_size order k n, sym (fixed_reads_back order k n lt))

no_zero : (w : List ℕ) → list_all (λ b. not (b == 0)) w ≡ true → HasNoZero w
no_zero [] e = tt
no_zero (b ∷ w) e = (
  (λ z. true_false (and_left (not (b == 0)) (list_all (λ c. not (c == 0)) w) e) (ap not (eq-eqb b 0 z))),
  no_zero w (and_right (not (b == 0)) (list_all (λ c. not (c == 0)) w) e),
)

offset_fits : (format : Format) (n : ℕ) → fits_offset format n ≡ true → n < 256 ^ offset_size format
offset_fits Dwarf32 n e = ltb-true n (2 ^ 32) e
offset_fits Dwarf64 n e = ltb-true n (2 ^ 64) e

-- a value is spelled in its form
value_written : (order : Order) (format : Format) (f : Form) (v : Value) → fits_form format f v ≡ true
    → IsValue order format f v (value_bytes order format f v)
value_written order format form.Block2 (block w) e =
    (w, refl, (fixed_bytes order 2 (length w), refl, fixed_written order 2 (length w) (ltb-true (length w) (2 ^ 16) e)))
value_written order format form.Block4 (block w) e =
    (w, refl, (fixed_bytes order 4 (length w), refl, fixed_written order 4 (length w) (ltb-true (length w) (2 ^ 32) e)))
value_written order format form.Data2 (number n) e = (n, refl, fixed_written order 2 n (ltb-true n (2 ^ 16) e))
value_written order format form.Data4 (number n) e = (n, refl, fixed_written order 4 n (ltb-true n (2 ^ 32) e))
value_written order format form.Data8 (number n) e = (n, refl, fixed_written order 8 n (ltb-true n (2 ^ 64) e))
value_written order format form.String (text w) e = (w, refl, (refl, no_zero w e))
value_written order format form.Block (block w) e = (
  w,
  refl,
  (
    shortest_uleb (length w),
    refl,
    ((computed_is_shortest (length w)).spells, ltb-true (length w) (2 ^ 64) e),
  ),
)
value_written order format form.Block1 (block w) e =
    (w, refl, (fixed_bytes order 1 (length w), refl, fixed_written order 1 (length w) (ltb-true (length w) (2 ^ 8) e)))
value_written order format form.Data1 (number n) e = (n, refl, fixed_written order 1 n (ltb-true n (2 ^ 8) e))
value_written order format form.Strp (str n) e =
    (n, refl, fixed_written order (offset_size format) n (offset_fits format n e))
value_written order format form.Udata (number n) e = (n, refl, ((computed_is_shortest n).spells, ltb-true n (2 ^ 64) e))
value_written order format form.StrpSup (str_sup n) e =
    (n, refl, fixed_written order (offset_size format) n (offset_fits format n e))
value_written order format form.Data16 (data16 w) e = (refl, eqb-true (length w) 16 e)
value_written order format form.LineStrp (line_str n) e =
    (n, refl, fixed_written order (offset_size format) n (offset_fits format n e))
value_written order format f v e = absurd (true_false e refl)

-- ---- fields, one after the other

-- from a layout on, w is good fields, up to another one
pub record Reaches (order : Order) (from : Layout) (w : List ℕ) (to : Layout) : Type 0 where
  pub items : List Item
  pub spelt : SpellsFields order from items w
  pub ends : following_all from items ≡ to

module _ (order : Order) (to : Layout) where
  pub reach_one : (from : Layout) (i : Item) (w v : List ℕ) → IsField order from i w
      → Reaches order (following from i) v to → Reaches order from (w ++ v) to
  reach_one from i w v is rest = record {
    items = i ∷ rest.items;
    spelt = (w, v, refl, (field_is_judged order from i w).0 is, rest.spelt);
    ends = rest.ends;
  }

  pub fixed_byte : (n : ℕ) → n ≡ fixed order (n ∷ [])
  fixed_byte n = in_order order n where
    in_order : (o : Order) (n : ℕ) → n ≡ fixed o (n ∷ [])
    in_order Little n = omega arith
    in_order Big n = omega arith

  -- one more of a list of pairs, values or entries
  pub one_more : {A : Type 0} (next : List A → Layout) (before : List A) (x : A) (xs : List A) (v : List ℕ)
      → Reaches order (next (before ++ x ∷ xs)) v to → Reaches order (next ((before ++ x ∷ []) ++ xs)) v to
  one_more next before x xs v rest = rw (append_assoc before (x ∷ []) xs) rest

  uleb_fits : (n : ℕ) → n < 2 ^ 64 → objection content_code n ≡ None
  uleb_fits n lt = rw (lt-ltb n (2 ^ 64) lt) refl

  reach_pairs : (ps before : List Pair) (next : List Pair → Layout) (v : List ℕ)
      → AllByRecursion (λ (p : Pair). p.content < 2 ^ 64) ps → Reaches order (next (before ++ ps)) v to
      → Reaches order (pairs_layout (length ps) before next) (flat_map pair_bytes ps ++ v) to
  reach_pairs [] before next v fits rest = rw (← append-nil before) rest
  reach_pairs (p ∷ ps) before next v fits rest =
      let code = shortest_uleb p.content in
      let form = shortest_uleb (form_code p.form) in
      let bytes = flat_map pair_bytes ps ++ v in
      subst (λ (w : List ℕ). Reaches order (pairs_layout (length (p ∷ ps)) before next) w to)
      (simp append_assoc)
      (reach_one (pairs_layout (length (p ∷ ps)) before next) (number_is p.content) code (form ++ bytes)
      (p.content, refl, (computed_is_shortest p.content).spells, uleb_fits p.content fits.0)
      (reach_one _ (form_is p.form) form bytes (p.form, refl, (computed_is_shortest (form_code p.form)).spells)
      (reach_pairs ps (before ++ p ∷ []) next v fits.1 (one_more next before p ps v rest))))

  value_first : (b : Bool) (i : ℕ) (o : Option ℕ) → (if b then o else Some i) ≡ None → (b ≡ true) × (o ≡ None)
  value_first true i o e = (refl, e)
  value_first false i o e = absurd cc

  reach_entry : (format : Format) (i : ℕ) (pairs : List Pair) (values before : List Value) (next : List Value → Layout)
      (v : List ℕ) → wrong_value format i pairs values ≡ None → Reaches order (next (before ++ values)) v to
      → Reaches order (entry_layout format pairs before next) (entry_bytes order format pairs values ++ v) to
  reach_entry format i [] [] before next v none rest = rw (← append-nil before) rest
  reach_entry format i [] (x ∷ values) before next v none rest = absurd cc
  reach_entry format i (p ∷ pairs) [] before next v none rest = absurd cc
  reach_entry format i (p ∷ pairs) (x ∷ values) before next v none rest =
      let t = value_first (fits_form format p.form x) i (wrong_value format (i + 1) pairs values) none in
      rw append_assoc (reach_one (entry_layout format (p ∷ pairs) before next) (value_is x)
      (value_bytes order format p.form x) (entry_bytes order format pairs values ++ v)
      (x, refl, value_written order format p.form x t.0)
      (reach_entry format (i + 1) pairs values (before ++ x ∷ []) next v t.1 (one_more next before x values v rest)))

  entry_right : (pairs : List Pair) (o : Option ℕ) → entry_fault_of pairs o ≡ None → o ≡ None
  entry_right [] o e = absurd cc
  entry_right (p ∷ pairs) None e = refl
  entry_right (p ∷ pairs) (Some i) e = absurd cc

  reach_entries : (format : Format) (pairs : List Pair) (es before : List (List Value))
      (next : List (List Value) → Layout) (v : List ℕ)
      → AllByRecursion (λ (values : List Value). entry_fault_of pairs (wrong_value format 0 pairs values) ≡ None) es
      → Reaches order (next (before ++ es)) v to → Reaches order (entries_layout format pairs (length es) before next)
      (flat_map (λ values. entry_bytes order format pairs values) es ++ v) to
  reach_entries format pairs [] before next v right rest = rw (← append-nil before) rest
  reach_entries format pairs (e ∷ es) before next v right rest =
      let bytes = flat_map (λ values. entry_bytes order format pairs values) es in
      rw append_assoc (reach_entry format 0 pairs e []
      (λ entry. entries_layout format pairs (length es) (before ++ entry ∷ []) next) (bytes ++ v)
      (entry_right pairs (wrong_value format 0 pairs e) right.0)
      (reach_entries format pairs es (before ++ e ∷ []) next v right.1 (one_more next before e es v rest)))

  -- an entry needs pairs
  count_right : (pairs : List Pair) (es : List (List Value)) (o : List Value → Option ℕ)
      → AllByRecursion (λ (values : List Value). entry_fault_of pairs (o values) ≡ None) es → length es < 2 ^ 64
      → objection (entry_count (not (length pairs == 0))) (length es) ≡ None
  count_right [] [] o right fits = refl
  count_right [] (e ∷ es) o right fits = absurd (let none = right.0 in cc)
  count_right (p ∷ pairs) es o right fits =
      rw (ne_eqb (length (p ∷ pairs)) 0 (λ z. omega arith), lt-ltb (length es) (2 ^ 64) fits) refl

  five : (n : ℕ) (a b c d : List ℕ) → (n ∷ []) ++ (a ++ (b ++ (c ++ d))) ≡ (n ∷ a ++ b ++ c) ++ d
  five n a b c d = simp append_assoc

  pub reach_table : (t : TableData) (next : TableData → Layout) (v : List ℕ) → IsSoundTable t
      → Reaches order (next t) v to → Reaches order (table_layout t.format next) (table_bytes order t ++ v) to
  reach_table t next v sound rest =
      let pairs = flat_map pair_bytes t.pairs in
      let count = shortest_uleb (length t.entries) in
      let entries = flat_map (λ values. entry_bytes order t.format t.pairs values) t.entries in
      let counted : List Pair → Layout = λ ps. number_then (entry_count (not (length t.pairs == 0)))
      λ count. entries_layout t.format ps count [] λ es. next
      (record { format = t.format; pairs = ps; entries = es }) in
      subst (λ (w : List ℕ). Reaches order (table_layout t.format next) w to)
      (five (length t.pairs) pairs count entries v)
      (reach_one (table_layout t.format next) (number_is (length t.pairs)) (length t.pairs ∷ [])
      (pairs ++ (count ++ (entries ++ v))) (length t.pairs, refl, (refl, fixed_byte (length t.pairs)), refl)
      (reach_pairs t.pairs [] counted (count ++ (entries ++ v)) sound.contents
      (reach_one (counted t.pairs) (number_is (length t.entries)) count (entries ++ v) (
        length t.entries,
        refl,
        (computed_is_shortest (length t.entries)).spells,
        count_right t.pairs t.entries (λ es. wrong_value t.format 0 t.pairs es) sound.entries sound.count,
      ) (reach_entries t.format t.pairs t.entries []
      (λ es. next (record { format = t.format; pairs = t.pairs; entries = es })) v sound.entries rest))))
