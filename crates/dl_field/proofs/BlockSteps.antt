-- What a byte makes of a block of a table.
use Rattle.std.proofs.Common.{◌≡◌, ℕ, ◌+◌, ◌-◌, ◌≤◌, List, [], ◌∷◌, ◌++◌, length, take, drop, None, sym, ap, subst, ◌∙◌}
use Rattle.std.proofs.Common.{arith, length-append, append-nil}
use Rattle.std.proofs.lemmas.List.{take_all}
use Rattle.std.proofs.Math.Seq.{drop-append_seam}
use Rattle.dl_num.specs.declared.fixed.Order.{Order}
use Rattle.dl_table.specs.declared.form.Format.{Format}
use Rattle.dl_table.specs.declared.table.Pair.{Pair}
use Rattle.dl_table.specs.declared.table.held.StoredValue.{StoredValue}
use Rattle.dl_table.specs.declared.table.held.StoredValue.TheVariants as held
use Rattle.dl_field.specs.declared.field_step.FieldStep.{FieldStep}
use Rattle.dl_field.specs.declared.field_step.FieldStep.TheVariants as byte_makes
use Rattle.dl_field.specs.declared.table_reader.TableReader.{TableReader}
use Rattle.dl_field.specs.declared.table_reader.TablePhase.{TablePhase}
use Rattle.dl_field.specs.declared.table_reader.TablePhase.TheVariants as phase
use Rattle.dl_field.specs.declared.value_phase.Cursor.{Cursor}
use Rattle.dl_field.specs.declared.value_phase.ValuePhase.{ValuePhase}
use Rattle.dl_field.specs.declared.value_phase.ValuePhase.TheVariants as value
use Rattle.dl_table.specs.TableData.{TableData}
use Rattle.dl_table.specs.Held.{value_held}
use Rattle.dl_table.specs.Value.{Value, block, value_spelt}
use Rattle.dl_field.specs.Layout.{Layout, value_is, following, field_spelt, value_judged}
use Rattle.dl_field.specs.Cells.{begun_cells}
use Rattle.dl_field.specs.TablePlace.{IsLengthOf, Holds, Summed, values_left, InValue, InBlock, TableAt}
use Rattle.dl_field.specs.TableMoves.{TableMade}
use Rattle.dl_field.specs.TableMoves.{BeginsBlock, GoesOn}
use Rattle.dl_field.specs.TableStep.{value_filled}
use Rattle.dl_field.proofs.BlockLemmas.{part_block, whole_block, one_more}
use Rattle.dl_field.proofs.ByteCells.{block_layout, length_field}
use Rattle.dl_field.proofs.ValueLemmas.{after_value, holds_more, summed-push, holds_grown, entered}
use Rattle.dl_field.proofs.ValueFields.{value_field}

-- ---- the length of a block is whole

pub block_made : (order : Order) (old new : TableReader) (at : Cursor) (v : ValuePhase) (size : ℕ) (format : Format)
    (next : TableData → Layout) (layout : Layout) (rest w : List ℕ) (result : FieldStep)
    → (is : InValue old at v format next layout rest) → value_filled v (length old.pool.items) ≡ length old.pool.items
    → begun_cells is.pair.form rest ≡ 0 → IsLengthOf order is.pair.form size w
    → BeginsBlock old at size format result new → TableMade order old format next layout w result new
block_made order old new at v size format next layout rest w byte_makes.Within is clear none len b =
    let goes_on : value_spelt order format is.pair.form w ≡ None =
    ap (λ (l : List ℕ). value_spelt order format is.pair.form l) (sym (append-nil w))
    ∙ part_block order format is.pair.form size w [] len (omega (arith, b.0)) in (
      value_field order old at v format next layout rest w is
          ∙ ap value_judged goes_on,
      b.1 order next layout v rest w is clear len,
    )
block_made order old new at v size format next layout rest w byte_makes.Ends is clear none len b =
    let empty : IsLengthOf order is.pair.form 0 w = subst (λ (n : ℕ). IsLengthOf order is.pair.form n w) b.0 len in
    let whole = ap (λ (l : List ℕ). value_spelt order format is.pair.form l) (sym (append-nil w))
    ∙ whole_block order format is.pair.form w [] empty in (
      value_is (block []),
      value_field order old at v format next layout rest w is
          ∙ ap value_judged whole,
      b.1 order next layout v rest is clear,
    )
block_made order old new at v size format next layout rest w byte_makes.NoMemory is clear none len b =
    (b, omega (arith, length_field order old at v size format next layout rest w is len none))
block_made order old new at v size format next layout rest w (byte_makes.Refuses kind) is clear none len b = absurd b

-- ---- `begin_block`

pub empty_block : (order : Order) (old : TableReader) (values : List StoredValue) (new : TableReader) (at : Cursor)
    (start len : ℕ) (format : Format) (next : TableData → Layout) (layout : Layout) (v : ValuePhase) (rest : List ℕ)
    → InValue old at v format next layout rest → value_filled v (length old.pool.items) ≡ length old.pool.items
    → start ≡ length old.pool.items → len ≡ 0 → GoesOn old.pairs.items old.pool.items values (at.column + 1) at.left
    format new
    → values ≡ old.values.items ++ held.Block (record { start = start; len = len }) ∷ []
    → TableAt order new new.phase format next (following layout (value_is (block []))) []
empty_block order old values new at start len format next layout v rest is clear begins none goes same =
    let at_end = entered order old values new at (held.Block (record { start = start; len = len })) format next layout v
    rest is (omega (arith, begins, none)) (omega (arith, clear, none)) goes same in
    let taken : take len (drop start old.pool.items) ≡ [] = ap (λ (n : ℕ). take n (drop start old.pool.items)) none in
    subst (λ (bytes : List ℕ). TableAt order new new.phase format next (following layout (value_is (block bytes))) [])
    taken at_end

pub begun_block : (order : Order) (old new : TableReader) (at : Cursor) (v : ValuePhase) (start len size : ℕ)
    (format : Format) (next : TableData → Layout) (layout : Layout) (rest w : List ℕ)
    → (is : InValue old at v format next layout rest) → value_filled v (length old.pool.items) ≡ length old.pool.items
    → IsLengthOf order is.pair.form size w → 1 ≤ size → start ≡ length old.pool.items → len ≡ size
    → new.phase ≡ phase.Value at (value.Block size)
    → new.pairs.items ≡ old.pairs.items → new.pool.items ≡ old.pool.items
    → new.values.items ≡ old.values.items ++ held.Block (record { start = start; len = len }) ∷ []
    → TableAt order new new.phase format next layout w
begun_block order old new at v start len size format next layout rest w is clear spelt some begins all phase_is pairs
    pool values =
    let now : InBlock order new at size format next layout w = record {
      entries = is.entries;
      before = is.before;
      column = is.column;
      pair = is.pair;
      later = is.later;
      at_pair = ap (λ (ps : List Pair). drop (length is.before) ps) pairs ∙ is.at_pair;
      earlier = old.values.items;
      pool = old.pool.items;
      size = w;
      bytes = [];
      values_are =
          values ∙ ap (λ (n : ℕ). old.values.items ++ held.Block (record { start = n; len = len }) ∷ []) begins
          ∙ ap (λ (n : ℕ). old.values.items ++ held.Block (record { start = length old.pool.items; len = n }) ∷ [])
          (let n : len ≡ 0 + size = omega (arith, all) in n);
      pool_is = pool ∙ sym (append-nil old.pool.items);
      holds = subst (λ (ps : List Pair). Holds ps old.pool.items old.values.items is.entries is.before) (sym pairs)
          is.holds;
      summed = is.summed ∙ ap (λ (n : ℕ). length old.values.items + n) clear;
      layout_is = is.layout_is ∙ ap (λ (ps : List Pair). values_left format next ps is.entries is.before at.left)
          (sym pairs);
      rest_is = sym (append-nil w);
      length_is = subst (λ (n : ℕ). IsLengthOf order is.pair.form n w) (let n : size ≡ 0 + size = omega arith in n)
          spelt;
      some = some;
    } in
    subst (λ (p : TablePhase). TableAt order new p format next layout w) (sym phase_is) now

-- ---- a byte of a block

spelt_block : (order : Order) (t : TableReader) (at : Cursor) (left : ℕ) (format : Format) (next : TableData → Layout)
    (layout : Layout) (rest w : List ℕ) (is : InBlock order t at left format next layout rest)
    → field_spelt order layout w ≡ value_judged (value_spelt order format is.pair.form w)
spelt_block order t at left format next layout rest w is =
    ap (λ (l : Layout). field_spelt order l w) (block_layout order t at left format next layout rest is).1

pub block_within : (order : Order) (old new : TableReader) (at : Cursor) (left less byte : ℕ) (format : Format)
    (next : TableData → Layout) (layout : Layout) (rest : List ℕ)
    → InBlock order old at left format next layout rest → 2 ≤ left → less ≡ left - 1
    → new.phase ≡ phase.Value at (value.Block less) → new.pairs.items ≡ old.pairs.items
    → new.values.items ≡ old.values.items
    → new.pool.items ≡ old.pool.items ++ byte ∷ []
    → (field_spelt order layout (rest ++ byte ∷ []) ≡ None)
    × TableAt order new new.phase format next layout (rest ++ byte ∷ [])
block_within order old new at left less byte format next layout rest is some fewer phase_is pairs values pool =
    let bytes = is.bytes ++ byte ∷ [] in
    let size : length bytes ≡ length is.bytes + 1 = length-append is.bytes (byte ∷ []) in
    let whole = one_more rest is.size is.bytes byte is.rest_is in
    let total : length is.bytes + left ≡ length bytes + less = omega (arith, size, fewer, some) in
    let none = ap (λ (l : List ℕ). value_spelt order format is.pair.form l) whole
    ∙ part_block order format is.pair.form (length is.bytes + left) is.size bytes is.length_is
    (omega (arith, size, some)) in
    let now : InBlock order new at less format next layout (rest ++ byte ∷ []) = record {
      entries = is.entries;
      before = is.before;
      column = is.column;
      pair = is.pair;
      later = is.later;
      at_pair = ap (λ (ps : List Pair). drop (length is.before) ps) pairs ∙ is.at_pair;
      earlier = is.earlier;
      pool = is.pool;
      size = is.size;
      bytes = bytes;
      values_are = values ∙ is.values_are ∙ ap
          (λ (n : ℕ). is.earlier ++ held.Block (record { start = length is.pool; len = n }) ∷ []) total;
      pool_is = pool ∙ one_more old.pool.items is.pool is.bytes byte is.pool_is;
      holds = subst (λ (ps : List Pair). Holds ps is.pool is.earlier is.entries is.before) (sym pairs) is.holds;
      summed = is.summed;
      layout_is = is.layout_is ∙ ap (λ (ps : List Pair). values_left format next ps is.entries is.before at.left)
          (sym pairs);
      rest_is = whole;
      length_is = subst (λ (n : ℕ). IsLengthOf order is.pair.form n is.size) total is.length_is;
      some = omega (arith, fewer, some);
    } in (
      spelt_block order old at left format next layout rest (rest ++ byte ∷ []) is
          ∙ ap value_judged none,
      subst (λ (p : TablePhase). TableAt order new p format next layout (rest ++ byte ∷ []))
          (sym phase_is) now,
    )

pub block_ends : (order : Order) (old new : TableReader) (pool : List ℕ) (at : Cursor) (left byte : ℕ) (format : Format)
    (next : TableData → Layout) (layout : Layout) (rest : List ℕ)
    → InBlock order old at left format next layout rest → left ≤ 1
    → GoesOn old.pairs.items pool old.values.items (at.column + 1) at.left format new
    → pool ≡ old.pool.items ++ byte ∷ []
    → TableMade order old format next layout (rest ++ byte ∷ []) byte_makes.Ends new
block_ends order old new pool at left byte format next layout rest is last goes grown =
    let bytes = is.bytes ++ byte ∷ [] in
    let size : length bytes ≡ length is.bytes + 1 = length-append is.bytes (byte ∷ []) in
    let total : length is.bytes + left ≡ length bytes = omega (arith, size, last, is.some) in
    let h : StoredValue = held.Block (record { start = length is.pool; len = length is.bytes + left }) in
    let pool_is : pool ≡ is.pool ++ bytes = grown ∙ one_more old.pool.items is.pool is.bytes byte is.pool_is in
    let dropped : drop (length is.pool) pool ≡ bytes = ap (λ (l : List ℕ). drop (length is.pool) l) pool_is
    ∙ drop-append_seam is.pool bytes in
    let held_is : value_held pool h ≡ block bytes =
    ap (λ (l : List ℕ). block (take (length is.bytes + left) l)) dropped
    ∙ ap (λ (l : List ℕ). block l) (take_all (length is.bytes + left) bytes (omega (arith, total))) in
    let more : Holds old.pairs.items pool is.earlier is.entries is.before =
    subst (λ (l : List ℕ). Holds old.pairs.items l is.earlier is.entries is.before) (sym pool_is)
    (holds_grown old.pairs.items is.pool bytes is.earlier is.entries is.before is.holds) in
    let within : length is.pool + (length is.bytes + left) ≤ length pool =
    omega (arith, total, ap length pool_is, length-append is.pool bytes) in
    let held_more = holds_more old.pairs.items pool is.earlier is.entries is.before h more within in
    let holds : Holds old.pairs.items pool old.values.items is.entries (is.before ++ block bytes ∷ []) =
    subst (λ (u : Value). Holds old.pairs.items pool old.values.items is.entries (is.before ++ u ∷ [])) held_is
    (subst (λ (hs : List StoredValue). Holds old.pairs.items pool hs is.entries (is.before ++ value_held pool h ∷ []))
    (sym is.values_are) held_more) in
    let whole = ap (λ (l : List ℕ). value_spelt order format is.pair.form l)
    (one_more rest is.size is.bytes byte is.rest_is)
    ∙ whole_block order format is.pair.form is.size bytes
    (subst (λ (n : ℕ). IsLengthOf order is.pair.form n is.size) total is.length_is) in (
      value_is (block bytes),
      spelt_block order old at left format next layout rest (rest ++ byte ∷ []) is ∙ ap value_judged whole,
      goes order next (following layout (value_is (block bytes))) is.entries (is.before ++ block bytes ∷ []) holds
          (subst (λ (hs : List StoredValue). Summed hs (length pool)) (sym is.values_are)
          (summed-push is.earlier h (length is.pool) (length pool) is.summed
          (omega (arith, total, ap length pool_is, length-append is.pool bytes))))
          (omega (arith, length-append is.before (block bytes ∷ []), is.column))
          (ap (λ (l : Layout). following l (value_is (block bytes))) is.layout_is
          ∙ after_value format next old.pairs.items is.entries is.before at.left is.pair is.later (block bytes)
          is.at_pair),
    )
