-- A block of a table whose bytes come at once.
use Rattle.std.proofs.Common.{Bor, ◌≡◌, ℕ, ◌+◌, List, [], ◌∷◌, ◌++◌, length, take, drop, Option, sym, ap}
use Rattle.std.proofs.Common.{subst, ◌∙◌, arith, append_assoc, length-append}
use Rattle.std.proofs.lemmas.List.{take_all}
use Rattle.std.proofs.Math.Seq.{drop-append_seam}
use Rattle.std.specs.Option.{MatchOption}
use Rattle.dl_num.proofs.LebFrontLemmas.{answer-map}
use Rattle.dl_num.specs.declared.fixed.Order.{Order}
use Rattle.dl_table.specs.declared.form.Format.{Format}
use Rattle.dl_table.specs.declared.table.held.StoredValue.{StoredValue}
use Rattle.dl_table.specs.declared.table.held.StoredValue.TheVariants as held
use Rattle.dl_field.specs.declared.field_step.FieldStep.TheVariants as byte_makes
use Rattle.dl_field.specs.declared.table_reader.TableReader.{TableReader}
use Rattle.dl_field.specs.declared.table_reader.TablePhase.TheVariants as phase
use Rattle.dl_field.specs.declared.value_phase.Cursor.{Cursor}
use Rattle.dl_field.specs.declared.value_phase.ValuePhase.{ValuePhase}
use Rattle.dl_field.specs.declared.value_phase.ValuePhase.TheVariants as value
use Rattle.dl_table.specs.TableData.{TableData}
use Rattle.dl_table.specs.Held.{value_held}
use Rattle.dl_table.specs.Value.{Value, block, value_spelt}
use Rattle.dl_field.specs.Layout.{Layout, value_is, value_judged, following}
use Rattle.dl_field.specs.Cells.{begun_cells}
use Rattle.dl_field.specs.TableStep.{value_filled}
use Rattle.dl_field.specs.TablePlace.{IsLengthOf, Holds, Summed, InValue, TableAt, reader_cells}
use Rattle.dl_field.specs.TableMoves.{Adds, GoesOn, SameTable, TableMade, EntersBlock, LengthInFront}
use Rattle.dl_field.specs.TableMoves.{TakesFront}
use Rattle.dl_field.proofs.BlockLemmas.{whole_block}
use Rattle.dl_field.proofs.ByteCells.{bytes_field}
use Rattle.dl_field.proofs.FieldCells.{begun_with}
use Rattle.dl_field.proofs.PairLemmas.{table_at}
use Rattle.dl_field.proofs.ValueFields.{value_layout, value_field}
use Rattle.dl_field.proofs.ValueLemmas.{after_value, holds_more, holds_grown, summed-push}
use Rattle.dl_field.proofs.WholeValues.{in_value}

-- ---- the length at the front of bytes

-- ---- the block is entered

-- `whole_block`
pub block_entered : (order : Order) (old : TableReader) (values : List StoredValue) (pool : List ℕ) (new : TableReader)
    (at : Cursor) (start len : ℕ) (bytes : List ℕ) (format : Format) (next : TableData → Layout) (layout : Layout)
    (v : ValuePhase) (rest : List ℕ) → InValue old at v format next layout rest
    → value_filled v (length old.pool.items) ≡ length old.pool.items
    → start ≡ length old.pool.items → len ≡ length bytes → values ≡ old.values.items → pool ≡ old.pool.items ++ bytes
    → GoesOn old.pairs.items pool (values ++ held.Block (record { start = start; len = len }) ∷ [])
    (at.column + 1) at.left format new
    → TableAt order new new.phase format next (following layout (value_is (block bytes))) []
block_entered order old values pool new at start len bytes format next layout v rest is clear begins all same grown
    goes =
    let h : StoredValue = held.Block (record { start = start; len = len }) in
    let dropped : drop start pool ≡ bytes = ap (λ (n : ℕ). drop n pool) begins
    ∙ ap (λ (l : List ℕ). drop (length old.pool.items) l) grown ∙ drop-append_seam old.pool.items bytes in
    let held_is : value_held pool h ≡ block bytes =
    ap (λ (l : List ℕ). block (take len l)) dropped
    ∙ ap (λ (l : List ℕ). block l) (take_all len bytes (omega (arith, all))) in
    let size : length pool ≡ length old.pool.items + length bytes =
    ap length grown ∙ length-append old.pool.items bytes in
    let more : Holds old.pairs.items pool old.values.items is.entries is.before =
    subst (λ (l : List ℕ). Holds old.pairs.items l old.values.items is.entries is.before) (sym grown)
    (holds_grown old.pairs.items old.pool.items bytes old.values.items is.entries is.before is.holds) in
    let held_more = holds_more old.pairs.items pool old.values.items is.entries is.before h more
    (omega (arith, size, begins, all)) in
    let u = block bytes in
    goes order next (following layout (value_is u)) is.entries (is.before ++ u ∷ [])
    (subst (λ (x : Value). Holds old.pairs.items pool (values ++ h ∷ []) is.entries (is.before ++ x ∷ []))
    held_is
    (subst (λ (hs : List StoredValue). Holds old.pairs.items pool (hs ++ h ∷ []) is.entries
    (is.before ++ value_held pool h ∷ [])) (sym same) held_more))
    (summed-push values h _ (length pool)
    (subst (λ (hs : List StoredValue). Summed hs (value_filled v (length old.pool.items))) (sym same) is.summed)
    (omega (arith, size, clear, all)))
    (omega (arith, length-append is.before (u ∷ []), is.column))
    (ap (λ (l : Layout). following l (value_is u)) is.layout_is
    ∙ after_value format next old.pairs.items is.entries is.before at.left is.pair is.later u is.at_pair)

-- ---- the length and the block are taken

pub block_taken : (order : Order) (old new : TableReader) (at : Cursor) (v : ValuePhase) (size : ℕ) (format : Format)
    (bytes mid tail : List ℕ) → old.phase ≡ phase.Value at v → LengthInFront order v bytes size mid
    → EntersBlock old at size format mid tail new → TakesFront order format old bytes tail new
block_taken order old new at v size format bytes mid tail is s b = record {
  front = front;
  bytes_are = s.bytes_are ∙ ap (λ (l : List ℕ). s.front ++ l) b.bytes_are ∙ sym (append_assoc s.front b.front tail);
  some = omega (arith, length-append s.front b.front, s.some);
  follows = record {
    made = λ g next layout rest t. made next layout rest (in_old next layout rest t);
    cells = λ g next layout rest t. counted next layout rest (in_old next layout rest t);
  };
} where
  front : List ℕ
  front = s.front ++ b.front

  in_old : (next : TableData → Layout) (layout : Layout) (rest : List ℕ)
      → TableAt order old old.phase format next layout rest → InValue old at v format next layout rest
  in_old next layout rest t = in_value order old at v format next layout rest s.none_due
      (table_at order old (phase.Value at v) format next layout rest is t)

  spelt : (next : TableData → Layout) (layout : Layout) (rest : List ℕ) (a : InValue old at v format next layout rest)
      → IsLengthOf order a.pair.form (length b.front) (rest ++ s.front)
  spelt next layout rest a = subst (λ (n : ℕ). IsLengthOf order a.pair.form n (rest ++ s.front)) (sym b.all)
      (s.spelt format a.pair.form old.pool.items rest a.value)

  joined : (rest : List ℕ) → (rest ++ s.front) ++ b.front ≡ rest ++ front
  joined rest = append_assoc rest s.front b.front

  made : (next : TableData → Layout) (layout : Layout) (rest : List ℕ) → InValue old at v format next layout rest
      → TableMade order old format next layout (rest ++ front) byte_makes.Ends new
  made next layout rest a = (
    value_is (block b.front),
    value_field order old at v format next layout rest (rest ++ front) a
        ∙ ap value_judged (ap (λ (l : List ℕ). value_spelt order format a.pair.form l) (sym (joined rest))
        ∙ whole_block order format a.pair.form (rest ++ s.front) b.front (spelt next layout rest a)),
    b.made order next layout v rest a (s.filled (length old.pool.items)),
  )

  counted : (next : TableData → Layout) (layout : Layout) (rest : List ℕ) → InValue old at v format next layout rest
      → Adds order layout rest (rest ++ front) byte_makes.Ends (reader_cells old) (reader_cells new)
  counted next layout rest a =
      let f = a.pair.form in
      let l = value_layout old at v format next layout rest a in
      let w = begun_with order f (length b.front) (rest ++ s.front) b.front (spelt next layout rest a) in
      let more = bytes_field order format f l.0 layout rest (rest ++ front) (1 + length b.front) l.1 w.0
      (omega (arith, ap (begun_cells f) (joined rest), w.1, s.unbegun format f old.pool.items rest a.value)) in
      omega (arith, more, b.cells)

-- `value_front`, of a block
pub block_front : (order : Order) (old new : TableReader) (at : Cursor) (v : ValuePhase) (size : ℕ) (format : Format)
    (bytes mid : List ℕ) (o : Option (Bor (List ℕ))) → old.phase ≡ phase.Value at v
    → LengthInFront order v bytes size mid
    → MatchOption o (SameTable old new) (λ tail. EntersBlock old at size format mid tail.now new)
    → MatchOption o (SameTable old new) (λ tail. TakesFront order format old bytes tail.now new)
block_front order old new at v size format bytes mid o is s = answer-map o (λ same. same) λ tail made.
    block_taken order old new at v size format bytes mid tail.now is s made
