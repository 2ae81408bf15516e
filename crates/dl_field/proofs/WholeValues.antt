-- A value of a table whose bytes come at once.
use Rattle.std.proofs.Common.{Bor, ◌≡◌, ◌≢◌, inl, inr, ℕ, suc, ◌+◌, ◌-◌, ◌<◌, ◌≤◌, ◌==◌, List, [], ◌∷◌, ◌++◌}
use Rattle.std.proofs.Common.{length}
use Rattle.std.proofs.Common.{take, drop, Option, Some, None, option_map, refl, sym, ap, subst, ◌∙◌, arith}
use Rattle.std.proofs.Common.{append_assoc, length-append}
use Rattle.std.specs.List.{position}
use Rattle.std.proofs.lemmas.Bool.{cases_eq, eq-eqb, ne_eqb}
use Rattle.std.proofs.lemmas.List.{take-append-drop, take_rest, length-take-le}
use Rattle.std.specs.Option.{MatchOption}
use Rattle.dl_num.proofs.LebFrontLemmas.{answer-map}
use Rattle.dl_num.specs.declared.fixed.Order.{Order}
use Rattle.dl_num.specs.declared.leb.Uleb.{Uleb}
use Rattle.dl_num.specs.Leb.{IsUleb}
use Rattle.dl_num.specs.OperandBytes.{operand_bytes}
use Rattle.dl_table.specs.declared.form.Format.{Format}
use Rattle.dl_table.specs.declared.table.held.StoredValue.{StoredValue}
use Rattle.dl_table.specs.declared.table.held.StoredValue.TheVariants as held
use Rattle.dl_field.specs.declared.field_step.FieldStep.TheVariants as byte_makes
use Rattle.dl_field.specs.declared.sixteen.Sixteen.{Sixteen}
use Rattle.dl_field.specs.declared.table_reader.TableReader.{TableReader}
use Rattle.dl_field.specs.declared.table_reader.TablePhase.TheVariants as phase
use Rattle.dl_field.specs.declared.value_phase.Cursor.{Cursor}
use Rattle.dl_field.specs.declared.value_phase.ValuePhase.{ValuePhase}
use Rattle.dl_field.specs.declared.value_phase.ValuePhase.TheVariants as value
use Rattle.dl_table.specs.TableData.{TableData}
use Rattle.dl_field.specs.Field.{HasNoZero}
use Rattle.dl_table.specs.Text.{text_in}
use Rattle.dl_field.specs.TableStep.{value_due}
use Rattle.dl_field.specs.Layout.{Layout}
use Rattle.dl_field.specs.TablePlace.{InValue, TableAt}
use Rattle.dl_field.specs.TableMoves.{OneCell, TableMade, Enters, EntersAt, InFront, LebInFront}
use Rattle.dl_field.specs.TableMoves.{SameTable, TakesFront, has_bytes}
use Rattle.dl_field.proofs.FieldLemmas.{none_some}
use Rattle.dl_table.proofs.TextLemmas.{text_in-position}
use Rattle.dl_field.proofs.PairLemmas.{table_at}
use Rattle.dl_field.proofs.ValueLemmas.{text_grown}
use Rattle.dl_field.proofs.ValueFields.{value_made, leb_form, leb_held, sixteen_spelt, text_form, text_held}
use Rattle.dl_field.proofs.ByteCells.{adds_value, text_field}

-- ---- the value at the front of bytes

-- a number in LEB128 has a byte
pub some_byte : (w : List ℕ) (n : ℕ) → IsUleb w n → 1 ≤ length w
some_byte w n is = omega (arith, ap length is.2.bytes, length-append is.0 (is.1 ∷ []))

-- a number in LEB128
pub leb_in_front : (order : Order) (u : Uleb) (bytes tail : List ℕ) (n : ℕ) → LebInFront u bytes n tail
    → InFront order (value.Leb u) bytes (held.Number n) tail
leb_in_front order u bytes tail n s = record {
  front = s.front;
  bytes_are = s.bytes_are;
  some = some_byte s.front n s.spelt.0;
  spelt = λ format f pool rest at.
      let none = s.none rest at.1 in
      let whole : IsUleb (rest ++ s.front) n = subst (λ (l : List ℕ). IsUleb (l ++ s.front) n) (sym none) s.spelt.0 in
      leb_form order format f (rest ++ s.front) _ at.0 (leb_held (rest ++ s.front) n _ whole s.spelt.1 refl);
  one = λ format f pool rest at. ap has_bytes at.0;
  filled = λ m. refl;
  none_due = refl;
  cell = refl;
  within = refl;
}

-- sixteen bytes
pub sixteen_in_front : (order : Order) (s : Sixteen) (bytes sixteen tail : List ℕ) → operand_bytes s.operand ≡ []
    → sixteen ≡ take 16 bytes → tail ≡ drop 16 bytes → 16 ≤ length bytes
    → InFront order (value.Data16 s) bytes (held.Data16 sixteen) tail
sixteen_in_front order s bytes sixteen tail new first later long = record {
  front = sixteen;
  bytes_are = sym (take-append-drop 16 bytes) ∙ ap (λ (l : List ℕ). l ++ drop 16 bytes) (sym first)
      ∙ ap (λ (l : List ℕ). sixteen ++ l) (sym later);
  some = omega (arith, ap length first, length-take-le 16 bytes long);
  spelt = λ format f pool rest at.
      let none : rest ≡ [] = sym at.1 ∙ new in
      sixteen_spelt order format f (rest ++ sixteen) sixteen pool at.0 (ap (λ (l : List ℕ). l ++ sixteen) (sym none))
      (ap length first ∙ length-take-le 16 bytes long);
  one = λ format f pool rest at. ap has_bytes at.0;
  filled = λ m. refl;
  none_due = refl;
  cell = refl;
  within = refl;
}

-- ---- the value is entered

-- the reader isn't in a block
pub in_value : (order : Order) (t : TableReader) (at : Cursor) (v : ValuePhase) (format : Format)
    (next : TableData → Layout) (layout : Layout) (rest : List ℕ) → value_due v ≡ 0
    → TableAt order t (phase.Value at v) format next layout rest → InValue t at v format next layout rest
in_value order t at (value.Block left) format next layout rest none is = absurd (omega (arith, none, is.some))
in_value order t at (value.Number f n) format next layout rest none is = is
in_value order t at (value.Leb u) format next layout rest none is = is
in_value order t at (value.Text start) format next layout rest none is = is
in_value order t at (value.Data16 s) format next layout rest none is = is
in_value order t at (value.BlockLength n) format next layout rest none is = is
in_value order t at (value.LebBlockLength u) format next layout rest none is = is

-- a value that is no text is taken
pub value_taken : (order : Order) (old new : TableReader) (at : Cursor) (v : ValuePhase) (h : StoredValue)
    (format : Format) (bytes tail : List ℕ) → old.phase ≡ phase.Value at v
    → InFront order v bytes h tail → Enters old at h format byte_makes.Ends new → OneCell old byte_makes.Ends new
    → TakesFront order format old bytes tail new
value_taken order old new at v h format bytes tail is s enters one = record {
  front = s.front;
  bytes_are = s.bytes_are;
  some = s.some;
  follows = record {
    made = λ g next layout rest t. made next layout rest (in_old next layout rest t);
    cells = λ g next layout rest t.
        let a = in_old next layout rest t in
        adds_value order old new at v format next layout rest (rest ++ s.front) byte_makes.Ends a
        (s.one format a.pair.form old.pool.items rest a.value) (made next layout rest a) one;
  };
} where
  in_old : (next : TableData → Layout) (layout : Layout) (rest : List ℕ)
      → TableAt order old old.phase format next layout rest → InValue old at v format next layout rest
  in_old next layout rest t = in_value order old at v format next layout rest s.none_due
      (table_at order old (phase.Value at v) format next layout rest is t)

  made : (next : TableData → Layout) (layout : Layout) (rest : List ℕ) → InValue old at v format next layout rest
      → TableMade order old format next layout (rest ++ s.front) byte_makes.Ends new
  made next layout rest a =
      value_made order old new at v h format next layout rest (rest ++ s.front) byte_makes.Ends a
      (s.spelt format a.pair.form old.pool.items rest a.value)
      (omega (arith, s.filled (length old.pool.items), s.cell)) enters

-- `enter_front`
pub front_entered : (order : Order) (old new : TableReader) (at : Cursor) (v : ValuePhase) (h : StoredValue)
    (format : Format) (bytes tail : List ℕ) (o : Option (Bor (List ℕ))) → old.phase ≡ phase.Value at v
    → InFront order v bytes h tail
    → MatchOption o (SameTable old new) (λ rest. (rest.now ≡ tail) × EntersAt old at h format new)
    → MatchOption o (SameTable old new) (λ rest. TakesFront order format old bytes rest.now new)
front_entered order old new at v h format bytes tail o is front = answer-map o (λ same. same) λ rest made.
    subst (λ (l : List ℕ). TakesFront order format old bytes l new) (sym made.0)
    (value_taken order old new at v h format bytes tail is front made.1.0 made.1.1)

-- ---- texts

-- the bytes up to the first zero byte, and that byte
pub zero_front : (w t : List ℕ) → text_in w ≡ Some t → HasNoZero t × (w ≡ (t ++ 0 ∷ []) ++ drop (length t + 1) w)
zero_front [] t e = absurd (none_some {a = t} refl e)
zero_front (b ∷ w) t e = elim (cases_eq b 0) [
  | inl zero ↦ at_zero zero (rw (eq-eqb b 0 zero) at e)
  | inr other ↦
      tail other (text_in w) refl (λ u is. zero_front w u is) (rw (ne_eqb b 0 other) at e)
] where
  at_zero : b ≡ 0 → Some [] ≡ Some t → HasNoZero t × (b ∷ w ≡ (t ++ 0 ∷ []) ++ drop (length t + 1) (b ∷ w))
  at_zero zero f =
      let none : [] ≡ t = cc in
      subst (λ (l : List ℕ). HasNoZero l × (b ∷ w ≡ (l ++ 0 ∷ []) ++ drop (length l + 1) (b ∷ w))) none
      (tt, ap (λ (n : ℕ). n ∷ w) zero)

  tail : b ≢ 0 → (o : Option (List ℕ)) → text_in w ≡ o
      → ((u : List ℕ) → text_in w ≡ Some u → HasNoZero u × (w ≡ (u ++ 0 ∷ []) ++ drop (length u + 1) w))
      → option_map (λ text. b ∷ text) o ≡ Some t → HasNoZero t × (b ∷ w ≡ (t ++ 0 ∷ []) ++ drop (length t + 1) (b ∷ w))
  tail other None is later_of f = absurd (none_some {a = t} refl f)
  tail other (Some u) is later_of f =
      let more : b ∷ u ≡ t = cc in
      let later = later_of u is in
      subst (λ (l : List ℕ). HasNoZero l × (b ∷ w ≡ (l ++ 0 ∷ []) ++ drop (length l + 1) (b ∷ w))) more (
        (other, later.0),
        ap (λ (l : List ℕ). b ∷ l) later.1
            ∙ ap (λ (k : ℕ). ((b ∷ u) ++ 0 ∷ []) ++ drop k (b ∷ w))
            (let e : suc (length u + 1) ≡ suc (length u) + 1 = omega arith in e),
      )

pub no_zero_join : (v w : List ℕ) → HasNoZero v → HasNoZero w → HasNoZero (v ++ w)
no_zero_join [] w front back = back
no_zero_join (b ∷ v) w front back = (front.0, no_zero_join v w front.1 back)

-- `whole_text`
pub text_taken : (order : Order) (old mid new : TableReader) (at : Cursor) (start len : ℕ) (format : Format)
    (bytes : List ℕ) → old.phase ≡ phase.Value at (value.Text start) → mid.phase ≡ old.phase
    → mid.pairs.items ≡ old.pairs.items → mid.values.items ≡ old.values.items
    → mid.pool.items ≡ old.pool.items ++ take len bytes → start ≡ length old.pool.items → len < length bytes
    → position (λ b. b == 0) bytes ≡ Some len → Enters mid at (held.Text (record { start = start; len = len })) format
    byte_makes.Ends new → OneCell mid byte_makes.Ends new
    → TakesFront order format old bytes (take (length bytes - (len + 1)) (drop (len + 1) bytes)) new
text_taken order old mid new at start len format bytes is same pairs values pool begun lt found enters one =
    record {
      front = front;
      bytes_are = split.1 ∙ ap (λ (l : List ℕ). front ++ l)
          (ap (λ (n : ℕ). drop (n + 1) bytes) size ∙ sym (take_rest bytes (len + 1)));
      some = omega (arith, length-append text (0 ∷ []));
      follows = record {
        made = λ g next layout rest t. made next layout rest (in_old next layout rest t);
        cells = λ g next layout rest t.
            let a = in_old next layout rest t in
            omega (
              arith,
              text_field order old at (value.Text start) format next layout rest front a a.value.0,
              one,
              ap length pairs,
              ap length values,
              ap length pool,
              length-append old.pool.items text,
              length-append text (0 ∷ []),
            );
      };
    } where
      text : List ℕ
      text = take len bytes

      front : List ℕ
      front = text ++ 0 ∷ []

      size : length text ≡ len
      size = length-take-le len bytes (omega (arith, lt))

      split : HasNoZero text × (bytes ≡ front ++ drop (length text + 1) bytes)
      split = zero_front bytes text (text_in-position bytes ∙ ap (option_map (λ n. take n bytes)) found)

      in_old : (next : TableData → Layout) (layout : Layout) (rest : List ℕ)
          → TableAt order old old.phase format next layout rest
          → InValue old at (value.Text start) format next layout rest
      in_old next layout rest t = table_at order old (phase.Value at (value.Text start)) format next layout rest is t

      made : (next : TableData → Layout) (layout : Layout) (rest : List ℕ)
          → InValue old at (value.Text start) format next layout rest
          → TableMade order old format next layout (rest ++ front) byte_makes.Ends new
      made next layout rest a =
          let none = no_zero_join rest text a.value.3 split.0 in
          let grown = text_grown order old mid at start text format next layout rest a (same ∙ is) pairs values pool
          none in
          let b : InValue mid at (value.Text start) format next layout (rest ++ text) =
          table_at order mid (phase.Value at (value.Text start)) format next layout (rest ++ text) (same ∙ is) grown in
          let long : length mid.pool.items ≡ start + len =
          omega (arith, ap length pool, length-append old.pool.items text, size, begun) in
          let w = (rest ++ text) ++ 0 ∷ [] in
          subst (λ (l : List ℕ). TableMade order old format next layout l byte_makes.Ends new)
          (append_assoc rest text (0 ∷ []))
          (value_made order mid new at (value.Text start) (held.Text (record { start = start; len = len })) format next
          layout (rest ++ text) w byte_makes.Ends b
          (text_form order format b.pair.form w _ b.value.0
          (text_held (rest ++ text) 0 mid.pool.items start len none refl b.value.2 (omega (arith, long))))
          (omega (arith, long)) enters)
