-- A path or a number of a table of versions 2 to 4 whose bytes come at once.
use Rattle.std.proofs.Common.{◌≡◌, ℕ, ◌+◌, ◌-◌, ◌<◌, ◌≤◌, ◌==◌, List, [], ◌∷◌, ◌++◌, length, take, drop, Some, refl}
use Rattle.std.proofs.Common.{option_map, sym, ap, subst, ◌∙◌, arith, append_assoc, length-append}
use Rattle.std.specs.List.{position}
use Rattle.std.proofs.lemmas.List.{drop-append-le, length-drop, length-take-le, take_rest}
use Rattle.dl_num.specs.declared.fixed.Order.{Order}
use Rattle.dl_num.specs.declared.leb.Uleb.{Uleb}
use Rattle.dl_num.specs.Leb.{IsUleb}
use Rattle.dl_table.specs.declared.form.Format.{Format}
use Rattle.dl_table.specs.declared.table.held.StoredValue.{StoredValue}
use Rattle.dl_table.specs.declared.table.held.StoredValue.TheVariants as held
use Rattle.dl_table.specs.Held.{value_held, held_end, cells_held}
use Rattle.dl_table.specs.TableData.{TableData}
use Rattle.dl_table.specs.Value.{Value, number, good}
use Rattle.dl_table.proofs.TextLemmas.{text_in-position}
use Rattle.dl_field.specs.declared.field_step.FieldStep.TheVariants as byte_makes
use Rattle.dl_field.specs.declared.list_reader.ListPhase.TheVariants as phase
use Rattle.dl_field.specs.declared.list_reader.ListReader.{ListReader}
use Rattle.dl_field.specs.Cells.{rest_cells}
use Rattle.dl_field.specs.Field.{HasNoZero}
use Rattle.dl_field.specs.Layout.{Layout, following, field_spelt, path_judged, value_judged, value_is}
use Rattle.dl_field.specs.ListPlace.{InPath, InNumber, ListAt, ListMade, EntersList, GoesOnList, OneListCell, TakesListed}
use Rattle.dl_field.specs.ListPlace.{list_cells}
use Rattle.dl_field.specs.ListStep.{listed}
use Rattle.dl_field.specs.TableMoves.{LebInFront}
use Rattle.dl_field.specs.TablePlace.{Holds}
use Rattle.dl_field.proofs.FieldCells.{cells_good}
use Rattle.dl_field.proofs.ListLemmas.{list_at, number_made, number_adds, path_field, path_text}
use Rattle.dl_field.proofs.ValueFields.{leb_held, text_held}
use Rattle.dl_field.proofs.ValueLemmas.{holds_more, holds_grown, summed-push}
use Rattle.dl_field.proofs.WholeValues.{some_byte, zero_front, no_zero_join}

-- `whole_number`
pub number_taken : (old new : ListReader) (left more n : ℕ) (u : Uleb) (h : StoredValue) (bytes tail : List ℕ)
    → old.phase ≡ phase.Number left u → LebInFront u bytes n tail → value_held old.pool.items h ≡ number n
    → cells_held h ≡ 1 → held_end h ≡ 0 → more ≡ left - 1 → EntersList old h more byte_makes.Ends new
    → OneListCell old byte_makes.Ends new → (new.phase ≡ phase.Whole → ⊥) → TakesListed old bytes tail new
number_taken old new left more n u h bytes tail is s value cell end fewer enters one going = record {
  front = s.front;
  bytes_are = s.bytes_are;
  some = some_byte s.front n s.spelt.0;
  takes = record {
    made = λ live order format next layout rest at. made order format next layout rest at;
    cells = λ live order format next layout rest at.
        number_adds order old new left u format next layout rest (rest ++ s.front) byte_makes.Ends
        (in_old format next layout rest at) (made order format next layout rest at) one;
  };
  going = going;
} where
  in_old : (format : Format) (next : TableData → Layout) (layout : Layout) (rest : List ℕ)
      → ListAt old old.phase format next layout rest → InNumber old left u format next layout rest
  in_old format next layout rest at = list_at old (phase.Number left u) format next layout rest is at

  made : (order : Order) (format : Format) (next : TableData → Layout) (layout : Layout) (rest : List ℕ)
      → ListAt old old.phase format next layout rest
      → ListMade order old format next layout (rest ++ s.front) byte_makes.Ends new
  made order format next layout rest at =
      let a = in_old format next layout rest at in
      let whole : IsUleb (rest ++ s.front) n = subst (λ (l : List ℕ). IsUleb (l ++ s.front) n) (sym (s.none rest a.took))
      s.spelt.0 in
      number_made order old new left more u h format next layout rest (rest ++ s.front) byte_makes.Ends a
      (leb_held (rest ++ s.front) n _ whole s.spelt.1 value) cell end fewer enters

-- `whole_path`: the pool has the bytes of the path, and its value is entered
pub path_taken : (old new : ListReader) (start len left : ℕ) (bytes pool : List ℕ) → old.phase ≡ phase.Path start
    → start ≡ length old.pool.items → 1 ≤ len → len < length bytes → position (λ b. b == 0) bytes ≡ Some len
    → left + 1 ≡ length (listed old.kind) → pool ≡ old.pool.items ++ take len bytes
    → GoesOnList old.kind pool (old.values.items ++ held.Text (record { start = start; len = len }) ∷ []) left new
    → list_cells new ≡ length old.pairs.items + length old.values.items + length pool + 1
    → (new.phase ≡ phase.Whole → ⊥) → TakesListed old bytes (take (length bytes - (len + 1)) (drop (len + 1) bytes)) new
path_taken old new start len left bytes pool is begun some lt found place pool_is goes one going =
    record {
      front = front;
      bytes_are = split.1 ∙ ap (λ (l : List ℕ). front ++ l)
          (ap (λ (n : ℕ). drop (n + 1) bytes) size ∙ sym (take_rest bytes (len + 1)));
      some = omega (arith, length-append text (0 ∷ []));
      takes = record {
        made = λ live order format next layout rest at.
            let a = in_old format next layout rest at in (
              value_is u,
              spelt order format next layout rest a,
              goes format next (following layout (value_is u)) a.entries (u ∷ [])
                  (holds_more (listed old.kind) pool old.values.items a.entries [] h
                  (subst (λ (w : List ℕ). Holds (listed old.kind) w old.values.items a.entries []) (sym pool_is)
                  (holds_grown (listed old.kind) old.pool.items text old.values.items a.entries [] a.holds))
                  (omega (arith, long)))
                  (summed-push old.values.items h start (length pool) a.summed (omega (arith, long))) (omega arith)
                  (omega (arith, place)) (ap (λ (l : Layout). following l (value_is u)) a.layout_is),
            );
        cells = λ live order format next layout rest at.
            let a = in_old format next layout rest at in
            omega (
              arith,
              cells_good order layout (rest ++ front) (value_is u) (spelt order format next layout rest a),
              ap (λ (l : Layout). rest_cells l rest) a.layout_is,
              ap length a.rest_is,
              length-drop start old.pool.items,
              length-drop start pool,
              length-take-le len (drop start pool) (omega (arith, length-drop start pool, long)),
              long,
              begun,
              one,
            );
      };
      going = going;
    } where
      text : List ℕ
      text = take len bytes

      front : List ℕ
      front = text ++ 0 ∷ []

      h : StoredValue
      h = held.Text (record { start = start; len = len })

      u : Value
      u = value_held pool h

      size : length text ≡ len
      size = length-take-le len bytes (omega (arith, lt))

      split : HasNoZero text × (bytes ≡ front ++ drop (length text + 1) bytes)
      split = zero_front bytes text (text_in-position bytes ∙ ap (option_map (λ n. take n bytes)) found)

      long : length pool ≡ start + len
      long = omega (arith, ap length pool_is, length-append old.pool.items text, size, begun)

      in_old : (format : Format) (next : TableData → Layout) (layout : Layout) (rest : List ℕ)
          → ListAt old old.phase format next layout rest → InPath old start format next layout rest
      in_old format next layout rest at = list_at old (phase.Path start) format next layout rest is at

      spelt : (order : Order) (format : Format) (next : TableData → Layout) (layout : Layout) (rest : List ℕ)
          → InPath old start format next layout rest → field_spelt order layout (rest ++ front) ≡ good (value_is u)
      spelt order format next layout rest a =
          path_field order old start format next layout rest (rest ++ front) a
          ∙ ap (λ (w : List ℕ). path_judged (length (listed old.kind)) w) (sym (append_assoc rest text (0 ∷ [])))
          ∙ path_text (length (listed old.kind)) ((rest ++ text) ++ 0 ∷ [])
          (omega (arith, length-append (rest ++ text) (0 ∷ []), length-append rest text, size, some))
          ∙ ap value_judged (text_held (rest ++ text) 0 pool start len (no_zero_join rest text a.no_zero split.0) refl
          (ap (λ (w : List ℕ). drop start w) pool_is ∙ drop-append-le start old.pool.items text a.start_is
          ∙ ap (λ (w : List ℕ). w ++ text) a.rest_is) (omega (arith, long)))
