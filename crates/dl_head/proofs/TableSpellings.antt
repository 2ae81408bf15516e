-- The fields that the reader of a table has taken, and the table of version 5 that they are.
use Rattle.std.proofs.Common.{◌≡◌, ℕ, suc, ◌<◌, Bool, true, false, if◌then◌else◌, List, [], ◌∷◌, ◌++◌, refl, sym, ap}
use Rattle.std.proofs.Common.{◌⊎◌, inl, inr, ◌==◌, subst, ◌∙◌, arith, length, take, drop, get_or, append_assoc}
use Rattle.std.proofs.Common.{append-nil}
use Rattle.std.specs.List.{concat}
use Rattle.std.proofs.lemmas.List.{take-append-drop}
use Rattle.std.proofs.Props.{props}
use Rattle.std.proofs.Math.Logic.{∥∥₁_elim, ∥∥₁_prop}
use Rattle.dl_num.specs.declared.fixed.Order.{Order}
use Rattle.dl_num.specs.Laws.{AllBytes}
use Rattle.dl_table.specs.declared.form.Format.{Format}
use Rattle.std.proofs.lemmas.Bool.{cases_Bool}
use Rattle.dl_head.specs.HeadStep.{first_table}
use Rattle.dl_head.specs.declared.reader.Phase.{Phase}
use Rattle.dl_head.specs.declared.reader.Phase.TheVariants as phase
use Rattle.dl_field.specs.declared.field_step.FieldStep.{FieldStep}
use Rattle.dl_field.specs.declared.field_step.FieldStep.TheVariants as byte_makes
use Rattle.dl_field.specs.declared.table_reader.TableReader.{TableReader}
use Rattle.dl_field.specs.declared.table_reader.TablePhase.TheVariants as table
use Rattle.dl_table.specs.TableData.{TableData}
use Rattle.dl_table.specs.Value.{Value, good}
use Rattle.dl_field.specs.Layout.{Layout, Item, following_all, field_spelt, table_layout}
use Rattle.dl_head.specs.Header.{SpellsFields}
use Rattle.dl_field.specs.TablePlace.{IsFresh, TableAt}
use Rattle.dl_field.specs.FieldRuns.{EndEach}
use Rattle.dl_field.specs.TableMoves.{AmongTable, MakesTable, BytesFollow, TakesValues}
use Rattle.dl_head.specs.TableSpelt.{alone, Spelt, TableReads, TableStands}
use Rattle.dl_field.proofs.FieldLemmas.{following_all-append}
use Rattle.dl_table.specs.Held.{table_of}
use Rattle.dl_table.specs.Sound.{IsSoundTable}
use Rattle.dl_field.proofs.PairLemmas.{table_at}
use Rattle.dl_head.proofs.TableBytes.{Makes, table_begins, table_makes}
use Rattle.dl_head.proofs.ReadTables.{table_is_sound}
use Rattle.dl_head.proofs.ReadValues.{front_bytes, back_bytes}
use Rattle.dl_table.proofs.SoundLemmas.{sound_prop}
use Rattle.dl_field.proofs.TakenLemmas.{whole_held}

-- a field more
fields_push : (order : Order) (layout : Layout) (items : List Item) (fields w : List ℕ) (i : Item)
    → SpellsFields order layout items fields → field_spelt order (following_all layout items) w ≡ good i
    → SpellsFields order layout (items ++ i ∷ []) (fields ++ w)
fields_push order layout [] fields w i none is =
    (w, [], ap (λ (l : List ℕ). l ++ w) none ∙ sym (append-nil w), is, refl)
fields_push order layout (j ∷ items) fields w i s is = (
  s.0,
  s.1 ++ w,
  ap (λ (l : List ℕ). l ++ w) s.2
      ∙ append_assoc s.0 s.1 w,
  s.3,
  fields_push order _ items s.1 w i s.4 is,
)

bytes_join : (v w : List ℕ) → AllBytes v → AllBytes w → AllBytes (v ++ w)
bytes_join [] w front back = back
bytes_join (b ∷ v) w front back = (front.0, bytes_join v w front.1 back)

-- more fields, whose bytes come one after the other
spells_each : (order : Order) (layout : Layout) (items : List Item) (fields rest left : List ℕ)
    (values : List (List ℕ)) (more : List Item) (m n : ℕ) → SpellsFields order layout items fields
    → AllBytes (fields ++ rest) → AllBytes (concat values)
    → EndEach order (following_all layout items) rest values more m n left
    → (all : List ℕ) × AllBytes (all ++ left) × SpellsFields order layout (items ++ more) all
spells_each order layout items fields rest left [] [] m n s small later e =
    (fields, subst (λ (l : List ℕ). AllBytes (fields ++ l)) (sym e.0) small, rw (append-nil items) s)
spells_each order layout items fields rest left (w ∷ values) (i ∷ more) m n s small later e =
    let all : AllBytes (fields ++ (rest ++ w)) = subst AllBytes (append_assoc fields rest w)
    (bytes_join (fields ++ rest) w small (front_bytes w (concat values) later)) in
    let on = spells_each order layout (items ++ i ∷ []) (fields ++ (rest ++ w)) [] left values more e.0 n
    (fields_push order layout items fields (rest ++ w) i s e.2)
    (subst AllBytes (sym (append-nil (fields ++ (rest ++ w)))) all) (back_bytes w (concat values) later)
    (subst (λ (l : Layout). EndEach order l [] values more e.0 n left)
    (sym (following_all-append layout items (i ∷ []))) e.4) in (
      on.0,
      on.1,
      subst (λ (is : List Item). SpellsFields order layout is on.0) (append_assoc items (i ∷ []) more) on.2,
    )
spells_each order layout items fields rest left [] (i ∷ more) m n s small later e = absurd e
spells_each order layout items fields rest left (w ∷ values) [] m n s small later e = absurd e

module _ {order : Order} {first : Layout} {is_at : Layout → List ℕ → Type 0} (Then : Layout → List ℕ → Type 0)
    (bytes : List ℕ) (small : AllBytes bytes) (s : Spelt order first is_at) where
  -- bytes more
  pub spelt_on : (result : FieldStep) → Makes order (following_all first s.items) s.rest bytes Then result
      → Spelt order first Then
  spelt_on result m = on result m where
    all : AllBytes (s.fields ++ (s.rest ++ bytes))
    all = subst AllBytes (append_assoc s.fields s.rest bytes) (bytes_join (s.fields ++ s.rest) bytes s.bytes small)

    same : Then (following_all first s.items) s.rest → Spelt order first Then
    same at =
        record { items = s.items; fields = s.fields; rest = s.rest; bytes = s.bytes; spelt = s.spelt; at = at }

    on : (result : FieldStep) → Makes order (following_all first s.items) s.rest bytes Then result
        → Spelt order first Then
    on byte_makes.Within m =
        record { items = s.items; fields = s.fields; rest = s.rest ++ bytes; bytes = all; spelt = s.spelt; at = m.1 }
    on byte_makes.Ends m = record {
      items = s.items ++ m.0 ∷ [];
      fields = s.fields ++ (s.rest ++ bytes);
      rest = [];
      bytes = rw (append-nil (s.fields ++ (s.rest ++ bytes))) all;
      spelt = fields_push order first s.items s.fields (s.rest ++ bytes) m.0 s.spelt m.1;
      at = rw (following_all-append first s.items (m.0 ∷ [])) m.2;
    }
    on (byte_makes.Refuses kind) m = same m.1
    on byte_makes.NoMemory m = same m

  -- values more
  pub spelt_each : (values : List (List ℕ)) (more : List Item) (m n : ℕ) (left : List ℕ) → bytes ≡ concat values
      → EndEach order (following_all first s.items) s.rest values more m n left
      → Then (following_all (following_all first s.items) more) left → Spelt order first Then
  spelt_each values more m n left are e at =
      let all = spells_each order first s.items s.fields s.rest left values more m n s.spelt s.bytes
      (subst AllBytes are small) e in
      record {
        items = s.items ++ more;
        fields = all.0;
        rest = left;
        bytes = all.1;
        spelt = all.2;
        at = rw (following_all-append first s.items more) at;
      }

-- the first bytes of a piece are bytes
pub front_is_read : (n : ℕ) (w : List ℕ) → ((i : ℕ) → i < length w → get_or w i 0 < 256) → AllBytes (take n w)
front_is_read n w h = front_bytes (take n w) (drop n w) (subst AllBytes (sym (take-append-drop n w)) (all w h)) where
  all : (w : List ℕ) → ((i : ℕ) → i < length w → get_or w i 0 < 256) → AllBytes w
  all [] h = tt
  all (b ∷ w) h = (h 0 (omega arith), all w (λ i lt. h (suc i) (omega arith)))

-- ---- a table of version 5

-- the values and the count of a table's entries
makes_table : (order : Order) (format : Format) (t : TableReader)
    → Spelt order (table_layout format (alone format)) (TableAt order t table.Whole format (alone format))
    → MakesTable t format
makes_table order format t s =
    let is = s.at.0 in
    let held = whole_held t format (alone format) (following_all (table_layout format (alone format)) s.items) is in
    let read : TableData = record { format = format; pairs = t.pairs.items; entries = is.entries } in
    let sound = table_is_sound order format read s.items s.fields (front_bytes s.fields s.rest s.bytes) s.spelt
    is.layout_is in
    record {
      rows = held.whole;
      sound = subst (λ (entries : List (List Value)). IsSoundTable
          (record { format = format; pairs = t.pairs.items; entries = entries })) (sym held.rows_are) sound;
    }

module _ (order : Order) (format : Format) (old new : TableReader) (bytes : List ℕ) (result : FieldStep)
    (small : AllBytes bytes) (read : ∥ TableReads order format old ∥₁)
    (follows : BytesFollow order format old bytes result new) where
  -- the table is complete, whatever bytes were the last ones
  pub makes_table_pushed : new.phase ≡ table.Whole → MakesTable new format
  makes_table_pushed e = ∥∥₁_elim read makes_prop λ s. makes_table order format new
      (spelt_on _ bytes small s result (table_makes order format (alone format) _ s.rest bytes _ old new result follows
      s.at (λ l w at. table_at order new table.Whole format (alone format) l w e at)))
    where
      makes_prop : IsProp (MakesTable new format)
      makes_prop = let sound = sound_prop (table_of format new.pairs.items new.values.items new.pool.items) in
          hlevel (props, sound)

  -- it isn't
  pub reads_on : (new.phase ≡ table.Whole → ⊥) → ∥ TableReads order format new ∥₁
  reads_on going = ∥∥₁_elim read ∥∥₁_prop λ s. ∣ spelt_on _ bytes small s result (table_makes order format
      (alone format) _ s.rest bytes (AmongTable order format new (alone format)) old new result follows s.at
      (λ l w at. (at, going))) ∣₁

-- its values are taken
reads_each : (order : Order) (format : Format) (old new : TableReader) (bytes : List ℕ) → AllBytes bytes
    → TakesValues order format old bytes new → ∥ TableReads order format old ∥₁ → ∥ TableReads order format new ∥₁
reads_each order format old new bytes small v read = ∥∥₁_elim read ∥∥₁_prop λ s.
    let e = v.each (alone format) _ s.rest s.at in
    ∣ spelt_each _ bytes small s v.values e.0 _ _ e.1 v.bytes_are e.2 e.3 ∣₁

pub fresh_reads : (order : Order) (format : Format) (t : TableReader) → IsFresh t → ∥ TableReads order format t ∥₁
fresh_reads order format t is = ∣ record {
  items = [];
  fields = [];
  rest = [];
  bytes = tt;
  spelt = refl;
  at = table_begins order format t (alone format) (table_layout format (alone format)) is refl;
} ∣₁

pub fresh_stands : (order : Order) (format : Format) (t : TableReader) → ∥ IsFresh t ∥₁ → ∥ TableReads order format t ∥₁
fresh_stands order format t fresh = ∥∥₁_elim fresh ∥∥₁_prop (fresh_reads order format t)

-- ---- by the phase of the header's reader

pub stands_at : (p q : Phase) (order : Order) (format : Format) (t : TableReader) → p ≡ q
    → ∥ TableStands p order format t ∥₁ → ∥ TableStands q order format t ∥₁
stands_at p q order format t e stands = subst (λ (x : Phase). ∥ TableStands x order format t ∥₁) e stands

first_stands : (v : ℕ) (order : Order) (format : Format) (t : TableReader) → ∥ TableReads order format t ∥₁
    → ∥ TableStands (first_table v) order format t ∥₁
first_stands v order format t reads = elim (cases_Bool (v == 5)) [
  | inl own ↦ rw own reads
  | inr older ↦ rw older reads
]

pub length_or_table_stands : (b : Bool) (v : ℕ) (order : Order) (format : Format) (t : TableReader)
    → ∥ TableReads order format t ∥₁ → ∥ TableStands (if b then phase.OpcodeLength else first_table v) order format
    t ∥₁
length_or_table_stands true v order format t reads = reads
length_or_table_stands false v order format t reads = first_stands v order format t reads

-- values of the current table are taken
pub stands_each : (p : Phase) (order : Order) (format : Format) (old new : TableReader) (bytes : List ℕ)
    → (p ≡ phase.Directories) ⊎ (p ≡ phase.Files) → AllBytes bytes → TakesValues order format old bytes new
    → ∥ TableStands p order format old ∥₁ → ∥ TableStands p order format new ∥₁
stands_each p order format old new bytes (inl is) small v stands =
    stands_at phase.Directories p order format new (sym is)
    (reads_each order format old new bytes small v (stands_at p phase.Directories order format old is stands))
stands_each p order format old new bytes (inr is) small v stands =
    stands_at phase.Files p order format new (sym is)
    (reads_each order format old new bytes small v (stands_at p phase.Files order format old is stands))
