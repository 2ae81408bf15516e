-- Counts of the current unit, where its reader tells an event.
use Rattle.dl_sections.proofs.Names.{◌++◌, ◌+◌, ◌<◌, ◌^◌, ◌||◌, ◌∙◌, ◌∷◌, ◌≡◌, [], ap, append-nil, append_assoc, arith}
use Rattle.dl_sections.proofs.Names.{Bool, concat, count_by-le-length, Counted, counted, Dialect, ends, Event, events}
use Rattle.dl_sections.proofs.Names.{false, Fed, FeedsAfter, is_foreign, length, length-append, length-take, List, map}
use Rattle.dl_sections.proofs.Names.{refl, Row, row_told, rows_told, SectionUnits, sym, take, told, true, UnitsAre, ℕ}
use Rattle.dl_sections.proofs.Names.event
use Rattle.dl_rows.specs.ReaderStands.{StandsFor}
use Rattle.dl_sections.specs.UnitsRead.{Before}
use Rattle.dl_sections.proofs.EventLemmas.{rows_told-append, rows_told-rows, none_told, no_version}
use Rattle.dl_sections.proofs.ToldLemmas.{ends-append}
use Rattle.dl_sections.proofs.SectionLemmas.{few_told}

foreign-append : (es more : List Event) → is_foreign (es ++ more) ≡ (is_foreign es || is_foreign more)
foreign-append [] more = refl
foreign-append (event.Foreign version ∷ es) more = refl
foreign-append (e ∷ es) more = foreign-append es more

or_false : (x : Bool) → (x || false) ≡ x
or_false true = refl
or_false false = refl

or_true : (x : Bool) → (x || true) ≡ true
or_true true = refl
or_true false = refl

module _ (u : SectionUnits) where
  foreign_more : (e : Event) (x : Bool) → u.is_foreign ≡ x → (counted e u).is_foreign ≡ (x || is_foreign (told e))
  foreign_more (event.Foreign version) x is = sym (or_true x)
  foreign_more e x is = is ∙ sym (or_false x)

  -- what an event leaves as it is
  same_but : (e : Event) → counted e u ≡ record u { is_foreign = (counted e u).is_foreign }
  same_but (event.Foreign version) = refl
  same_but e = refl

module _ (dialect : Dialect) (past : Before dialect) (u : SectionUnits) (t piece : List ℕ) (units : List (List ℕ))
    (b : List ℕ) (are : UnitsAre past u t units b) (v : SectionUnits) (own : v.reader.dialect ≡ dialect)
    (short : length t + length piece < 2 ^ 64) where
  -- the reader took bytes and told rows, and then an event that is none; v: with the rows' counts
  pub more_read : (rows : List Row) (fed : Fed) → v ≡ record u {
    reader = v.reader;
    sequences = v.sequences;
    rows =
        v.rows;
  } → Counted u.rows u.sequences v.rows v.sequences rows → row_told fed.event ≡ []
      → FeedsAfter StandsFor dialect (events dialect b ++ map event.Row rows) b piece fed v.reader
      → UnitsAre past (counted fed.event v) (t ++ take fed.used piece) units (b ++ take fed.used piece)
  more_read rows fed same counts none f =
      let x = take fed.used piece in
      let c = b ++ x in
      let e = fed.event in
      let before = events dialect b ++ map event.Row rows in
      let now : counted e v ≡ record u {
        reader = v.reader;
        sequences = v.sequences;
        rows = v.rows;
        is_foreign = (counted e v).is_foreign;
      } = same_but v e ∙ ap (λ (z : SectionUnits). record z { is_foreign = (counted e v).is_foreign }) same in
      let rows_are : rows_told (events dialect c) ≡ rows_told (events dialect b) ++ rows =
      ap rows_told f.answered.grows ∙ rw (
        rows_told-append before (told e),
        none_told e none,
        append-nil,
        rows_told-append (events dialect b) (map event.Row rows),
        rows_told-rows rows,
      ) refl in
      let foreign_are : is_foreign (events dialect c) ≡ (is_foreign (events dialect b) || is_foreign (told e)) =
      ap is_foreign f.answered.grows ∙ rw (
        foreign-append before (told e),
        foreign-append (events dialect b) (map event.Row rows),
        no_version rows,
        or_false (is_foreign (events dialect b)),
      ) refl in
      let size : length (rows_told (events dialect c)) < 2 ^ 64 =
      omega (
        arith,
        short,
        f.answered.within,
        length-take fed.used piece,
        ap length are.has.whole,
        length-append (concat units) b,
        length-append b x,
        few_told dialect c,
      ) in
      let lengths = ap length rows_are ∙ length-append (rows_told (events dialect b)) rows in
      let all_ends = ap ends rows_are ∙ ends-append (rows_told (events dialect b)) rows in
      let few = count_by-le-length (λ (r : Row). r.end_sequence) (rows_told (events dialect c)) in
      rw now (record {
        has = record { whole = rw are.has.whole (append_assoc (concat units) b x); each = are.has.each };
        dialect_is = are.dialect_is;
        reader_dialect = own;
        stands = f.stands;
        offset = are.offset;
        foreign = foreign_more v e _ (ap (λ (z : SectionUnits). z.is_foreign) same ∙ are.foreign) ∙ sym foreign_are;
        sequences = counts.of_ends (omega (arith, are.sequences, size, all_ends, few))
            ∙ rw are.sequences (sym all_ends);
        rows = counts.of_rows (omega (arith, are.rows, size, lengths)) ∙ rw are.rows (sym lengths);
        summary = are.summary;
      })
