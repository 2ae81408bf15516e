-- The reader of a section, after a unit.
use Rattle.std.proofs.Common.{◌≡◌, ◌≢◌, inl, inr, Result, Ok, Err, ◌<◌, ℕ, ◌+◌, ◌^◌, Bool, not, false, List, [], ◌∷◌}
use Rattle.std.proofs.Common.{◌++◌, length, Option, Some, None, arith, refl, sym, ap, ap₂, ◌∙◌, subst, append-nil}
use Rattle.std.proofs.Common.{append_assoc, length-append}
use Rattle.std.proofs.lemmas.List.Folds.{concat-append}
use Rattle.std.specs.Prelude.{is_some, is_none, count_by, cond}
use Rattle.std.specs.List.{AllByRecursion, concat}
use Rattle.dl_head.specs.declared.dialect.Dialect.{Dialect}
use Rattle.std.specs.Option.{option_map}
use Rattle.dl_head.specs.declared.fault.Fault.{Fault}
use Rattle.dl_table.specs.declared.fault.FaultKind.TheVariants.{Truncated}
use Rattle.dl_field.specs.HeaderData.{HeaderData}
use Rattle.dl_head.specs.Header.{foreign_in, header_in}
use Rattle.dl_rows.specs.declared.row.Row.{Row}
use Rattle.dl_rows.specs.LineUnit.{IsUnit, unit_rows}
use Rattle.dl_rows.specs.declared.reader.Reader.{Reader}
use Rattle.dl_rows.specs.declared.reader.Finish.{Finish}
use Rattle.dl_rows.specs.declared.reader.Finish.TheVariants as finish
use Rattle.dl_rows.specs.ReaderStands.{StandsFor}
use Rattle.dl_rows.specs.ReaderAnswers.{HeaderIs}
use Rattle.dl_rows.specs.Reading.{WithinUnit, FinishIs}
use Rattle.dl_rows.specs.Runs.{Sound}
use Rattle.dl_rows.proofs.ReaderLemmas.{within_here}
use Rattle.dl_sections.specs.declared.fault.RunFault.{RunFault}
use Rattle.dl_sections.specs.declared.fault.RunFault.TheVariants as fault
use Rattle.dl_sections.specs.declared.section.SectionUnits.{SectionUnits}
use Rattle.dl_print.specs.declared.summary.Summary.{Summary}
use Rattle.dl_print.specs.Counts.{add, with_unit}
use Rattle.dl_sections.specs.Section.{HasUnits, NoUnitBegins, header_of, summary_of}
use Rattle.dl_sections.specs.UnitsRead.{Before, CutsOff, UnitsAre, end_of}
use Rattle.dl_sections.proofs.EventLemmas.{rows_of_events, foreign_of_events}
use Rattle.dl_sections.proofs.SectionLemmas.{concat-push, has_push, summary-push, few_units, few_ends, few_of_all}

exact : (m n : ℕ) → m + n < 2 ^ 64 → add m n ≡ m + n
exact m n lt = omega (arith, lt)

-- the header that a reader hands over
pub header_is : (r old : Reader) (o : Option HeaderData) (b : List ℕ) → r ≡ old → HeaderIs r o → StandsFor old b
    → o ≡ header_of old.dialect b
header_is r old (Some h) b same is stands =
    sym (ap (λ (p : Option (HeaderData × List ℕ)). option_map (λ parts. parts.0) p)
    (subst (λ (q : Reader). (program : List ℕ) × (header_in q.dialect b ≡ Some (h, program))) same
    (is b (subst (λ (q : Reader). StandsFor q b) (sym same) stands))).1)
header_is r old None b same is stands =
    sym (ap (λ (p : Option (HeaderData × List ℕ)). option_map (λ parts. parts.0) p)
    (subst (λ (q : Reader). header_in q.dialect b ≡ None) same
    (is b (subst (λ (q : Reader). StandsFor q b) (sym same) stands))))

-- what is so of each of two lists is so of each of both
pub all_both : {A : Type 0} (P : A → Type 0) (xs ys : List A) → AllByRecursion P xs → AllByRecursion P ys
    → AllByRecursion P (xs ++ ys)
all_both P [] ys a b = b
all_both P (x ∷ xs) ys a b = (a.0, all_both P xs ys a.1 b)

same_summary : {s t : Summary} → s.units ≡ t.units → s.skipped ≡ t.skipped → s.sequences ≡ t.sequences → s.rows ≡ t.rows
    → s ≡ t
same_summary {s} {t} a b c d = rw (a, b, c, d) refl

module _ (dialect : Dialect) (past : Before dialect) (u : SectionUnits) (t : List ℕ) (units : List (List ℕ)) (b : List ℕ)
    (are : UnitsAre past u t units b) (is : IsUnit dialect b)
    (short : length past.bytes + length t < 2 ^ 64) where
  own : Bool → ℕ
  own x = cond (not x) 1 0

  counts_of_unit : (o : Option ℕ) → foreign_in dialect b ≡ o → (0 + cond (is_none o) 1 0 ≡ cond (not (is_some o)) 1 0)
      × (0 + cond (is_some o) 1 0 ≡ cond (is_some o) 1 0)
  counts_of_unit None e = (refl, refl)
  counts_of_unit (Some v) e = (refl, refl)

  foreign_is : u.is_foreign ≡ is_some (foreign_in dialect b)
  foreign_is = are.foreign ∙ foreign_of_events dialect b

  sequences_are : u.sequences ≡ count_by (λ (r : Row). r.end_sequence) (unit_rows dialect b)
  sequences_are = are.sequences ∙ ap (count_by (λ (r : Row). r.end_sequence)) (rows_of_events dialect b)

  rows_are : u.rows ≡ length (unit_rows dialect b)
  rows_are = are.rows ∙ ap length (rows_of_events dialect b)

  all : HasUnits dialect t (units ++ b ∷ []) []
  all = has_push dialect t units b are.has is

  abbrev all_whole : List (List ℕ)
  all_whole = past.units ++ (units ++ b ∷ [])

  size : length past.bytes + length (concat (units ++ b ∷ [])) < 2 ^ 64
  size = omega (arith, short, ap length all.whole, length-append (concat (units ++ b ∷ [])) [])

  size_of_all : length (concat all_whole) < 2 ^ 64
  size_of_all =
      omega (
        arith,
        size,
        past.fits,
        ap length (concat-append past.units (units ++ b ∷ [])),
        length-append (concat past.units) (concat (units ++ b ∷ [])),
      )

  abbrev more : Summary
  more = summary_of dialect all_whole

  pub summary_more : with_unit u.is_foreign u.sequences u.rows u.summary ≡ more
  summary_more =
      let s = summary_of dialect (past.units ++ units) in
      let pushed = ap (summary_of dialect) (sym (append_assoc past.units units (b ∷ [])))
      ∙ summary-push dialect (past.units ++ units) b in
      let of_unit = counts_of_unit (foreign_in dialect b) refl in
      let few = few_units dialect all_whole (all_both (IsUnit dialect) past.units (units ++ b ∷ []) past.each all.each) in
      let ends = few_ends dialect all_whole in
      let rows = few_of_all dialect all_whole in
      let units_are : more.units ≡ s.units + cond (not (is_some (foreign_in dialect b))) 1 0 =
      ap (λ (q : Summary). q.units) pushed ∙ ap (λ (n : ℕ). s.units + n) of_unit.0 in
      let skipped_are : more.skipped ≡ s.skipped + cond (is_some (foreign_in dialect b)) 1 0 =
      ap (λ (q : Summary). q.skipped) pushed ∙ ap (λ (n : ℕ). s.skipped + n) of_unit.1 in
      let sequences_sum : more.sequences ≡ s.sequences + count_by (λ (r : Row). r.end_sequence) (unit_rows dialect b) =
      ap (λ (q : Summary). q.sequences) pushed ∙ omega arith in
      let rows_sum : more.rows ≡ s.rows + length (unit_rows dialect b) =
      ap (λ (q : Summary). q.rows) pushed ∙ omega arith in
      ap (λ (q : Summary). with_unit u.is_foreign u.sequences u.rows q) are.summary
      ∙ ap (λ (f : Bool). with_unit f u.sequences u.rows s) foreign_is
      ∙ ap₂ (λ (m n : ℕ). with_unit (is_some (foreign_in dialect b)) m n s) sequences_are rows_are
      ∙ same_summary
      (exact s.units (cond (not (is_some (foreign_in dialect b))) 1 0) (omega (arith, few, size_of_all, units_are))
      ∙ sym units_are)
      (exact s.skipped (cond (is_some (foreign_in dialect b)) 1 0) (omega (arith, few, size_of_all, skipped_are))
      ∙ sym skipped_are)
      (exact s.sequences (count_by (λ (r : Row). r.end_sequence) (unit_rows dialect b))
      (omega (arith, ends, size_of_all, sequences_sum)) ∙ sym sequences_sum)
      (exact s.rows (length (unit_rows dialect b)) (omega (arith, rows, size_of_all, rows_sum)) ∙ sym rows_sum)

  pub offset_more : add u.offset (length b) ≡ end_of past (units ++ b ∷ [])
  offset_more =
      let sum : u.offset + length b ≡ end_of past (units ++ b ∷ []) = omega (
        arith,
        are.offset,
        ap length (concat-push units b),
        length-append (concat units) b,
        length-append past.bytes (concat units),
        length-append past.bytes (concat (units ++ b ∷ [])),
      ) in
      exact u.offset (length b) (omega (arith, sum, size, length-append past.bytes (concat (units ++ b ∷ [])))) ∙ sum

  -- after the unit
  pub left_after : (new : SectionUnits) → new.dialect ≡ dialect → StandsFor new.reader [] → new.reader.dialect ≡ dialect
      → new.offset ≡ add u.offset (length b) → new.is_foreign ≡ false → new.sequences ≡ 0 → new.rows ≡ 0
      → new.summary ≡ with_unit u.is_foreign u.sequences u.rows u.summary → UnitsAre past new t (units ++ b ∷ []) []
  left_after new own stands same offset foreign sequences rows summary = record {
    has = all;
    dialect_is = own;
    reader_dialect = same;
    stands = stands;
    offset = offset ∙ offset_more;
    foreign = foreign;
    sequences = sequences;
    rows = rows;
    summary = summary ∙ summary_more;
  }

-- ---- where the bytes are over

module _ (dialect : Dialect) (past : Before dialect) (u : SectionUnits) (t : List ℕ) (units : List (List ℕ)) (b : List ℕ)
    (are : UnitsAre past u t units b) (none : NoUnitBegins dialect b) (sound : Sound dialect b) where
  finish_is : (result : Result Finish Fault)
      → ((c : List ℕ) → StandsFor u.reader c → FinishIs u.reader.dialect c result) → FinishIs dialect b result
  finish_is result is = subst (λ (d : Dialect). FinishIs d b result) are.reader_dialect (is b are.stands)

  pub nothing_begun : (f : Finish) → ((c : List ℕ) → StandsFor u.reader c → FinishIs u.reader.dialect c (Ok f)) → b ≡ []
  nothing_begun finish.Empty is = finish_is (Ok finish.Empty) is
  nothing_begun finish.Whole is = absurd (none b [] (sym (append-nil b)) (finish_is (Ok finish.Whole) is))

  cut_off : (f : Fault) → FinishIs dialect b (Err f) → (b ≢ []) × (f ≡ record { offset = length b; kind = Truncated })
  cut_off f (inl refused) = absurd (sound b [] f.offset f.kind (sym (append-nil b)) refused)
  cut_off f (inr over) = (over.1, over.0)

  -- where the bytes end within the unit
  cut_place : (f : Fault) → ((c : List ℕ) → StandsFor u.reader c → FinishIs u.reader.dialect c (Err f))
      → length past.bytes + length t < 2 ^ 64
      → (b ≢ []) × (add u.offset f.offset ≡ length (past.bytes ++ t)) × (f.kind ≡ Truncated)
  cut_place f is short =
      let over = cut_off f (finish_is (Err f) is) in
      let size = ap length are.has.whole ∙ length-append (concat units) b in
      let place : f.offset ≡ length b = ap (λ (q : Fault). q.offset) over.1 in
      let sum : u.offset + f.offset ≡ length (past.bytes ++ t) = omega (
        arith,
        are.offset,
        place,
        size,
        length-append past.bytes (concat units),
        length-append past.bytes t,
      ) in
      let sum = exact u.offset f.offset (omega (arith, sum, short, length-append past.bytes t)) ∙ sum in
      (over.0, sum, ap (λ (q : Fault). q.kind) over.1)

  pub ends_begun : (f : Fault) (g : RunFault)
      → ((c : List ℕ) → StandsFor u.reader c → FinishIs u.reader.dialect c (Err f))
      → length past.bytes + length t < 2 ^ 64 → g ≡ fault.Damage (add u.offset f.offset) f.kind
      → (b ≢ []) × (g ≡ fault.Damage (length (past.bytes ++ t)) Truncated)
  ends_begun f g is short at = let over = cut_place f is short in (over.0, at ∙ ap₂ fault.Damage over.1 over.2)

  pub cuts_off : (f : Fault) (n : ℕ)
      → ((c : List ℕ) → StandsFor u.reader c → FinishIs u.reader.dialect c (Err f))
      → length past.bytes + length t < 2 ^ 64 → n ≡ add u.offset f.offset
      → CutsOff past t b (Some (record { offset = n; kind = f.kind }))
  cuts_off f n is short at = let over = cut_place f is short in (over.0, rw (at, over.1, over.2) refl)

-- the current unit isn't over-read
pub within_unit : {dialect : Dialect} (past : Before dialect) (u : SectionUnits) (t : List ℕ) (units : List (List ℕ))
    (b : List ℕ) → UnitsAre past u t units b → WithinUnit dialect b
within_unit past u t units b are =
    subst (λ (d : Dialect). WithinUnit d b) are.reader_dialect
    (within_here u.reader.dialect b u.reader.state are.stands)
