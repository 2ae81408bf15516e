-- What is kept of one visit more.
use Rattle.std.proofs.Common.{◌≡◌, ◌∙◌, ℕ, ◌+◌, ◌-◌, List, [], ◌∷◌, ◌++◌, length, Bool, true, false, refl, sym, ap, ap₂}
use Rattle.std.proofs.Common.{append-nil, append_assoc, arith, length-append, Option, None, inl, inr}
use Rattle.std.proofs.lemmas.Bool.{cases_Bool}
use Rattle.std.proofs.lemmas.Bool.Decides.{nat_tests}
use Rattle.std.proofs.lemmas.List.Folds.{list_any-append}
use Rattle.std.specs.Prelude.{not, map, flat_map, if◌then◌else◌, unwrap_or, ◌&&◌, ◌||◌}
use Rattle.std.specs.List.{before_last, count_by, list_any, suffix_len}
use Rattle.std.specs.Option.{option_or}
use Rattle.std.proofs.lemmas.List.{reverse-append, take-append-le, take_all}
use Rattle.std.proofs.lemmas.List.Concat.{flat_map-append}
use Rattle.dl_field.specs.HeaderData.{HeaderData}
use Rattle.dl_head.specs.declared.header.HeaderLengths.{HeaderLengths}
use Rattle.dl_rows.proofs.PlaceLemmas.{after_last-push}
use Rattle.dl_rows.specs.declared.operation.Operation.{Operation}
use Rattle.dl_rows.specs.declared.row.Row.{Row}
use Rattle.dl_rows.specs.Items.{a_byte, a_row, an_operation}
use Rattle.dl_look.proofs.MoreRows.{is_rising-push, last_place-push, unended-push, unended-push_end}
use Rattle.dl_look.specs.declared.place.Place.{Place}
use Rattle.dl_look.specs.Answer.{first_place, is_at_most, is_below, is_rising, last_place, place_of}
use Rattle.dl_look.specs.FinderRows.{unended, unended_after}
use Rattle.dl_sections.specs.Section.{Visit, of_header, of_item}
use Rattle.dl_lint.specs.declared.reached.Reached.{Reached}
use Rattle.dl_lint.specs.declared.reached.Sequence.{Sequence}
use Rattle.dl_findings.specs.Counting.{at_most_64_bits}
use Rattle.dl_lint.specs.Before.{is_byte, is_header, is_operation, last_program, of_unit, program_begins}
use Rattle.dl_lint.specs.Before.{program_of, program_offset, row_of, rows_told, sequence_told}
use Rattle.dl_findings.proofs.CountLemmas.{count-push}
use Rattle.dl_lint.specs.Keeping.{is_some_row, is_statement, reached_by, sequence_of}
use Rattle.dl_lint.specs.RowRules.{falls_below}

-- ---- the last element that passes

suffix-push : {X : Type 0} (p : X → Bool) (xs : List X) (x : X)
    → suffix_len p (xs ++ x ∷ []) ≡ if p x then 1 + suffix_len p xs else 0
suffix-push p xs x = rw (reverse-append xs (x ∷ [])) refl

pub before_last-push : {X : Type 0} (p : X → Bool) (xs : List X) (x : X)
    → before_last p (xs ++ x ∷ []) ≡ if p x then xs else before_last p xs
before_last-push p xs x =
    let s = suffix-push (λ y. not (p y)) xs x in
    let l = length-append xs (x ∷ []) in
    elim (cases_Bool (p x)) [
      | inl stops ↦
          let t : suffix_len (λ y. not (p y)) (xs ++ x ∷ []) ≡ 0 = (rw stops at s) in
          let n : length (xs ++ x ∷ []) - 0 - 1 ≡ length xs = omega arith in
          rw (t, stops, n) (take-append-le (length xs) xs (x ∷ []) (omega arith) ∙ take_all (length xs) xs (omega arith))
      | inr goes ↦
          let t : suffix_len (λ y. not (p y)) (xs ++ x ∷ []) ≡ 1 + suffix_len (λ y. not (p y)) xs = (rw goes at s) in
          let n : length (xs ++ x ∷ []) - (1 + suffix_len (λ y. not (p y)) xs) - 1
          ≡ length xs - suffix_len (λ y. not (p y)) xs - 1 = omega arith in
          rw (t, goes, n) (take-append-le (length xs - suffix_len (λ y. not (p y)) xs - 1) xs (x ∷ []) (omega arith))
    ]

-- ---- what is kept, by where the program begins and what was told of the unit

abbrev pub made : (program two one all : ℕ) → List Row → Reached
made program two one all rows = record {
  operation = at_most_64_bits (program + two);
  begun = at_most_64_bits (program + one);
  next = at_most_64_bits (program + all);
  rows = at_most_64_bits (length rows);
  last = last_place rows;
  sequence = sequence_of (unended rows);
}

abbrev pub bytes_in : List Visit → ℕ
bytes_in visits = count_by is_byte visits

abbrev pub kept : (program : ℕ) → List Visit → Reached
kept program unit =
    made program (bytes_in (before_last is_operation (before_last is_operation unit)))
    (bytes_in (before_last is_operation unit)) (bytes_in unit) (flat_map row_of unit)

kept_is : (visits : List Visit) → reached_by visits ≡ kept (program_begins visits) (of_unit visits)
kept_is visits = refl

bytes-push : (unit : List Visit) (v : Visit) → bytes_in (unit ++ v ∷ []) ≡ bytes_in unit + (if is_byte v then 1 else 0)
bytes-push unit v = count-push is_byte unit v

-- a visit more of the unit
kept-push : (program : ℕ) (unit : List Visit) (v : Visit)
    → kept program (unit ++ v ∷ [])
    ≡ made program (bytes_in (before_last is_operation (if is_operation v then unit else before_last is_operation unit)))
    (bytes_in (if is_operation v then unit else before_last is_operation unit))
    (bytes_in unit + (if is_byte v then 1 else 0)) (flat_map row_of unit ++ row_of v)
kept-push program unit v =
    rw (before_last-push is_operation unit v, bytes-push unit v, flat_map-append row_of unit (v ∷ []), append-nil (row_of v)) refl

no_byte : (n : ℕ) → n + 0 ≡ n
no_byte n = omega arith

one_byte : (p n : ℕ) → at_most_64_bits (p + (n + 1)) ≡ at_most_64_bits (at_most_64_bits (p + n) + 1)
one_byte p n = omega arith

still : (n : ℕ) → at_most_64_bits (at_most_64_bits n + 0) ≡ at_most_64_bits n
still n = omega arith

further : (n b : ℕ) (bytes : List ℕ)
    → at_most_64_bits (at_most_64_bits (n + 1) + length bytes) ≡ at_most_64_bits (n + length (b ∷ bytes))
further n b bytes = omega arith

-- the rows of the current sequence
unended_more : (rows : List Row) (r : Row) → unended (rows ++ r ∷ []) ≡ (if r.end_sequence then [] else unended rows ++ r ∷ [])
unended_more rows r = by r.end_sequence refl where
  by : (b : Bool) → r.end_sequence ≡ b → unended (rows ++ r ∷ []) ≡ (if b then [] else unended rows ++ r ∷ [])
  by true ends = unended-push_end [] rows r ends
  by false goes = unended-push [] rows r goes

-- a row more
with_rows : (p two one all : ℕ) (rows : List Row) (r : Row)
    → made p two one (all + 0) (rows ++ r ∷ [])
    ≡ record (made p two one all rows) {
      rows = at_most_64_bits (at_most_64_bits (length rows) + 1);
      last = place_of r;
      sequence = sequence_of (if r.end_sequence then [] else unended rows ++ r ∷ []);
    }
with_rows p two one all rows r =
    rw (no_byte all, unended_more rows r, last_place-push rows r) (ap (λ (n : ℕ). record (made p two one all rows) {
      rows = n;
      last = place_of r;
      sequence = sequence_of (if r.end_sequence then [] else unended rows ++ r ∷ []);
    }) (count_more rows r)) where
      count_more : (rows : List Row) (r : Row)
          → at_most_64_bits (length (rows ++ r ∷ [])) ≡ at_most_64_bits (at_most_64_bits (length rows) + 1)
      count_more rows r = omega (arith, length-append rows (r ∷ []))

-- ---- the unit and its program

or_none : (a : Option ℕ) → option_or None a ≡ option_or a None
or_none a = grind arith

or_assoc : (a b c : Option ℕ) → option_or (option_or a b) c ≡ option_or a (option_or b c)
or_assoc a b c = grind arith

program-push : (visits : List Visit) (v : Visit)
    → last_program (visits ++ v ∷ []) ≡ option_or (program_of v) (last_program visits)
program-push [] v = or_none (program_of v)
program-push (w ∷ visits) v =
    rw (program-push visits v) (or_assoc (program_of v) (last_program visits) (program_of w))

-- a visit that is no header
reached-push : (visits : List Visit) (v : Visit) → is_header v ≡ false → program_of v ≡ None
    → reached_by (visits ++ v ∷ []) ≡ kept (program_begins visits) (of_unit visits ++ v ∷ [])
reached-push visits v other none =
    ap₂ kept
    (ap (λ (p : Option ℕ). unwrap_or p 0)
    (program-push visits v ∙ ap (λ (p : Option ℕ). option_or p (last_program visits)) none))
    (after_last-push is_header visits v
    ∙ ap (λ (is : Bool). if is then [] else of_unit visits ++ v ∷ []) other)

pub reached_header : (visits : List Visit) (offset : ℕ) (l : HeaderLengths) (h : HeaderData)
    → reached_by (visits ++ of_header offset l h ∷ []) ≡ kept (program_offset offset l.header_length h.params) []
reached_header visits offset l h =
    ap₂ kept
    (ap (λ (p : Option ℕ). unwrap_or p 0) (program-push visits (of_header offset l h)))
    (after_last-push is_header visits (of_header offset l h))

pub reached_operation : (visits : List Visit) (h : HeaderData) (o : Operation)
    → reached_by (visits ++ of_item (an_operation h o) ∷ [])
    ≡ record (reached_by visits) { operation = (reached_by visits).begun; begun = (reached_by visits).next }
reached_operation visits h o =
    reached-push visits (of_item (an_operation h o)) refl refl
    ∙ kept-push (program_begins visits) (of_unit visits) (of_item (an_operation h o))
    ∙ ap₂ (λ (n : ℕ) (rows : List Row). made (program_begins visits) (bytes_in (before_last is_operation (of_unit visits)))
    (bytes_in (of_unit visits)) n rows) (no_byte (bytes_in (of_unit visits))) (append-nil (flat_map row_of (of_unit visits)))

reached_byte : (visits : List Visit) (b : ℕ)
    → reached_by (visits ++ of_item (a_byte b) ∷ [])
    ≡ record (reached_by visits) { next = at_most_64_bits ((reached_by visits).next + 1) }
reached_byte visits b =
    reached-push visits (of_item (a_byte b)) refl refl
    ∙ kept-push (program_begins visits) (of_unit visits) (of_item (a_byte b))
    ∙ ap₂ (λ (n : ℕ) (rows : List Row). record (made (program_begins visits)
    (bytes_in (before_last is_operation (before_last is_operation (of_unit visits))))
    (bytes_in (before_last is_operation (of_unit visits))) 0 rows) { next = n })
    (one_byte (program_begins visits) (bytes_in (of_unit visits))) (append-nil (flat_map row_of (of_unit visits)))

pub reached_bytes : (visits : List Visit) (bytes : List ℕ)
    → reached_by (visits ++ map of_item (map a_byte bytes))
    ≡ record (reached_by visits) { next = at_most_64_bits ((reached_by visits).next + length bytes) }
reached_bytes visits [] =
    ap reached_by (append-nil visits)
    ∙ sym (ap (λ (n : ℕ). record (reached_by visits) { next = n }) (still (program_begins visits + bytes_in (of_unit visits))))
reached_bytes visits (b ∷ bytes) =
    let more : List Visit = map of_item (map a_byte bytes) in
    ap reached_by (sym (append_assoc visits (of_item (a_byte b) ∷ []) more))
    ∙ reached_bytes (visits ++ of_item (a_byte b) ∷ []) bytes
    ∙ ap (λ (at : Reached). record at { next = at_most_64_bits (at.next + length bytes) }) (reached_byte visits b)
    ∙ ap (λ (n : ℕ). record (reached_by visits) { next = n }) (further (reached_by visits).next b bytes)

pub reached_row : (visits : List Visit) (h : HeaderData) (r : Row)
    → reached_by (visits ++ of_item (a_row h r) ∷ [])
    ≡ record (reached_by visits) {
      rows = at_most_64_bits ((reached_by visits).rows + 1);
      last = place_of r;
      sequence = sequence_of (if r.end_sequence then [] else sequence_told visits ++ r ∷ []);
    }
reached_row visits h r =
    let unit = of_unit visits in
    let rows = rows_told visits in
    let two = bytes_in (before_last is_operation (before_last is_operation unit)) in
    let one = bytes_in (before_last is_operation unit) in
    reached-push visits (of_item (a_row h r)) refl refl
    ∙ kept-push (program_begins visits) unit (of_item (a_row h r))
    ∙ with_rows (program_begins visits) two one (bytes_in unit) rows r

-- neither a header nor of the program
pub reached_quiet : (visits : List Visit) (v : Visit) → is_header v ≡ false → program_of v ≡ None → is_byte v ≡ false
    → is_operation v ≡ false → row_of v ≡ [] → reached_by (visits ++ v ∷ []) ≡ reached_by visits
reached_quiet visits v header program byte operation row =
    let unit = of_unit visits in
    reached-push visits v header program
    ∙ kept-push (program_begins visits) unit v
    ∙ ap (λ (is : Bool). made (program_begins visits)
    (bytes_in (before_last is_operation (if is then unit else before_last is_operation unit)))
    (bytes_in (if is then unit else before_last is_operation unit)) (bytes_in unit + (if is_byte v then 1 else 0))
    (flat_map row_of unit ++ row_of v)) operation
    ∙ ap₂ (λ (n : ℕ) (rows : List Row). made (program_begins visits)
    (bytes_in (before_last is_operation (before_last is_operation unit))) (bytes_in (before_last is_operation unit)) n rows)
    (ap (λ (is : Bool). bytes_in unit + (if is then 1 else 0)) byte ∙ no_byte (bytes_in unit))
    (ap (λ (l : List Row). flat_map row_of unit ++ l) row ∙ append-nil (flat_map row_of unit))

-- ---- one thing more, of what is kept

pub at_start : (p n : ℕ) → n ≡ at_most_64_bits p
    → ◌≡◌ {A = Reached} (record {
      operation = n;
      begun = n;
      next = n;
      rows = 0;
      last = last_place [];
      sequence = sequence_of [];
    }) (kept p [])
at_start p n e =
    ap (λ (m : ℕ). made_at m) (e ∙ ap at_most_64_bits (sym (no_byte p))) where
      made_at : ℕ → Reached
      made_at m = record { operation = m; begun = m; next = m; rows = 0; last = last_place []; sequence = sequence_of [] }

pub row_kept : (at : Reached) (visits : List Visit) (h : HeaderData) (r : Row) (rows : ℕ) (last : Place) (sequence : Sequence)
    → at ≡ reached_by visits → rows ≡ at_most_64_bits (at.rows + 1) → last ≡ place_of r
    → sequence ≡ sequence_of (if r.end_sequence then [] else sequence_told visits ++ r ∷ [])
    → record at { rows = rows; last = last; sequence = sequence } ≡ reached_by (visits ++ of_item (a_row h r) ∷ [])
row_kept at visits h r rows last sequence is more place told =
    rw (more, place, told, is) (sym (reached_row visits h r))

-- ---- sequences

pub first_place-push : (rows : List Row) (r : Row)
    → first_place (rows ++ r ∷ []) ≡ (if is_some_row rows then first_place rows else place_of r)
first_place-push [] r = refl
first_place-push (s ∷ rows) r = refl

any-push : (rows : List Row) (r : Row)
    → list_any is_statement (rows ++ r ∷ []) ≡ (list_any is_statement rows || r.is_stmt)
any-push rows r = grind (arith, list_any-append is_statement rows (r ∷ []))

some-push : (rows : List Row) (r : Row) → is_some_row (rows ++ r ∷ []) ≡ true
some-push [] r = refl
some-push (s ∷ rows) r = refl

pub sequence_more : (rows : List Row) (r : Row) (s : Sequence) (rising : Bool) → s ≡ sequence_of rows
    → rising ≡ is_rising (rows ++ r ∷ [])
    → ◌≡◌ {A = Sequence} (record {
      has_begun = true;
      first = first_place (rows ++ r ∷ []);
      has_statement = s.has_statement || r.is_stmt;
      rising = rising;
    }) (sequence_of (rows ++ r ∷ []))
sequence_more rows r s rising is e =
    rw (e, is) (ap₂ made_of (sym (some-push rows r)) (sym (any-push rows r))) where
      made_of : Bool → Bool → Sequence
      made_of begun any = record {
        has_begun = begun;
        first = first_place (rows ++ r ∷ []);
        has_statement = any;
        rising = is_rising (rows ++ r ∷ []);
      }

-- ---- places that don't fall

not_below : (p q : Place) → is_at_most q p ≡ not (is_below p q)
not_below p q = grind (arith, nat_tests)

pub rises_more : (rows : List Row) (r : Row) → is_rising (rows ++ r ∷ []) ≡ (is_rising rows && not (falls_below rows r))
rises_more [] r = refl
rises_more (q ∷ rows) r =
    is_rising-push q rows r
    ∙ ap (λ (b : Bool). is_rising (q ∷ rows) && b) (not_below (place_of r) (last_place (q ∷ rows)))

-- the last row of a unit is that of its sequence, where that has one
last-append : (a : List Row) (r : Row) (rows : List Row) → last_place (a ++ r ∷ rows) ≡ last_place (r ∷ rows)
last-append [] r rows = refl
last-append (q ∷ []) r rows = refl
last-append (q ∷ s ∷ a) r rows = last-append (s ∷ a) r rows

abbrev Last : (begun rows whole : List Row) → Type 0
Last begun rows whole =
    is_some_row (unended_after begun rows) ≡ true → last_place (unended_after begun rows) ≡ last_place whole

last_unended : (begun rows : List Row) → Last begun rows (begun ++ rows)
last_unended begun [] some = ap last_place (sym (append-nil begun))
last_unended begun (r ∷ rows) some =
    by r.end_sequence refl (last_unended [] rows) (last_unended (begun ++ r ∷ []) rows) where
      by_end : (rows : List Row) → is_some_row (unended_after [] rows) ≡ true → last_place rows ≡ last_place (begun ++ r ∷ rows)
      by_end [] none = absurd cc
      by_end (q ∷ rows) more = sym (last-append begun r (q ∷ rows))

      by : (b : Bool) → r.end_sequence ≡ b → Last [] rows rows → Last (begun ++ r ∷ []) rows ((begun ++ r ∷ []) ++ rows)
          → last_place (unended_after begun (r ∷ rows)) ≡ last_place (begun ++ r ∷ rows)
      by true ends after on =
          let e : unended_after begun (r ∷ rows) ≡ unended_after [] rows =
          ap (λ (b : Bool). if b then unended_after [] rows else unended_after (begun ++ r ∷ []) rows) ends in
          let more : is_some_row (unended_after [] rows) ≡ true = sym (ap is_some_row e) ∙ some in
          ap last_place e ∙ after more ∙ by_end rows more
      by false goes after on =
          let e : unended_after begun (r ∷ rows) ≡ unended_after (begun ++ r ∷ []) rows =
          ap (λ (b : Bool). if b then unended_after [] rows else unended_after (begun ++ r ∷ []) rows) goes in
          ap last_place e ∙ on (sym (ap is_some_row e) ∙ some) ∙ ap last_place (append_assoc begun (r ∷ []) rows)

pub last_of_sequence : (at : Reached) (visits : List Visit) → at ≡ reached_by visits → is_some_row (sequence_told visits) ≡ true
    → at.last ≡ last_place (sequence_told visits)
last_of_sequence at visits is some = ap (λ (a : Reached). a.last) is ∙ sym (last_unended [] (rows_told visits) some)

pub falls_some : (rows : List Row) (r : Row) → falls_below rows r ≡ true → is_some_row rows ≡ true
falls_some [] r falls = absurd cc
falls_some (s ∷ rows) r falls = refl

falls_by : (rows : List Row) (r : Row) → is_some_row rows ≡ true → falls_below rows r ≡ is_below (place_of r) (last_place rows)
falls_by [] r some = absurd cc
falls_by (s ∷ rows) r some = refl

pub falls_below_last : (at : Reached) (visits : List Visit) (r : Row) → at ≡ reached_by visits → at.sequence.has_begun ≡ true
    → is_below (place_of r) at.last ≡ falls_below (sequence_told visits) r
falls_below_last at visits r is begun =
    let some : is_some_row (sequence_told visits) ≡ true = sym (ap (λ (a : Reached). a.sequence.has_begun) is) ∙ begun in
    ap (is_below (place_of r)) (last_of_sequence at visits is some) ∙ sym (falls_by (sequence_told visits) r some)
