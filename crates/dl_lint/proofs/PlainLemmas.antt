-- What is kept of plain operations and of their rows, one more.
use Rattle.std.proofs.Common.{◌≡◌, ◌∙◌, ◌+◌, ◌||◌, Bool, true, false, List, [], ◌∷◌, ◌++◌, Option, ap, ap₂, append_assoc, length, map, refl, sym}
use Rattle.std.specs.Prelude.{if◌then◌else◌, option_to_list}
use Rattle.std.proofs.Math.Bool.{and-true}
use Rattle.std.proofs.lemmas.List.{map-append}
use Rattle.dl_field.specs.HeaderData.{HeaderData}
use Rattle.dl_look.specs.declared.place.Place.{Place}
use Rattle.dl_look.specs.Answer.{first_place, is_rising, place_of}
use Rattle.dl_rows.specs.declared.row.Row.{Row}
use Rattle.dl_rows.specs.Items.{Item, a_byte, a_row, an_operation}
use Rattle.dl_rows.specs.Plain.{PlainOne, items_of_plain, items_of_plain_one}
use Rattle.dl_rows.proofs.PlainTells.{items_push}
use Rattle.dl_sections.specs.Section.{Visit, of_item}
use Rattle.dl_findings.specs.Counting.{at_most_64_bits}
use Rattle.dl_lint.specs.Before.{sequence_told}
use Rattle.dl_lint.specs.Keeping.{is_some_row, reached_by, sequence_of}
use Rattle.dl_lint.specs.RowRules.{falls_below}
use Rattle.dl_lint.specs.declared.reached.Reached.{Reached}
use Rattle.dl_lint.specs.declared.reached.Sequence.{Sequence}
use Rattle.dl_lint.proofs.KeptLemmas.{first_place-push, reached_bytes, reached_operation, reached_row, rises_more, sequence_more}

-- ---- visits

-- an operation with its bytes, and its row
abbrev pub told_bytes : PlainOne → List Visit
told_bytes s = map of_item (map a_byte s.bytes)

abbrev pub told_row : HeaderData → Option Row → List Visit
told_row h made = map of_item (map (a_row h) (option_to_list made))

abbrev pub told_run : HeaderData → List PlainOne → List Visit
told_run h ss = map of_item (items_of_plain h ss)

-- visits, and one operation more
abbrev pub after_bytes : List Visit → PlainOne → List Visit
after_bytes visits s = visits ++ told_bytes s

abbrev pub after_operation : HeaderData → List Visit → PlainOne → List Visit
after_operation h visits s = after_bytes visits s ++ of_item (an_operation h s.operation) ∷ []

pub told_push : (h : HeaderData) (visits : List Visit) (ss : List PlainOne) (s : PlainOne)
    → visits ++ told_run h (ss ++ s ∷ []) ≡ after_operation h (visits ++ told_run h ss) s ++ told_row h s.row
told_push h visits ss s =
    let now = visits ++ told_run h ss in
    let rows = map (a_row h) (option_to_list s.row) in
    ap (λ (items : List Item). visits ++ map of_item items) (items_push h ss s)
    ∙ ap (λ (l : List Visit). visits ++ l) (map-append of_item (items_of_plain h ss) (items_of_plain_one h s))
    ∙ sym (append_assoc visits (told_run h ss) (map of_item (items_of_plain_one h s)))
    ∙ ap (λ (l : List Visit). now ++ l) (map-append of_item (map a_byte s.bytes) (an_operation h s.operation ∷ rows))
    ∙ sym (append_assoc now (told_bytes s) (of_item (an_operation h s.operation) ∷ map of_item rows))
    ∙ sym (append_assoc (after_bytes now s) (of_item (an_operation h s.operation) ∷ []) (map of_item rows))

-- ---- what is reached

-- by an operation with its bytes
pub reached_step : (h : HeaderData) (visits : List Visit) (s : PlainOne)
    → reached_by (after_operation h visits s)
    ≡ record (reached_by visits) {
      operation = (reached_by visits).begun;
      begun = at_most_64_bits ((reached_by visits).next + length s.bytes);
      next = at_most_64_bits ((reached_by visits).next + length s.bytes);
    }
reached_step h visits s =
    reached_operation (after_bytes visits s) h s.operation
    ∙ ap (λ (at : Reached). record at { operation = at.begun; begun = at.next }) (reached_bytes visits s.bytes)

-- by a row that neither ends its sequence nor falls
abbrev pub sequence_with : Sequence → Row → Sequence
sequence_with s r = record s {
  has_begun = true;
  first = if s.has_begun then s.first else place_of r;
  has_statement = s.has_statement || r.is_stmt;
}

abbrev pub with_row : Reached → Row → Reached
with_row at r = record at {
  rows = at_most_64_bits (at.rows + 1);
  last = place_of r;
  sequence = sequence_with at.sequence r;
}

sequence_on : (rows : List Row) (r : Row) → falls_below rows r ≡ false
    → sequence_of (rows ++ r ∷ [])
    ≡ record (sequence_of rows) {
      has_begun = true;
      first = if is_some_row rows then first_place rows else place_of r;
      has_statement = (sequence_of rows).has_statement || r.is_stmt;
    }
sequence_on rows r rises =
    sym (sequence_more rows r (sequence_of rows) (is_rising (rows ++ r ∷ [])) refl refl)
    ∙ ap₂ (λ (first : Place) (rising : Bool). record (sequence_of rows) {
      has_begun = true;
      first = first;
      has_statement = (sequence_of rows).has_statement || r.is_stmt;
      rising = rising;
    }) (first_place-push rows r) (rises_more rows r ∙ rw rises (and-true (is_rising rows)))

pub reached_row_on : (visits : List Visit) (h : HeaderData) (r : Row) → r.end_sequence ≡ false → falls_below (sequence_told visits) r ≡ false
    → reached_by (visits ++ of_item (a_row h r) ∷ []) ≡ with_row (reached_by visits) r
reached_row_on visits h r goes rises =
    reached_row visits h r
    ∙ ap (λ (s : Sequence). record (reached_by visits) {
      rows = at_most_64_bits ((reached_by visits).rows + 1);
      last = place_of r;
      sequence = s;
    }) (ap (λ (b : Bool). sequence_of (if b then [] else sequence_told visits ++ r ∷ [])) goes ∙ sequence_on (sequence_told visits) r rises)
