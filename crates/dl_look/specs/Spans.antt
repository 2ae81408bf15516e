-- What an index keeps of the sequences of its rows.
use Rattle.std.specs.Prelude.{ℕ, ◌+◌, List, [], ◌∷◌, length, Option, Some, None}
use Rattle.dl_rows.specs.declared.row.Row.{Row}
use Rattle.dl_look.specs.declared.probed.Span.{Span}
use Rattle.dl_look.specs.declared.sequence_so_far.SequenceSoFar.{SequenceSoFar}
use Rattle.dl_look.specs.Answer.{sequences, is_rising, first_place, last_place}

-- of a sequence whose first row has the number start
abbrev pub span_of : ℕ → List Row → Span
span_of start sequence = record {
  start = start;
  len = length sequence;
  first = first_place sequence;
  last = last_place sequence;
  rising = is_rising sequence;
}

-- of sequences one after the other
abbrev pub spans_from : ℕ → List (List Row) → List Span
spans_from start [] = []
spans_from start (s ∷ ss) = span_of start s ∷ spans_from (start + length s) ss

abbrev pub spans : List Row → List Span
spans rows = spans_from 0 (sequences rows)

-- of the rows of a sequence so far; None of no rows
abbrev pub run_of : List Row → Option SequenceSoFar
run_of [] = None
run_of (r ∷ rows) =
    Some (record { first = first_place (r ∷ rows); last = last_place (r ∷ rows); rising = is_rising (r ∷ rows) })
