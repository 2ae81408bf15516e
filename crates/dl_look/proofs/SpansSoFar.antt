-- What is kept of the sequences, row by row.
use Rattle.std.proofs.Common.{◌≡◌, ℕ, ◌+◌, ◌-◌, true, false, List, [], ◌∷◌, ◌++◌, length, Option, Some, None, arith}
use Rattle.std.proofs.Common.{sym, ap, ap₂, ◌∙◌, length-append}
use Rattle.std.specs.Option.{option_map_or}
use Rattle.dl_rows.specs.declared.row.Row.{Row}
use Rattle.dl_look.specs.declared.probed.Span.{Span}
use Rattle.dl_look.specs.declared.sequence_so_far.SequenceSoFar.{SequenceSoFar}
use Rattle.dl_look.specs.Answer.{place_of, is_rising, last_place, sequences}
use Rattle.dl_look.specs.FinderRows.{unended}
use Rattle.dl_look.specs.Spans.{span_of, spans_from, spans, run_of}
use Rattle.dl_look.proofs.MoreRows.{sequences-push, sequences-push_end, unended-push, unended-push_end}
use Rattle.dl_look.proofs.SpanLemmas.{joined, joined-sequences}

spans_from-push : (k : ℕ) (ss : List (List Row)) (s : List Row)
    → spans_from k (ss ++ s ∷ []) ≡ spans_from k ss ++ span_of (k + length (joined ss)) s ∷ []
spans_from-push k [] s = let e : k ≡ k + 0 = omega arith in ap (λ n. span_of n s ∷ []) e
spans_from-push k (t ∷ ss) s =
    let e : k + length t + length (joined ss) ≡ k + length (t ++ joined ss) =
    omega (arith, length-append t (joined ss)) in
    ap (λ l. span_of k t ∷ l) (spans_from-push (k + length t) ss s
    ∙ ap (λ n. spans_from (k + length t) ss ++ span_of n s ∷ []) e)

abbrev pub span_with : ℕ → ℕ → SequenceSoFar → Span
span_with start len run = record { start = start; len = len; first = run.first; last = run.last; rising = run.rising }

-- the span of a run that an end row ends
span_of-run : (start len : ℕ) (s : List Row) (run : SequenceSoFar) → Some run ≡ run_of s → len ≡ length s
    → span_of start s ≡ span_with start len run
span_of-run start len [] run e n = cc
span_of-run start len (q ∷ s) run e n =
    let is = ap (λ o. option_map_or (span_with start len) o (span_of start (q ∷ s))) e in
    ap (λ k. span_with start k (record { first = place_of q; last = last_place (q ∷ s); rising = is_rising (q ∷ s) }))
    (sym n) ∙ sym is

-- after the rows so far
pub record SoFar (rows : List Row) (kept : List Span) (start : ℕ) (run : Option SequenceSoFar) : Type 0 where
  pub kept_is : kept ≡ spans rows
  pub start_is : start + length (unended rows) ≡ length rows
  pub run_is : run ≡ run_of (unended rows)

module _ (rows : List Row) (kept : List Span) (start : ℕ) (run : Option SequenceSoFar)
    (so_far : SoFar rows kept start run) (r : Row) (extended : SequenceSoFar)
    (runs : Some extended ≡ run_of (unended rows ++ r ∷ [])) where
  pub goes_on : r.end_sequence ≡ false → SoFar (rows ++ r ∷ []) kept start (Some extended)
  goes_on more =
      let pushed = unended-push [] rows r more in
      record {
        kept_is = so_far.kept_is ∙ sym (ap (spans_from 0) (sequences-push [] rows r more));
        start_is =
            let e = so_far.start_is in
            omega (arith, ap length pushed, length-append rows (r ∷ []), length-append (unended rows) (r ∷ []));
        run_is = runs ∙ sym (ap run_of pushed);
      }

  pub ends : (i : ℕ) → length rows ≡ i → r.end_sequence ≡ true
      → SoFar (rows ++ r ∷ []) (kept ++ span_with start (i - start + 1) extended ∷ []) (i + 1) None
  ends i here end =
      let none = unended-push_end [] rows r end in
      let s = unended rows ++ r ∷ [] in
      let e = so_far.start_is in
      let before : 0 + length (joined (sequences rows)) ≡ start =
      omega (arith, ap length (joined-sequences [] rows), length-append (joined (sequences rows)) (unended rows)) in
      let count : i - start + 1 ≡ length s = omega (arith, length-append (unended rows) (r ∷ [])) in
      record {
        kept_is =
            ap₂ (λ (l : List Span) (span : Span). l ++ span ∷ []) so_far.kept_is
            (sym (span_of-run start _ s extended runs count))
            ∙ ap (λ n. spans rows ++ span_of n s ∷ []) (sym before)
            ∙ sym (spans_from-push 0 (sequences rows) s)
            ∙ sym (ap (spans_from 0) (sequences-push_end [] rows r end));
        start_is = omega (arith, ap length none, length-append rows (r ∷ []));
        run_is = sym (ap run_of none);
      }
