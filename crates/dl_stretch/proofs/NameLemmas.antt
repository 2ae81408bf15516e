-- The files that runs name.
use Rattle.std.proofs.Common.{◌≡◌, ℕ, ◌+◌, ◌-◌, ◌≤◌, Bool, true, false, List, [], ◌∷◌, take, drop, map, Option, Some, None}
use Rattle.std.proofs.Common.{arith, sym, ap, subst, ◌∙◌}
use Rattle.std.specs.Prelude.{if◌then◌else◌, nat_le}
use Rattle.std.specs.List.{All, Contains}
use Rattle.std.specs.Option.{option_map, option_or}
use Rattle.std.proofs.lemmas.List.{take-append-drop, take-map, drop-map, drop-drop}
use Rattle.std.proofs.lemmas.List.Elements.{All-head, All-tail, Contains-append_left, Contains-append_right}
use Rattle.dl_rows.specs.declared.row.Row.{Row}
use Rattle.dl_look.specs.declared.probed.Span.{Span}
use Rattle.dl_look.specs.Cuts.{covers_span}
use Rattle.dl_look.specs.LiveRows.{live_rows}
use Rattle.dl_look.proofs.LiveLemmas.{of_live_rows}
use Rattle.dl_stretch.specs.declared.told.Told.{Told}
use Rattle.dl_stretch.specs.declared.run.Run.{Run}
use Rattle.dl_stretch.specs.declared.run_spans.RunSpans.{RunSpans}
use Rattle.dl_stretch.specs.Held.{told_by}
use Rattle.dl_stretch.specs.Runs.{place_at, run_told_at}
use Rattle.dl_stretch.specs.Spans.{runs_in, answer_of}
use Rattle.dl_stretch.specs.Parts.{ended}
use Rattle.dl_stretch.specs.Stands.{Holds}
use Rattle.dl_stretch.specs.ToldUnits.{NameFiles, file_of}
use Rattle.dl_stretch.proofs.RenumberLemmas.{run_told-cons}
use Rattle.dl_stretch.proofs.RunLemmas.{row_told}
use Rattle.dl_stretch.proofs.SpanAnswers.{answer-cons}

abbrev files : List Run → List ℕ
files runs = map file_of runs

either : (o p : Option Told) (t : Told) (P : Type 0) → (o ≡ Some t → P) → (p ≡ Some t → P) → option_or o p ≡ Some t → P
either None p t P f g e = g e
either (Some u) p t P f g e = f e

begun : (b : Bool) (u t : Told) → (if b then Some u else None) ≡ Some t → u ≡ t
begun true u t h = cc
begun false u t h = cc

run_named : (runs : List Run) (a : ℕ) (t : Told) → run_told_at runs a ≡ Some t → Contains (files runs) t.file
run_named [] a t e = cc
run_named (x ∷ xs) a t e =
    either (run_told_at xs a) (if nat_le x.start a then Some (told_by x) else None) t (Contains (files (x ∷ xs)) t.file)
    (λ h. Contains-append_right (file_of x ∷ []) (files xs) t.file (run_named xs a t h))
    (λ h. (0, omega arith, ap (λ (t : Told). t.file) (begun (nat_le x.start a) (told_by x) t h)))
    (sym (run_told-cons x xs a) ∙ e)

part_named : (l : List ℕ) (start len y : ℕ) → Contains (take len (drop start l)) y → Contains l y
part_named l start len y c =
    subst (λ m. Contains m y) (take-append-drop start l)
    (Contains-append_right (take start l) (drop start l) y (subst (λ m. Contains m y) (take-append-drop len (drop start l))
    (Contains-append_left (take len (drop start l)) (drop len (drop start l)) y c)))

-- the runs of a span are among those from w on, where it begins there
span_named : (runs : List Run) (w : ℕ) (s : Span) (y : ℕ) → w ≤ s.start → Contains (files (runs_in runs s)) y
    → Contains (files (drop w runs)) y
span_named runs w s y le c =
    let k : ℕ = s.start - w in
    let e : w + k ≡ s.start = omega (arith, le) in
    let same : files (runs_in runs s) ≡ take s.len (drop k (files (drop w runs))) =
    ap (λ n. files (take s.len (drop n runs))) (sym e) ∙ ap (λ l. files (take s.len l)) (sym (drop-drop k w runs))
    ∙ sym (take-map file_of s.len (drop k (drop w runs)))
    ∙ sym (ap (take s.len) (drop-map file_of k (drop w runs))) in
    part_named (files (drop w runs)) k s.len y (subst (λ m. Contains m y) same c)

answer_named : (runs : List Run) (w : ℕ) (spans : List Span) (a : ℕ) (t : Told) → All (λ (s : Span). w ≤ s.start) spans
    → answer_of runs spans a ≡ Some t → Contains (files (drop w runs)) t.file
answer_named runs w [] a t after e = cc
answer_named runs w (s ∷ spans) a t after e =
    elim (covers_span (place_at a) s) as (λ b. (if b then run_told_at (runs_in runs s) a
    else answer_of runs spans a) ≡ Some t → Contains (files (drop w runs)) t.file) [
      | true ↦ λ h. span_named runs w s t.file (All-head (λ (s : Span). w ≤ s.start) s spans after)
          (run_named (runs_in runs s) a t h)
      | false ↦ λ h. answer_named runs w spans a t (All-tail (λ (s : Span). w ≤ s.start) s spans after) h
    ] (sym (answer-cons runs s spans a) ∙ e)

pub names_files : (live : ℕ → Bool) (s : RunSpans) (rows : List Row)
    → All (λ (x : Span). s.whole_runs ≤ x.start) (drop s.whole_spans s.spans.items) → Holds s (live_rows live rows)
    → NameFiles live rows (drop s.whole_runs (ended s.list))
names_files live s rows after holds a r lt e =
    answer_named (ended s.list) s.whole_runs (drop s.whole_spans s.spans.items) a (row_told r) after
    (holds.right a lt ∙ ap (option_map row_told) (of_live_rows live rows (place_at a) ∙ e))
