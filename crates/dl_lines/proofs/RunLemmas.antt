-- The first statements of runs of rows.
use Rattle.std.proofs.Common.{◌≡◌, Bool, true, false, List, [], ◌∷◌, ◌++◌, refl, sym, ap, ◌∙◌, append_assoc, append-nil, arith}
use Rattle.std.specs.Prelude.{not, ◌&&◌, if◌then◌else◌, reverse}
use Rattle.std.specs.List.{list_any}
use Rattle.dl_rows.specs.declared.row.Row.{Row}
use Rattle.dl_lines.specs.Places.{is_of_run, is_place, places_after, run_of}
use Rattle.dl_lines.specs.Runs.{has_statement}

pub any_is : (r : Row) (rows : List Row)
    → list_any (λ s. s.is_stmt) (run_of r rows) ≡ has_statement r.file r.line rows
any_is r [] = refl
any_is r (s ∷ rows) = by (is_of_run r s) s.is_stmt refl (any_is r rows) where
  by : (of_run is_stmt : Bool) → s.is_stmt ≡ is_stmt
      → list_any (λ (s : Row). s.is_stmt) (run_of r rows) ≡ has_statement r.file r.line rows
      → list_any (λ (s : Row). s.is_stmt) (if of_run then s ∷ run_of r rows else [])
      ≡ (if of_run then (if s.is_stmt then true else has_statement r.file r.line rows) else false)
  by true true e more = grind (arith, e)
  by true false e more = grind (arith, e, more)
  by false is_stmt e more = refl

pub place_is : (rows : List Row) (r : Row)
    → is_place rows r ≡ (r.is_stmt && (not r.end_sequence && not (has_statement r.file r.line (reverse rows))))
place_is rows r = ap (λ (b : Bool). r.is_stmt && (not r.end_sequence && not b)) (any_is r (reverse rows))

-- one row more
pub places_more : (before rows : List Row) (r : Row)
    → places_after before (rows ++ r ∷ [])
    ≡ places_after before rows ++ (if is_place (before ++ rows) r then r ∷ [] else [])
places_more before [] r =
    append-nil (if is_place before r then r ∷ [] else [])
    ∙ ap (λ (l : List Row). if is_place l r then r ∷ [] else []) (sym (append-nil before))
places_more before (s ∷ rows) r =
    let first = if is_place before s then s ∷ [] else [] in
    ap (λ (l : List Row). first ++ l) (places_more (before ++ s ∷ []) rows r
    ∙ ap (λ (l : List Row). places_after (before ++ s ∷ []) rows ++ (if is_place l r then r ∷ [] else []))
    (append_assoc before (s ∷ []) rows))
    ∙ sym (append_assoc first (places_after (before ++ s ∷ []) rows)
    (if is_place (before ++ s ∷ rows) r then r ∷ [] else []))
