-- Visits that a visitor is told one after the other.
use Rattle.dl_sections.proofs.Names.{◌++◌, ◌∷◌, ◌≡◌, [], append_assoc, Err, Flow, List, MatchResult, of_end, of_item, Ok}
use Rattle.dl_sections.proofs.Names.{Option, refl, Result, Row, RunFault, StopsIn, Story, Visit, visits, ℕ}
use Rattle.dl_sections.proofs.Names.{append-nil, map, ℕ}
use Rattle.dl_rows.specs.Items.{a_byte, a_row}
use Rattle.dl_sections.specs.RowsTold.{rows_after}
use Rattle.dl_sections.specs.Section.{of_damage}
use Rattle.dl_sections.specs.Visiting.{GoesOn}

module _ {S : Type 0} (story : Story S) (first new : S) (start now : Option (List ℕ)) where
  pub stops_before : (visits more others : List Visit) (f : RunFault) → StopsIn story first new start now visits more f
      → StopsIn story first new start now visits (more ++ others) f
  stops_before visits more others f s =
      (s.0, s.1 ++ others, rw s.2 (append_assoc s.0 s.1 others), s.3)

  pub stops_after : (visits more others : List Visit) (f : RunFault)
      → StopsIn story first new start now (visits ++ more) others f
      → StopsIn story first new start now visits (more ++ others) f
  stops_after visits more others f s = (
    more ++ s.0,
    s.1,
    rw s.2 (simp append_assoc),
    rw append_assoc at s.3,
  )

  pub ends_after : (visits more others : List Visit) (result : Result Flow RunFault)
      → MatchResult result (GoesOn story first new start now ((visits ++ more) ++ others))
      (StopsIn story first new start now (visits ++ more) others)
      → MatchResult result (GoesOn story first new start now (visits ++ (more ++ others)))
      (StopsIn story first new start now visits (more ++ others))
  ends_after visits more others (Ok flow) goes =
      rw append_assoc at goes
  ends_after visits more others (Err f) stops = stops_after visits more others f stops

-- bytes of a program, one after the other
pub bytes_by_one : (Holds : List Visit → Type 0)
    → ((visits : List Visit) (x : ℕ) → Holds visits → Holds (visits ++ of_item (a_byte x) ∷ []))
    → (visits : List Visit) (bytes : List ℕ) → Holds visits → Holds (visits ++ map of_item (map a_byte bytes))
bytes_by_one Holds one visits [] holds = rw append-nil holds
bytes_by_one Holds one visits (x ∷ bytes) holds =
    rw append_assoc at
    (bytes_by_one Holds one (visits ++ of_item (a_byte x) ∷ []) bytes (one visits x holds))

-- the rows that visits tell
pub rows_after-append : (rows : List Row) (a b : List Visit)
    → rows_after rows (a ++ b) ≡ rows_after (rows_after rows a) b
rows_after-append rows [] b = refl
rows_after-append rows (of_item (a_row header r) ∷ a) b = rows_after-append (rows ++ r ∷ []) a b
rows_after-append rows (of_end h ∷ a) b = rows_after-append [] a b
rows_after-append rows (of_damage unit n kind ∷ a) b = rows_after-append [] a b
rows_after-append rows (v ∷ a) b = rows_after-append rows a b
