-- What the look-up of many addresses answers. s: the bytes of a section. DWARF 5, section 6.2.2.
use Rattle.std.specs.Prelude.{◌≡◌, ◌⊎◌, ⊤, ℕ, ◌+◌, ◌-◌, ◌^◌, List, [], ◌∷◌, length, slice_get, Option, Some, None}
use Rattle.std.specs.Prelude.{option_map, unwrap_or, Result, Ok, Err}
use Rattle.std.specs.Option.{option_map_or, option_or}
use Rattle.dl_head.specs.declared.dialect.Dialect.{Dialect}
use Rattle.dl_table.specs.declared.fault.FaultKind.{FaultKind}
use Rattle.dl_memory.specs.Refusals.{IsRefused}
use Rattle.dl_rows.specs.LineUnit.{unit_rows}
use Rattle.dl_look.specs.declared.place.Place.{Place}
use Rattle.dl_look.specs.Answer.{answer}
use Rattle.dl_sections.specs.declared.fault.RunFault.TheVariants as run
use Rattle.dl_sections.specs.Section.{HasUnits, EndsAs}
use Rattle.dl_buffers.specs.declared.finding.FoundRow.{FoundRow}
use Rattle.dl_buffers.specs.declared.record.FaultRecord.{FaultRecord}
use Rattle.dl_buffers.specs.declared.record.RowRecord.{RowRecord}
use Rattle.dl_buffers.specs.declared.status.Status.{Status}
use Rattle.dl_buffers.specs.declared.status.Status.TheVariants as status
use Rattle.dl_sections.specs.declared.in_memory.SectionStop.{SectionStop}
use Rattle.dl_sections.specs.declared.in_memory.SectionStop.TheVariants as stop
use Rattle.dl_buffers.specs.FindCalls.{place_at}
use Rattle.dl_buffers.specs.Records.{record_of, row_record}

-- at the first operation of its instruction
abbrev pub place_of_address : ℕ → Place
place_of_address a = place_at a 0

-- of units one after the other, the first at that offset: the answer for x of the first that has one, and its offset
abbrev pub found_from : Dialect → (offset : ℕ) → (units : List (List ℕ)) → Place → Option FoundRow
found_from dialect offset [] x = None
found_from dialect offset (u ∷ units) x =
    option_or (option_map (λ r. record { row = r; unit = offset }) (answer (unit_rows dialect u) x))
    (found_from dialect (offset + length u) units x)

-- of the units of a section
abbrev pub found_in : Dialect → (units : List (List ℕ)) → (address : ℕ) → Option FoundRow
found_in dialect units address = found_from dialect 0 units (place_of_address address)

-- what stands at a place where `old` stood: what is told, where something is
abbrev pub placed : {A : Type 0} → (told old : Option A) → Option A
placed told old = option_map (unwrap_or told) old

-- of rows, p before and q after, and n, offsets of units: for each address the row and the offset that are found, or the
-- row as it was and 2^64 - 1
pub record Answers (found : ℕ → Option FoundRow) (addresses : List ℕ) (p q : List RowRecord) (n : List ℕ) : Type 0 where
  pub rows : (i a : ℕ) → slice_get addresses i ≡ Some a
      → slice_get q i ≡ placed (option_map (λ f. row_record f.row) (found a)) (slice_get p i)
  pub units_are : (i a : ℕ) → slice_get addresses i ≡ Some a
      → slice_get n i ≡ Some (option_map_or (λ f. f.unit) (found a) (2 ^ 64 - 1))

-- the reading of s ends after units of which P holds, with all of it read or so
abbrev pub EndsWith : Dialect → (s : List ℕ) → (P : List (List ℕ) → Type 0) → Result ⊤ SectionStop → Type 0
EndsWith dialect s P (Ok done) = (units : List (List ℕ)) × HasUnits dialect s units [] × P units
EndsWith dialect s P (Err (stop.Damaged offset kind)) =
    (units : List (List ℕ)) × (b : List ℕ) × (back : List ℕ)
    × EndsAs dialect (length s) s (Some []) units b back (Err (run.Damage offset kind)) × P units
EndsWith dialect s P (Err stop.NoMemory) =
    (units : List (List ℕ)) × (b : List ℕ) × (back : List ℕ)
    × EndsAs dialect (length s) s (Some []) units b back (Err run.NoMemory) × P units

-- as many rows and offsets as addresses
abbrev pub Fit : (addresses : List ℕ) → List RowRecord → (m : List ℕ) → Type 0
Fit addresses p m = (length p ≡ length addresses) × (length m ≡ length addresses)

-- `find_all`: of rows, offsets of units and a fault, p, m and f before it, and q, n and g after it, only what the
-- status says is written. refuses: for how many items memory is refused
abbrev pub FindsAll : (refuses : ℕ → Type 0) → Dialect → (s addresses : List ℕ) → (p q : List RowRecord) (m n : List ℕ) (f g : FaultRecord)
    → Status → Type 0
FindsAll refuses dialect s addresses p q m n f g status.Done =
    Fit addresses p m × EndsWith dialect s (λ units. Answers (found_in dialect units) addresses p q n) (Ok tt) × (g ≡ f)
FindsAll refuses dialect s addresses p q m n f g status.Fault =
    (offset : ℕ) × (kind : FaultKind) × Fit addresses p m
    × EndsWith dialect s (λ units. Answers (found_in dialect units) addresses p q n) (Err (stop.Damaged offset kind))
    × (g ≡ record_of offset kind)
FindsAll refuses dialect s addresses p q m n f g status.NoMemory =
    Fit addresses p m × ((IsRefused refuses (length addresses + 1) × (q ≡ p) × (n ≡ m))
    ⊎ EndsWith dialect s (λ units. Answers (found_in dialect units) addresses p q n) (Err stop.NoMemory)) × (g ≡ f)
FindsAll refuses dialect s addresses p q m n f g status.NoRoom = (Fit addresses p m → ⊥) × (q ≡ p) × (n ≡ m) × (g ≡ f)
FindsAll refuses dialect s addresses p q m n f g other = ⊥
