-- What the calls answer that go on after damaged units. s: the bytes of a section. DWARF 5, section 6.2.4.
use Rattle.std.specs.Prelude.{◌≡◌, ◌⊎◌, ℕ, ◌+◌, Bool, true, false, List, [], ◌∷◌, ◌++◌, length, Option, Some, None}
use Rattle.std.specs.Prelude.{option_map, Result, Ok, Err}
use Rattle.std.specs.Option.{option_or}
use Rattle.dl_head.specs.declared.dialect.Dialect.{Dialect}
use Rattle.dl_memory.specs.Refusals.{IsRefused}
use Rattle.dl_rows.specs.LineUnit.{unit_rows}
use Rattle.dl_look.specs.declared.place.Place.{Place}
use Rattle.dl_look.specs.Answer.{answer}
use Rattle.dl_sections.specs.declared.around.DamagedUnits.{DamagedUnits}
use Rattle.dl_sections.specs.declared.around.Survey.{Survey}
use Rattle.dl_sections.specs.declared.fault.RunFault.{RunFault}
use Rattle.dl_sections.specs.declared.fault.RunFault.TheVariants as run
use Rattle.dl_sections.specs.Around.{Block, whole, damaged, Rest, EndsAround}
use Rattle.dl_sections.specs.AroundCommands.{how_many}
use Rattle.dl_buffers.specs.declared.finding.FoundRow.{FoundRow}
use Rattle.dl_buffers.specs.declared.record.Counts.{Counts}
use Rattle.dl_buffers.specs.declared.record.FaultRecord.{FaultRecord}
use Rattle.dl_buffers.specs.declared.record.RowRecord.{RowRecord}
use Rattle.dl_buffers.specs.declared.status.Status.{Status}
use Rattle.dl_buffers.specs.declared.status.Status.TheVariants as status
use Rattle.dl_buffers.specs.AllCalls.{Answers, FindsAll, Fit, place_of_address}
use Rattle.dl_buffers.specs.Calls.{Checks}
use Rattle.dl_buffers.specs.Records.{counts_of, record_of}

-- the reading of s ends so, as that of a reader that gave these bytes, and then its end, with no limit below their number
abbrev pub EndsAfter : Dialect → (s : List ℕ) → List Block → Rest → Result Survey RunFault → Type 0
EndsAfter dialect s blocks rest result = EndsAround dialect (length s) s (Some []) blocks rest result

-- s is read to its end, with these damaged units, and P holds of its blocks
abbrev pub IsReadWith : Dialect → (s : List ℕ) → (P : List Block → Type 0) → Option DamagedUnits → Type 0
IsReadWith dialect s P units =
    (blocks : List Block) × (rest : Rest) × (survey : Survey) × EndsAfter dialect s blocks rest (Ok survey)
    × (survey.damaged ≡ units) × P blocks

-- s is read to a header that wants memory, and P holds of the blocks before it
abbrev pub IsRefusedWith : Dialect → (s : List ℕ) → (P : List Block → Type 0) → Type 0
IsRefusedWith dialect s P =
    (blocks : List Block) × (rest : Rest) × EndsAfter dialect s blocks rest (Err run.NoMemory) × P blocks

-- ---- counts

-- what the whole units come to, and how many are damaged
abbrev pub counts_around : Survey → Counts
counts_around survey = counts_of survey.summary (how_many survey.damaged)

-- `check`, where it goes on after damaged units: of c and f, the counts and the fault before it, and d and g, those after
-- it, only what the status says is written
abbrev pub ChecksAround : Dialect → (s : List ℕ) → (c d : Counts) (f g : FaultRecord) → Status → Type 0
ChecksAround dialect s c d f g status.Done =
    (blocks : List Block) × (rest : Rest) × (survey : Survey) × EndsAfter dialect s blocks rest (Ok survey)
    × (survey.damaged ≡ None) × (d ≡ counts_around survey) × (g ≡ f)
ChecksAround dialect s c d f g status.Fault =
    (blocks : List Block) × (rest : Rest) × (survey : Survey) × (units : DamagedUnits)
    × EndsAfter dialect s blocks rest (Ok survey) × (survey.damaged ≡ Some units) × (d ≡ counts_around survey)
    × (g ≡ record_of units.first.offset units.first.kind)
ChecksAround dialect s c d f g status.NoMemory =
    (blocks : List Block) × (rest : Rest) × EndsAfter dialect s blocks rest (Err run.NoMemory) × (d ≡ c) × (g ≡ f)
ChecksAround dialect s c d f g other = ⊥

-- `check`, by whether it goes on after damaged units
abbrev pub ChecksBy : Bool → Dialect → (s : List ℕ) → (c d : Counts) (f g : FaultRecord) → Status → Type 0
ChecksBy true = ChecksAround
ChecksBy false = Checks

-- ---- the look-up of many addresses

-- of blocks one after the other, the first at that offset: the answer for x of the first whole unit that has one, and its
-- offset
abbrev pub found_after : Dialect → (offset : ℕ) → List Block → Place → Option FoundRow
found_after dialect offset [] x = None
found_after dialect offset (whole u ∷ blocks) x =
    option_or (option_map (λ r. record { row = r; unit = offset }) (answer (unit_rows dialect u) x))
    (found_after dialect (offset + length u) blocks x)
found_after dialect offset (damaged front back at kind ∷ blocks) x =
    found_after dialect (offset + length (front ++ back)) blocks x

-- of the blocks of a section
abbrev pub found_around : Dialect → List Block → (address : ℕ) → Option FoundRow
found_around dialect blocks address = found_after dialect 0 blocks (place_of_address address)

-- `find_all`, where it goes on after damaged units: of rows, offsets of units and a fault, p, m and f before it, and q, n
-- and g after it, only what the status says is written. refuses: for how many items memory is refused
abbrev pub FindsAllAround : (refuses : ℕ → Type 0) → Dialect → (s addresses : List ℕ) → (p q : List RowRecord) (m n : List ℕ)
    (f g : FaultRecord) → Status → Type 0
FindsAllAround refuses dialect s addresses p q m n f g status.Done =
    Fit addresses p m × IsReadWith dialect s (λ blocks. Answers (found_around dialect blocks) addresses p q n) None
    × (g ≡ f)
FindsAllAround refuses dialect s addresses p q m n f g status.Fault =
    (units : DamagedUnits) × Fit addresses p m
    × IsReadWith dialect s (λ blocks. Answers (found_around dialect blocks) addresses p q n) (Some units)
    × (g ≡ record_of units.first.offset units.first.kind)
FindsAllAround refuses dialect s addresses p q m n f g status.NoMemory =
    Fit addresses p m × ((IsRefused refuses (length addresses + 1) × (q ≡ p) × (n ≡ m))
    ⊎ IsRefusedWith dialect s (λ blocks. Answers (found_around dialect blocks) addresses p q n)) × (g ≡ f)
FindsAllAround refuses dialect s addresses p q m n f g status.NoRoom =
    (Fit addresses p m → ⊥) × (q ≡ p) × (n ≡ m) × (g ≡ f)
FindsAllAround refuses dialect s addresses p q m n f g other = ⊥

-- `find_all`, by whether it goes on after damaged units
abbrev pub FindsAllBy : (refuses : ℕ → Type 0) → Bool → Dialect → (s addresses : List ℕ) → (p q : List RowRecord) (m n : List ℕ)
    (f g : FaultRecord) → Status → Type 0
FindsAllBy refuses true = FindsAllAround refuses
FindsAllBy refuses false = FindsAll refuses
