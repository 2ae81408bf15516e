-- What the call answers that finds the places of a line. s: the bytes of a section; keep_going: damaged units are gone around;
-- refuses: for how many items memory is refused. DWARF 5, section 6.2.2.
use Rattle.std.specs.Prelude.{◌≡◌, ◌≢◌, ℕ, Bool, true, false, cond, List, [], length, map, Option, Some, Err}
use Rattle.std.specs.Io.KnownBytes.{Consumes}
use Rattle.dl_buffers.specs.declared.record.FaultRecord.{FaultRecord}
use Rattle.dl_buffers.specs.declared.status.Status.{Status}
use Rattle.dl_buffers.specs.declared.status.Status.TheVariants as status
use Rattle.dl_buffers.specs.UnitCalls.{written_over}
use Rattle.dl_dirs.specs.Compilation.{directory_by}
use Rattle.dl_head.specs.declared.dialect.Dialect.{Dialect}
use Rattle.dl_lines.specs.declared.places.FoundPlaces.{FoundPlaces}
use Rattle.dl_lines.specs.declared.places.LinePlace.{LinePlace}
use Rattle.dl_lines.specs.declared.question.PlacesQuestion.{PlacesQuestion}
use Rattle.dl_lines.specs.FoundPlaces.{FindsPlaces, FindsPlacesAround}
use Rattle.dl_print.specs.declared.summary.Summary.{Summary}
use Rattle.dl_print.specs.ValueText.{Strings}
use Rattle.dl_sections.specs.declared.around.Survey.{Survey}
use Rattle.dl_sections.specs.declared.fault.RunFault.TheVariants as run
use Rattle.dl_sections.specs.declared.options.TheConstants.{SECTION_LIMIT}
use Rattle.dl_source_buffers.specs.declared.end.End.{End}
use Rattle.dl_source_buffers.specs.declared.end.End.TheVariants as ends
use Rattle.dl_source_buffers.specs.declared.line_places.PlaceRecord.{PlaceRecord}
use Rattle.dl_source_buffers.specs.Ends.{end_around, end_of}

-- 1 where a breakpoint at the entry of a function belongs there
abbrev pub place_record : LinePlace → PlaceRecord
place_record p = record {
  address = p.address;
  line = p.line;
  column = p.column;
  prologue_end = cond p.prologue_end 1 0;
}

-- the line is asked for in the whole section: each sequence counts, and paths stand as the section says them
pub record AsksFor (path : List ℕ) (line : ℕ) (exact : Bool) (q : PlacesQuestion) : Type 0 where
  pub wants_path : q.wanted.path.now ≡ path
  pub wants_line : q.wanted.line ≡ line
  pub says_exact : q.exact ≡ exact
  pub code : q.code ≡ Option.None
  pub directories : (unit : ℕ) → directory_by q.directories unit ≡ Option.None

-- the places that are found in s, and how its reading ends, as that of a reader that gives s; no read fails
abbrev pub IsFound : (refuses : ℕ → Type 0) → (keep_going : Bool) → Dialect → Strings → PlacesQuestion → (s : List ℕ)
    → List LinePlace → End → Type 0
IsFound refuses false dialect strings q s places end =
    (bytes : List ℕ) × (left : Option (List ℕ)) × Consumes (Some s) left bytes × ((found : FoundPlaces Summary)
    × FindsPlaces refuses dialect strings q SECTION_LIMIT bytes left found × (found.end ≢ Err run.Read)
    × (places ≡ found.places.items) × (end ≡ end_of found.end))
IsFound refuses true dialect strings q s places end =
    (bytes : List ℕ) × (left : Option (List ℕ)) × Consumes (Some s) left bytes × ((found : FoundPlaces Survey)
    × FindsPlacesAround refuses dialect strings q SECTION_LIMIT bytes left found × (found.end ≢ Err run.Read)
    × (places ≡ found.places.items) × (end ≡ end_around found.end))

-- of a room, a count and a fault, p, m and f before the call, and q, n and g after it, only what the status says is written
abbrev pub TellsPlaces : List LinePlace → End → (p q : List PlaceRecord) (m n : ℕ) (f g : FaultRecord) → Status → Type 0
TellsPlaces places end p q m n f g status.Done =
    (end ≡ ends.Whole) × (places ≢ []) × (q ≡ written_over p (map place_record places)) × (n ≡ length places) × (g ≡ f)
TellsPlaces places end p q m n f g status.NoAnswer = (end ≡ ends.Whole) × (places ≡ []) × (q ≡ p) × (n ≡ m) × (g ≡ f)
TellsPlaces places end p q m n f g status.Fault =
    (end ≡ ends.Fault g) × (q ≡ written_over p (map place_record places)) × (n ≡ length places)
TellsPlaces places end p q m n f g status.NoMemory = (end ≡ ends.NoMemory) × (q ≡ p) × (n ≡ m) × (g ≡ f)
TellsPlaces places end p q m n f g other = ⊥

-- `lines`
abbrev pub FindsLines : (refuses : ℕ → Type 0) → (keep_going : Bool) → Dialect → Strings → (path : List ℕ) (line : ℕ) (exact : Bool)
    (s : List ℕ) (p q : List PlaceRecord) (m n : ℕ) (f g : FaultRecord) → Status → Type 0
FindsLines refuses keep_going dialect strings path line exact s p q m n f g end =
    (question : PlacesQuestion) × AsksFor path line exact question × ((places : List LinePlace) × (ended : End)
    × IsFound refuses keep_going dialect strings question s places ended × TellsPlaces places ended p q m n f g end)
