-- How far a stream was read. b: its bytes. No promise rests on how this is said.
use Rattle.std.specs.Prelude.{◌≡◌, ◌⊎◌, ℕ, ◌+◌, ◌*◌, ◌-◌, ◌<◌, ◌≤◌, ◌^◌, nat_lt, List, ◌++◌, length, take, drop, Option}
use Rattle.std.specs.Prelude.{Some}
use Rattle.std.specs.Prelude.{Result, Ok, Err, None}
use Rattle.dl_elf.specs.declared.file.Range.{Range}
use Rattle.dl_elf.specs.Reader.{known_range, reader_left, reader_remaining}
use Rattle.dl_zlib.specs.Progress.{weight}
use Rattle.dl_zlib.specs.StreamStands.{StandsFor, waiting}
use Rattle.dl_file.specs.declared.read_fault.ReadFault.{ReadFault}
use Rattle.dl_file.specs.declared.read_fault.ReadFault.TheVariants.{DamagedStream}
use Rattle.dl_file.specs.declared.stream_reader.StreamReader.{StreamReader}
use Rattle.dl_file.specs.declared.stream_reader.Told.{Told}
use Rattle.dl_file.specs.declared.stream_reader.Progress.{Progress}
use Rattle.dl_file.specs.declared.stream_reader.Progress.TheVariants.{Onward, Ended}
use Rattle.dl_zlib.specs.Feeding.{Says}
use Rattle.dl_zlib.specs.declared.inflate.Event.{Event}
use Rattle.dl_file.specs.Inflating.{inflated, damage}
use Rattle.dl_file.specs.Faults.{IsAfter, IsDamage}

-- bytes of the piece that weren't fed yet
abbrev pub unfed : {S : Type 0} → StreamReader S → List ℕ
unfed r = take (r.filled - r.fed) (drop r.fed r.piece)

-- how much may come of the bytes that it holds, and of those that are left: each part of the stream lessens it
abbrev pub worth : {S : Type 0} → StreamReader S → ℕ
worth r = weight r.inflate + 40 * (r.filled - r.fed) + 41 * reader_left r.stream

-- these bytes were used, and this output was taken
pub record StandsAt {S : Type 0} (all_bytes : S → Option (List ℕ)) (told : Told) (r : StreamReader S)
    (b bytes gone : List ℕ) : Type 0 where
  pub rest : List ℕ
  pub ahead : reader_remaining all_bytes r.stream ≡ Some rest
  pub whole : b ≡ bytes ++ (unfed r ++ rest)
  pub stands : StandsFor r.inflate bytes gone
  pub given : r.given ≤ length (waiting r.inflate)
  pub left : r.left ≡ told.header.size - (length gone + r.given)
  pub over : r.is_over ≡ nat_lt told.header.size (length gone + r.given)
  pub few : length b ≤ told.section_size - told.header.stream_offset
  pub sized : told.section_size < 2 ^ 64

abbrev pub StandsIn : {S : Type 0} → (S → Option (List ℕ)) → Told → StreamReader S → List ℕ → Type 0
StandsIn all_bytes told r b = (bytes : List ℕ) × (gone : List ℕ) × StandsAt all_bytes told r b bytes gone

-- the bytes of the stream stand in the file at this place, and this is how far they were read
abbrev pub Follows : {S : Type 0} → (S → Option (List ℕ)) → S → Range → Told → StreamReader S → Type 0
Follows all_bytes source place told at = (b : List ℕ)
    → known_range (all_bytes source) place.offset place.size ≡ Some b → StandsIn all_bytes told at b

-- a piece was fed, and this came of it
abbrev pub IsFed : {S : Type 0} → (S → Option (List ℕ)) → Told → StreamReader S → List ℕ → Event → Type 0
IsFed all_bytes told r b event = (bytes : List ℕ) × (gone : List ℕ) × StandsAt all_bytes told r b bytes gone
    × Says bytes (gone ++ waiting r.inflate) event × (r.given ≡ 0)

-- no output waits that is to be given
abbrev pub AllGiven : {S : Type 0} → StreamReader S → Type 0
AllGiven r = (r.left ≡ 0) ⊎ (length (waiting r.inflate) ≤ r.given)

-- a piece was read, or the bytes end here
abbrev pub PieceIs : Told → (b bytes : List ℕ) → Result (Unit {0}) ReadFault → Type 0
PieceIs told b bytes (Err (DamagedStream at)) = (at ≡ told.section_size) × (b ≡ bytes)
PieceIs told b bytes other = Unit {0}

-- the bytes that are to come, `left` by what is told
abbrev pub to_come : Told → (b : List ℕ) → (left : ℕ) → List ℕ
to_come told b left = drop (told.header.size - left) (inflated told.header b)

-- why a part of the stream stops
abbrev pub StopsBy : Told → (b : List ℕ) → (left : ℕ) → ReadFault → Type 0
StopsBy told b left why = IsDamage (damage told.header told.section_size b) why × IsAfter (to_come told b left) why

-- what a part of the stream came to
abbrev pub ComesTo : Told → (b : List ℕ) → (left : ℕ) → Result Progress ReadFault → Type 0
ComesTo told b left (Ok Onward) = Unit {0}
ComesTo told b left (Ok Ended) = damage told.header told.section_size b ≡ None
ComesTo told b left (Err why) = StopsBy told b left why

-- these bytes come next
abbrev pub GivesNext : Told → (b : List ℕ) → (old new : ℕ) → List ℕ → Type 0
GivesNext told b old new next = to_come told b old ≡ next ++ to_come told b new

-- a read gave n bytes, or failed
abbrev pub NextIs : Told → (b : List ℕ) → (old new : ℕ) → Result ℕ ReadFault → List ℕ → Type 0
NextIs told b old new (Ok n) buffer = GivesNext told b old new (take n buffer)
    × (n ≡ 0 → 0 < length buffer → (damage told.header told.section_size b ≡ None) × (new ≡ 0))
NextIs told b old new (Err why) buffer = (new ≡ old) × StopsBy told b new why
