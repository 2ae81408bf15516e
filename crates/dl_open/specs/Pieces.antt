-- What reads of a section give, one piece after the other. No promise rests on how this is said.
-- damage: the byte that shows the damage of its stream, if it has some, where that is known; old, new: its bytes that are
-- left before and after, where they are known.
use Rattle.std.specs.Prelude.{◌≡◌, ◌≢◌, ◌⊎◌, ℕ, ◌+◌, ◌<◌, ◌≤◌, List, [], length, take, Option, Some, None, IfSome}
use Rattle.std.specs.Io.KnownBytes.{Consumes, IsAtEnd}
use Rattle.std.specs.declared.io.Error.{Error}
use Rattle.dl_memory.specs.Refusals.{IsRefused}
use Rattle.dl_open.specs.declared.section.Unread.{Unread}
use Rattle.dl_open.specs.declared.section.Unread.TheVariants.{Read, NoMemory}
use Rattle.dl_open.specs.declared.section.Piece.{Piece}
use Rattle.dl_open.specs.declared.section.Piece.TheVariants.{Bytes, End, Lost}

-- the stream is damaged, or isn't
abbrev pub IsDamaged : (damage : Option (Option ℕ)) → Type 0
IsDamaged damage = IfSome damage (λ at. at ≢ None)

abbrev pub IsWhole : (damage : Option (Option ℕ)) → Type 0
IsWhole damage = IfSome damage (λ at. at ≡ None)

-- so many bytes were read into the front of the buffer; or the stream is damaged
abbrev pub IsRead : (damage : Option (Option ℕ)) (old new : Option (List ℕ)) (buffer : List ℕ) → Option ℕ → Type 0
IsRead damage old new buffer None = IsDamaged damage
IsRead damage old new buffer (Some n) = (n ≤ length buffer) × Consumes old new (take n buffer)
    × (n ≡ 0 → 0 < length buffer → IsAtEnd new × IsWhole damage)

-- why it isn't read to its end: a read failed with such an error, or memory was refused for no more items than these
abbrev pub IsUnread : (refuses : ℕ → Type 0) (most : ℕ) (fails : Error → Type 0) → Unread → Type 0
IsUnread refuses most fails (Read error) = fails error
IsUnread refuses most fails NoMemory = IsRefused refuses most

-- a read failed with such an error
abbrev pub IsReadError : (fails : Error → Type 0) → Unread → Type 0
IsReadError fails (Read error) = fails error
IsReadError fails NoMemory = ⊥

-- the next bytes, of which there may be `room`, and then `left`; or the section has ended; or it is damaged, or too long
abbrev pub IsPiece : (damage : Option (Option ℕ)) (old new : Option (List ℕ)) (room left : ℕ) → Piece → Type 0
IsPiece damage old new room left (Bytes p) = (1 ≤ length p.now) × (length p.now + left ≡ room) × Consumes old new p.now
IsPiece damage old new room left End = Consumes old new [] × IsAtEnd new × IsWhole damage
IsPiece damage old new room left Lost = IsDamaged damage
    ⊎ ((p : List ℕ) × (room < length p) × Consumes old new p)
