-- What contracts see of a reader of a line section.
use Rattle.std.specs.Prelude.{ℕ, List, Option, None, Some, drop}
use Rattle.std.specs.Io.Cursor.{cursor_inner, cursor_position, cursor_remaining}
use Rattle.std.specs.declared.io.Error.{Error}
use Rattle.dl_elf.specs.declared.name.SectionName.{SectionName}
use Rattle.dl_file.specs.Faults.{FollowsBy, IsUndamaged, MayFailBy}
use Rattle.dl_file.specs.declared.read_fault.ReadFault.{ReadFault}
use Rattle.dl_file.specs.declared.line_reader.LineReader.{LineReader}
use Rattle.dl_file.specs.declared.line_reader.LineReader.TheVariants.{File, Held}
use Rattle.dl_file.specs.ContentReader.{content_damage, content_remaining, content_fault, stream_name, ContentFails}

-- the bytes that are left, where they are known; those that are held are
abbrev pub line_remaining : {S : Type 0} {g : _} → (S → Option (List ℕ)) → LineReader S g → Option (List ℕ)
line_remaining all_bytes (File reader) = content_remaining all_bytes reader
line_remaining all_bytes (Held bytes) = cursor_remaining (λ v. Some v.items) bytes

-- the bytes that are left of those that are held
abbrev pub line_held : {S : Type 0} {g : _} → LineReader S g → Option (List ℕ)
line_held (File reader) = None
line_held (Held bytes) = Some (drop (cursor_position bytes) (cursor_inner bytes).items)

-- the byte that shows the damage of its section, if it has some, where that is known; bytes that are held have none
abbrev pub line_damage : {S : Type 0} {g : _} → (S → Option (List ℕ)) → LineReader S g → Option (Option ℕ)
line_damage all_bytes (File reader) = content_damage all_bytes reader
line_damage all_bytes (Held bytes) = Some None

-- the section's name where it is compressed and inflated as it is read
abbrev pub line_stream : {S : Type 0} {g : _} → LineReader S g → Option SectionName
line_stream (File reader) = stream_name reader
line_stream (Held bytes) = None

-- why the last read failed, if it did
abbrev pub line_fault : {S : Type 0} {g : _} → LineReader S g → Option ReadFault
line_fault (File reader) = content_fault reader
line_fault (Held bytes) = None

-- a read of the file for it fails with this error; bytes that are held need none
abbrev pub LineReaderFails : {S : Type 0} {g : _} → (S → Option (List ℕ)) → (S → Error → Type 0) → LineReader S g
    → Error → Type 0
LineReaderFails all_bytes fails_with (File reader) error = ContentFails all_bytes fails_with reader error
LineReaderFails all_bytes fails_with (Held bytes) error = ⊥

-- what a reader has become by reads, of which the last so many failed
abbrev pub LineReaderFollows : {S : Type 0} {g : _} → (S → Option (List ℕ)) → (S → Error → Type 0) → (first : LineReader S g)
    → (failed : ℕ) → (now : LineReader S g) → Type 0
LineReaderFollows all_bytes fails_with =
    FollowsBy (line_damage all_bytes) line_fault (LineReaderFails all_bytes fails_with)

-- where its bytes are over: their stream is whole, where it is known
abbrev pub LineReaderOver : {S : Type 0} {g : _} → (S → Option (List ℕ)) → LineReader S g → Type 0
LineReaderOver all_bytes reader = IsUndamaged (line_damage all_bytes reader)

-- a read of it may fail
abbrev pub LineReaderMayFail : {S : Type 0} {g : _} → (S → Option (List ℕ)) → (S → Error → Type 0) → LineReader S g → Type 0
LineReaderMayFail all_bytes fails_with = MayFailBy (line_damage all_bytes) (LineReaderFails all_bytes fails_with)
