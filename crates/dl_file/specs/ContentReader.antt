-- What contracts see of a reader of a section's bytes, be they compressed or not.
use Rattle.std.specs.Prelude.{◌≡◌, ℕ, ◌-◌, ◌<◌, List, length, drop, Option, Some, None, option_map}
use Rattle.std.specs.Prelude.{IfSome, Result, Ok, Err}
use Rattle.std.specs.declared.io.Error.{Error}
use Rattle.dl_elf.specs.declared.name.SectionName.{SectionName}
use Rattle.dl_elf.specs.declared.compression.CompressionHeader.{CompressionHeader}
use Rattle.dl_elf.specs.Reader.{known_range, reader_remaining, reader_error, ReaderFails}
use Rattle.dl_file.specs.Faults.{FollowsBy, IsAfter, IsDamage, IsUndamaged, MayFailBy}
use Rattle.dl_file.specs.Inflating.{inflated, damage}
use Rattle.dl_file.specs.declared.inflated_reader.InflatedReader.{InflatedReader}
use Rattle.dl_file.specs.declared.read_fault.ReadFault.{ReadFault}
use Rattle.dl_file.specs.declared.read_fault.ReadFault.TheVariants.{Read}
use Rattle.dl_file.specs.declared.content_reader.ContentReader.{ContentReader}
use Rattle.dl_file.specs.declared.content_reader.ContentReader.TheVariants.{Plain, Inflated}

-- ---- a section that is inflated

-- its name
abbrev pub inflated_name : {S : Type 0} {g : _} → InflatedReader S g → SectionName
inflated_name r = r.name

-- why the last read of it failed, if it did
abbrev pub stream_fault : {S : Type 0} {g : _} → InflatedReader S g → Option ReadFault
stream_fault r = r.fault

-- the stream and what follows it in the section, where the file's bytes are known
abbrev pub stream_bytes : {S : Type 0} {g : _} → (S → Option (List ℕ)) → InflatedReader S g → Option (List ℕ)
stream_bytes all_bytes r = known_range (all_bytes r.source.now) r.place.offset r.place.size

-- how many bytes are to come, by what its header tells
abbrev pub inflated_left : {S : Type 0} {g : _} → InflatedReader S g → ℕ
inflated_left r = r.at.left

-- what a stream inflates to, but for the bytes that were given; `left` are to come by what the header tells
abbrev pub left_of : CompressionHeader → (stream : Option (List ℕ)) → (left : ℕ) → Option (List ℕ)
left_of header stream left = option_map (λ b. drop (header.size - left) (inflated header b)) stream

abbrev pub inflated_remaining : {S : Type 0} {g : _} → (S → Option (List ℕ)) → InflatedReader S g → Option (List ℕ)
inflated_remaining all_bytes r = left_of r.told.header (stream_bytes all_bytes r) r.at.left

-- the byte of the section that shows its damage, if it has some, where the file's bytes are known
abbrev pub inflated_damage : {S : Type 0} {g : _} → (S → Option (List ℕ)) → InflatedReader S g → Option (Option ℕ)
inflated_damage all_bytes r = option_map (damage r.told.header r.told.section_size) (stream_bytes all_bytes r)

-- a read of the file for it fails with this error
abbrev pub StreamFails : {S : Type 0} {g : _} → (S → Option (List ℕ)) → (S → Error → Type 0) → InflatedReader S g → Error
    → Type 0
StreamFails all_bytes fails_with r error = ReaderFails all_bytes fails_with r.at.stream error

-- a read says that the bytes end only where there is no damage, and tells damage only where it is, once no bytes are left
abbrev pub EndsBy : (damage : Option (Option ℕ)) → (left : Option (List ℕ)) → (fault : Option ReadFault) → Result ℕ Error
    → (buffer : List ℕ) → Type 0
EndsBy known left fault (Ok n) buffer = n ≡ 0 → 0 < length buffer → IsUndamaged known
EndsBy known left fault (Err error) buffer = IfSome known (λ at. IfSome fault (IsDamage at))
    × IfSome left (λ bytes. IfSome fault (IsAfter bytes))

-- ---- a section

-- the bytes that are left, where the file's are known; of one that is compressed those before the damage
abbrev pub content_remaining : {S : Type 0} {g : _} → (S → Option (List ℕ)) → ContentReader S g → Option (List ℕ)
content_remaining all_bytes (Plain reader) = reader_remaining all_bytes reader
content_remaining all_bytes (Inflated reader) = inflated_remaining all_bytes reader.value

-- the byte that shows the damage of a section, if it has some, where that is known; one that isn't compressed has none
abbrev pub content_damage : {S : Type 0} {g : _} → (S → Option (List ℕ)) → ContentReader S g → Option (Option ℕ)
content_damage all_bytes (Plain reader) = Some None
content_damage all_bytes (Inflated reader) = inflated_damage all_bytes reader.value

-- the name of the section where it is compressed
abbrev pub stream_name : {S : Type 0} {g : _} → ContentReader S g → Option SectionName
stream_name (Plain reader) = None
stream_name (Inflated reader) = Some (inflated_name reader.value)

-- why the last read failed, if it did
abbrev pub content_fault : {S : Type 0} {g : _} → ContentReader S g → Option ReadFault
content_fault (Plain reader) = option_map Read (reader_error reader)
content_fault (Inflated reader) = stream_fault reader.value

-- a read of the file for it fails with this error: of a section that is compressed, one of its stream
abbrev pub ContentFails : {S : Type 0} {g : _} → (S → Option (List ℕ)) → (S → Error → Type 0) → ContentReader S g
    → Error
    → Type 0
ContentFails all_bytes fails_with (Plain reader) error = ReaderFails all_bytes fails_with reader error
ContentFails all_bytes fails_with (Inflated reader) error = StreamFails all_bytes fails_with reader.value error

-- what a reader has become by reads, of which the last so many failed
abbrev pub ContentFollows : {S : Type 0} {g : _} → (S → Option (List ℕ)) → (S → Error → Type 0)
    → (first : ContentReader S g) → (failed : ℕ) → (now : ContentReader S g) → Type 0
ContentFollows all_bytes fails_with =
    FollowsBy (content_damage all_bytes) content_fault (ContentFails all_bytes fails_with)

-- where its bytes are over: their stream is whole, where it is known
abbrev pub ContentOver : {S : Type 0} {g : _} → (S → Option (List ℕ)) → ContentReader S g → Type 0
ContentOver all_bytes reader = IsUndamaged (content_damage all_bytes reader)

-- a read of it may fail
abbrev pub ContentMayFail : {S : Type 0} {g : _} → (S → Option (List ℕ)) → (S → Error → Type 0) → ContentReader S g
    → Type 0
ContentMayFail all_bytes fails_with = MayFailBy (content_damage all_bytes) (ContentFails all_bytes fails_with)
