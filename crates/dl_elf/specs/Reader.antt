-- What contracts see of a reader of a section's bytes.
use Rattle.std.specs.Prelude.{◌≡◌, ◌⊎◌, ◌<◌, ◌+◌, ℕ, List, length, take, drop, Option, option_map, Result, Ok, Err}
use Rattle.std.specs.IoError.{error_kind}
use Rattle.std.specs.declared.io.ErrorKind.TheVariants.{UnexpectedEof}
use Rattle.dl_elf.specs.Source.{ForBytes}
use Rattle.std.specs.declared.io.Error.{Error}
use Rattle.dl_elf.specs.declared.reader.SectionReader.{SectionReader}

-- this many of the known bytes, from the offset on
abbrev pub known_range : Option (List ℕ) → (offset size : ℕ) → Option (List ℕ)
known_range known offset size = option_map (λ f. take size (drop offset f)) known

-- the bytes that are left, where the file's are known
abbrev pub reader_remaining : {S : Type 0} → (S → Option (List ℕ)) → SectionReader S → Option (List ℕ)
reader_remaining all_bytes r = known_range (all_bytes r.source.now) r.offset r.left

-- how many bytes are left, be they known or not
abbrev pub reader_left : {S : Type 0} → SectionReader S → ℕ
reader_left r = r.left

-- a read takes as many bytes as it gives; none where it fails
abbrev pub Takes : {E : Type 0} → (old new : ℕ) → Result ℕ E → Type 0
Takes old new (Ok n) = new + n ≡ old
Takes old new (Err error) = new ≡ old

-- the error of the last read, where it failed
abbrev pub reader_error : {S : Type 0} → SectionReader S → Option Error
reader_error r = r.error

-- the file ends before this range does
abbrev pub EndsEarly : (known : Option (List ℕ)) → (offset size : ℕ) → Error → Type 0
EndsEarly known offset size error =
    (error_kind error ≡ UnexpectedEof) × (0 < size) × ForBytes known (λ f. length f < offset + size)

-- a read of this range of a source fails with this error: it is one of the source, or the file ends early
abbrev pub RangeFails : {S : Type 0} → (S → Option (List ℕ)) → (S → Error → Type 0) → S → (offset size : ℕ) → Error → Type 0
RangeFails all_bytes fails_with source offset size error =
    fails_with source error ⊎ EndsEarly (all_bytes source) offset size error

-- a read of the bytes that are left fails with this error
abbrev pub ReaderFails : {S : Type 0} → (S → Option (List ℕ)) → (S → Error → Type 0) → SectionReader S → Error → Type 0
ReaderFails all_bytes fails_with r error = RangeFails all_bytes fails_with r.source.now r.offset r.left error
