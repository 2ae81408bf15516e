-- The forms of answers, from one part to the whole.
use Rattle.std.proofs.Common.{◌≡◌, ℕ, List, Option, None, Some, Result, Ok, Err, refl, sym, ap}
use Rattle.dl_elf.specs.declared.fault.ElfFault.{ElfFault}
use Rattle.dl_elf.specs.declared.fault.ElfFault.TheVariants as fault
use Rattle.dl_elf.specs.declared.fault.Part.TheVariants as part
use Rattle.std.specs.declared.io.Error.{Error}
use Rattle.dl_elf.specs.declared.file.Elf.{Elf}
use Rattle.dl_elf.specs.declared.name.SectionName.{SectionName}
use Rattle.dl_elf.specs.Answers.{IfRead}
use Rattle.dl_reloc.specs.declared.apply.RelocationFault.{RelocationFault}
use Rattle.dl_reloc.specs.declared.apply.RelocationFault.TheVariants.{UnknownType, PlaceOutside, SymbolOutside, Damaged}
use Rattle.dl_file.specs.declared.content_reader.ContentReader.{ContentReader}
use Rattle.dl_file.specs.declared.content_reader.Readable.{Readable}
use Rattle.dl_file.specs.declared.line_reader.LineReader.TheVariants.{File}
use Rattle.dl_file.specs.LineTable.{Content, Gives, GivesLine, Inflated, IsLine, Plain, content_of, line_by}
use Rattle.dl_file.proofs.ListedLemmas.{none_listed}
use Rattle.dl_file.proofs.RelocationLemmas.{line_alone}
use Rattle.std.specs.Option.{option_map}
use Rattle.std.specs.Result.{result_err}
use Rattle.dl_file.specs.declared.read_fault.ReadFault.TheVariants.{Read}
use Rattle.dl_file.specs.Faults.{Tells}
use Rattle.dl_file.specs.ContentReader.{EndsBy}
use Rattle.dl_file.specs.Relocations.{fault_of, relocation_sections, relocations_of}
use Rattle.dl_file.specs.Answering.{IsCounted, IsHad, IsMade, OpensLine}

-- a fault that is the answer
pub fault_is_made : (answer : Result (List ℕ) ElfFault) (made : List ℕ) (why : ElfFault) → answer ≡ Err why
    → IsMade {A = Unit {0}} answer made (Err why)
fault_is_made answer made (fault.Read error) is = tt
fault_is_made answer made fault.NoMemory is = tt
fault_is_made answer made other is = is

-- the fault of a relocation isn't that of a read
pub fault_unread : (Fails : Error → Type 0) (e : Elf) (name : SectionName) (why : RelocationFault)
    → IfRead {A = Unit {0}} Fails (Err (fault_of e name why))
fault_unread Fails e name (UnknownType n) = tt
fault_unread Fails e name PlaceOutside = tt
fault_unread Fails e name SymbolOutside = tt
fault_unread Fails e name Damaged = tt

-- the fault of a part is that of the whole
pub fault_made : (answer whole : Result (List ℕ) ElfFault) (made made' : List ℕ) (why : ElfFault)
    → (answer ≡ Err why → whole ≡ Err why) → IsMade {A = Unit {0}} answer made (Err why)
    → IsMade {A = Unit {0}} whole made' (Err why)
fault_made answer whole made made' (fault.Read error) told is = tt
fault_made answer whole made made' fault.NoMemory told is = tt
fault_made answer whole made made' other told is = told is

-- the same of a count, which a section header that isn't there has not
pub fault_counted : (number whole : Option ℕ) (why : ElfFault)
    → (◌≡◌ {A = Option ℕ} number None → ◌≡◌ {A = Option ℕ} whole None) → IsCounted number (Err why)
    → IsCounted whole (Err why)
fault_counted number whole (fault.Read error) told is = tt
fault_counted number whole (fault.Damaged part.SectionHeaders) told is = told is
fault_counted number whole other told is = absurd is

-- ---- the line section

-- a reader of its bytes is one of a line section
line_of : {S : Type 0} {g : _} (all_bytes : S → Option (List ℕ)) (fails_with : S → Error → Type 0) (fails : Error → Type 0)
    (reader : ContentReader S g) (content : Content) → Gives all_bytes fails_with fails reader content
    → GivesLine all_bytes fails_with fails (File reader) content
line_of all_bytes fails_with fails reader (Plain bytes) gives = gives
line_of all_bytes fails_with fails reader (Inflated name bytes damage) gives = gives

-- it has no relocations
pub opened_line : {S : Type 0} {g : _} (all_bytes : S → Option (List ℕ)) (fails_with : S → Error → Type 0)
    (fails : Error → Type 0) (e : Elf) (f : List ℕ) (line : Readable) (Memory : Type 0) (reader : ContentReader S g)
    → relocations_of e f line.section.number ≡ Some 0 → Gives all_bytes fails_with fails reader (content_of f line)
    → OpensLine all_bytes fails_with fails (IsLine e f line) Memory (Ok (File reader))
opened_line all_bytes fails_with fails e f line Memory reader none gives = (
  content_of f line,
  sym (line_alone e f line.section (content_of f line) none),
  line_of all_bytes fails_with fails reader (content_of f line) gives,
)

-- it can't be told how many it has
pub uncounted_opens : {S : Type 0} (g : _) (all_bytes : S → Option (List ℕ)) (fails_with : S → Error → Type 0)
    (fails : Error → Type 0) (e : Elf) (f : List ℕ) (line : Readable) (Memory : Type 0) (why : ElfFault)
    → IsCounted (relocations_of e f line.section.number) (Err why)
    → OpensLine {g = g} all_bytes fails_with fails (IsLine e f line) Memory (Err why)
uncounted_opens g all_bytes fails_with fails e f line Memory (fault.Read error) is = tt
uncounted_opens g all_bytes fails_with fails e f line Memory (fault.Damaged part.SectionHeaders) is =
    sym (ap (line_by e f line.section (content_of f line)) (none_listed (relocation_sections e f line.section.number) is))
uncounted_opens g all_bytes fails_with fails e f line Memory other is = absurd is

-- it has some, and its bytes can't be had
pub unread_opens : {S : Type 0} (g : _) (all_bytes : S → Option (List ℕ)) (fails_with : S → Error → Type 0)
    (fails : Error → Type 0) (IsAnswer : Result Content ElfFault → Type 0) (Memory : Type 0)
    (answer : Result (List ℕ) ElfFault) (why : ElfFault) → Memory
    → ((first : ElfFault) → answer ≡ Err first → IsAnswer (Err first)) → IsHad answer (Err why)
    → OpensLine {g = g} all_bytes fails_with fails IsAnswer Memory (Err why)
unread_opens g all_bytes fails_with fails IsAnswer Memory answer (fault.Read error) memory is had = tt
unread_opens g all_bytes fails_with fails IsAnswer Memory answer fault.NoMemory memory is had = memory
unread_opens g all_bytes fails_with fails IsAnswer Memory answer other memory is had = is other had

-- or its relocations can't be applied
pub unmade_opens : {S : Type 0} (g : _) (all_bytes : S → Option (List ℕ)) (fails_with : S → Error → Type 0)
    (fails : Error → Type 0) (IsAnswer : Result Content ElfFault → Type 0) (Memory : Type 0)
    (answer : Result (List ℕ) ElfFault) (made : List ℕ) (why : ElfFault) → Memory
    → ((first : ElfFault) → answer ≡ Err first → IsAnswer (Err first)) → IsMade {A = Unit {0}} answer made (Err why)
    → OpensLine {g = g} all_bytes fails_with fails IsAnswer Memory (Err why)
unmade_opens g all_bytes fails_with fails IsAnswer Memory answer made (fault.Read error) memory is made' = tt
unmade_opens g all_bytes fails_with fails IsAnswer Memory answer made fault.NoMemory memory is made' = memory
unmade_opens g all_bytes fails_with fails IsAnswer Memory answer made other memory is made' = is other made'

-- ---- why a read failed

pub plain_tells : {A : Type 0} (error : Option Error) (result : Result A Error) → error ≡ result_err result
    → Tells (option_map Read (error)) result
plain_tells error (Ok n) same = ap (option_map Read) same
plain_tells error (Err why) same = (Read why, ap (option_map Read) same, refl)

-- what isn't compressed has no damage
pub plain_ends : (left : Option (List ℕ)) (error : Option Error) (result : Result ℕ Error) (buffer : List ℕ)
    → EndsBy (Some None) left (option_map Read error) result buffer
plain_ends left error (Ok n) buffer = λ none room. refl
plain_ends None None (Err why) buffer = (tt, tt)
plain_ends None (Some error) (Err why) buffer = (tt, tt)
plain_ends (Some bytes) None (Err why) buffer = (tt, tt)
plain_ends (Some bytes) (Some error) (Err why) buffer = (tt, tt)
