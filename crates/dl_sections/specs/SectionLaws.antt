-- Laws of the definitions of sections. Each holds in every dialect, which is the same throughout a law. DWARF 5,
-- section 6.2.4.
use Rattle.std.specs.Prelude.{◌≡◌, ◌≢◌, ℕ, Bool, true, List, Option, Result, Err, ◌++◌}
use Rattle.std.specs.Io.KnownBytes.{Appends}
use Rattle.dl_head.specs.declared.dialect.Dialect.{Dialect}
use Rattle.dl_field.specs.HeaderData.{HeaderData}
use Rattle.dl_rows.specs.declared.row.Row.{Row}
use Rattle.dl_look.specs.declared.place.Place.{Place}
use Rattle.dl_sections.specs.declared.fault.RunFault.{RunFault}
use Rattle.dl_sections.specs.declared.fault.RunFault.TheVariants as fault
use Rattle.dl_sections.specs.declared.passing_over.PassedOver.{PassedOver}
use Rattle.dl_print.specs.declared.summary.Summary.{Summary}
use Rattle.dl_dirs.specs.declared.compilation.CompilationDirectories.{CompilationDirectories}
use Rattle.dl_dirs.specs.Compilation.{directory_by}
use Rattle.dl_sections.specs.Commands.{Checks, Dumps, IsFound, Finds, Copies, CopiesTo5}
use Rattle.dl_sections.specs.PassedOver.{PassesOver}
use Rattle.dl_sections.specs.RunOutput.{TellsOut}
use Rattle.dl_print.specs.ValueText.{Strings}
use Rattle.dl_sections.specs.SectionText.{DumpStyle}
use Rattle.dl_sections.specs.Section.{Visit, HasUnits, NoUnitBegins, EndsAs, section_visits}

-- bytes are cut into units, up to bytes that no unit begins, in one way alone
abbrev pub OneCut : Type 0
OneCut =
    (dialect : Dialect) (s : List ℕ) (units units2 : List (List ℕ)) (rest rest2 : List ℕ)
    → HasUnits dialect s units rest → NoUnitBegins dialect rest
    → HasUnits dialect s units2 rest2 → NoUnitBegins dialect rest2 → (units ≡ units2) × (rest ≡ rest2)

-- an answer for which neither memory nor input nor output is the reason
abbrev pub IsOfBytes : {A : Type 0} → Result A RunFault → Type 0
IsOfBytes (Err fault.NoMemory) = ⊥
IsOfBytes (Err fault.Read) = ⊥
IsOfBytes (Err (fault.Write out)) = ⊥
IsOfBytes other = Unit {0}

-- the units of bytes, the bytes after them and the answer are settled by the bytes and the limit
abbrev pub OneEnd : Type 0
OneEnd =
    (dialect : Dialect) (limit : ℕ) (bytes : List ℕ) (left left2 : Option (List ℕ)) (units units2 : List (List ℕ))
    (b b2 back back2 : List ℕ) (result result2 : Result Summary RunFault)
    → IsOfBytes result → IsOfBytes result2 → EndsAs dialect limit bytes left units b back result
    → EndsAs dialect limit bytes left2 units2 b2 back2 result2
    → (units ≡ units2) × (b ≡ b2) × (back ≡ back2) × (result ≡ result2)

-- what is told of the front of a section is the front of what is told of the section, where memory is refused in
-- neither
abbrev pub MoreIsTold : Type 0
MoreIsTold =
    (dialect : Dialect) (limit : ℕ) (bytes more : List ℕ) (left left2 : Option (List ℕ)) (units units2 : List (List ℕ))
    (b b2 back back2 : List ℕ) (result result2 : Result Summary RunFault)
    → result ≢ Err fault.NoMemory → result2 ≢ Err fault.NoMemory → EndsAs dialect limit bytes left units b back result
    → EndsAs dialect limit (bytes ++ more) left2 units2 b2 back2 result2
    → (others : List Visit) × (section_visits dialect units2 b2 ≡ section_visits dialect units b ++ others)

-- ---- the commands

-- what `check` answers is settled by the bytes and the limit
abbrev pub OneChecking : Type 0
OneChecking =
    (dialect : Dialect) (limit : ℕ) (bytes : List ℕ) (left left2 start start2 now now2 : Option (List ℕ))
    (result result2 : Result Summary RunFault) → IsOfBytes result → IsOfBytes result2
    → Checks dialect limit bytes left start now result → Checks dialect limit bytes left2 start2 now2 result2
    → result ≡ result2

-- what `passed_over` answers is settled by the bytes and the limit
abbrev pub OnePassingOver : Type 0
OnePassingOver =
    (dialect : Dialect) (limit : ℕ) (bytes : List ℕ) (left left2 : Option (List ℕ))
    (result result2 : Result (Option PassedOver) RunFault) → IsOfBytes result → IsOfBytes result2
    → PassesOver dialect limit bytes left result → PassesOver dialect limit bytes left2 result2 → result ≡ result2

-- one unit alone is the first that has an answer, with one header and one row
abbrev pub OneFound : Type 0
OneFound =
    (dialect : Dialect) (x : Place) (bytes : List ℕ) (units units2 : List (List ℕ)) (u u2 back back2 : List ℕ)
    (h h2 : HeaderData) (r r2 : Row) → IsFound dialect x bytes units u back h r
    → IsFound dialect x bytes units2 u2 back2 h2 r2 → (units ≡ units2) × (u ≡ u2) × (back ≡ back2) × (h ≡ h2) × (r ≡ r2)

-- what `find` answers is settled by the bytes, the limit and the place, whatever the string sections
abbrev pub OneFinding : Type 0
OneFinding =
    (dialect : Dialect) (strings strings2 : Strings) (x : Place) (limit : ℕ) (bytes : List ℕ)
    (left left2 start start2 now now2 : Option (List ℕ)) (result result2 : Result Summary RunFault)
    → IsOfBytes result → IsOfBytes result2 → Finds dialect strings x limit bytes left start now result
    → Finds dialect strings2 x limit bytes left2 start2 now2 result2 → result ≡ result2

-- what `dump` answers is settled by the bytes and the limit, whatever the string sections
abbrev pub OneDumping : Type 0
OneDumping =
    (dialect : Dialect) (style style2 : DumpStyle) (limit : ℕ) (bytes : List ℕ)
    (left left2 start start2 now now2 : Option (List ℕ)) (result result2 : Result Summary RunFault)
    → IsOfBytes result → IsOfBytes result2 → Dumps dialect style limit bytes left start now result
    → Dumps dialect style2 limit bytes left2 start2 now2 result2 → result ≡ result2

-- with the string sections, so is the text that it writes
abbrev pub OneDump : Type 0
OneDump =
    (dialect : Dialect) (style : DumpStyle) (limit : ℕ) (bytes : List ℕ)
    (left left2 start start2 now now2 : Option (List ℕ)) (result result2 : Result Summary RunFault)
    → IsOfBytes result → IsOfBytes result2 → Dumps dialect style limit bytes left start now result
    → Dumps dialect style limit bytes left2 start2 now2 result2
    → (text : List ℕ) × Appends start now text × Appends start2 now2 text

-- what a failed write leaves of it is the first `out` bytes, not all
abbrev pub DumpIsFront : Type 0
DumpIsFront =
    (dialect : Dialect) (style : DumpStyle) (limit : ℕ) (bytes : List ℕ)
    (left left2 start start2 now now2 : Option (List ℕ)) (out : ℕ) (result2 : Result Summary RunFault)
    → IsOfBytes result2
    → Dumps dialect style limit bytes left start now (Err (fault.Write out))
    → Dumps dialect style limit bytes left2 start2 now2 result2
    → (text : List ℕ) × TellsOut start now text (fault.Write out) × Appends start2 now2 text

-- what `copy` answers is settled by the bytes and the limit
abbrev pub OneCopying : Type 0
OneCopying =
    (refused refused2 : ℕ → Bool) (dialect : Dialect) (limit : ℕ) (bytes : List ℕ) (left left2 start start2 now now2 : Option (List ℕ))
    (result result2 : Result Summary RunFault) → IsOfBytes result → IsOfBytes result2
    → Copies (λ k. refused k ≡ true) dialect limit bytes left start now result
    → Copies (λ k. refused2 k ≡ true) dialect limit bytes left2 start2 now2 result2
    → result ≡ result2

-- and so are the bytes that it writes
abbrev pub OneCopy : Type 0
OneCopy =
    (refused refused2 : ℕ → Bool) (dialect : Dialect) (limit : ℕ) (bytes : List ℕ) (left left2 start start2 now now2 : Option (List ℕ))
    (result result2 : Result Summary RunFault) → IsOfBytes result → IsOfBytes result2
    → Copies (λ k. refused k ≡ true) dialect limit bytes left start now result
    → Copies (λ k. refused2 k ≡ true) dialect limit bytes left2 start2 now2 result2
    → (text : List ℕ) × Appends start now text × Appends start2 now2 text

-- what a failed write leaves of them is the first `out` bytes, not all
abbrev pub CopyIsFront : Type 0
CopyIsFront =
    (refused refused2 : ℕ → Bool) (dialect : Dialect) (limit : ℕ) (bytes : List ℕ) (left left2 start start2 now now2 : Option (List ℕ)) (out : ℕ)
    (result2 : Result Summary RunFault) → IsOfBytes result2
    → Copies (λ k. refused k ≡ true) dialect limit bytes left start now (Err (fault.Write out))
    → Copies (λ k. refused2 k ≡ true) dialect limit bytes left2 start2 now2 result2
    → (text : List ℕ) × TellsOut start now text (fault.Write out) × Appends start2 now2 text

-- what `copy_to_5` answers is settled by the bytes, the limit and the directories
abbrev pub OneCopyingTo5 : Type 0
OneCopyingTo5 =
    (refused refused2 : ℕ → Bool) (directories : CompilationDirectories) (dialect : Dialect) (limit : ℕ) (bytes : List ℕ)
    (left left2 start start2 now now2 : Option (List ℕ)) (result result2 : Result Summary RunFault) → IsOfBytes result
    → IsOfBytes result2 → CopiesTo5 (λ k. refused k ≡ true) (directory_by directories) dialect limit bytes left start now result
    → CopiesTo5 (λ k. refused2 k ≡ true) (directory_by directories) dialect limit bytes left2 start2 now2 result2 → result ≡ result2

-- and so are the bytes that it writes
abbrev pub OneCopyTo5 : Type 0
OneCopyTo5 =
    (refused refused2 : ℕ → Bool) (directories : CompilationDirectories) (dialect : Dialect) (limit : ℕ) (bytes : List ℕ)
    (left left2 start start2 now now2 : Option (List ℕ)) (result result2 : Result Summary RunFault) → IsOfBytes result
    → IsOfBytes result2 → CopiesTo5 (λ k. refused k ≡ true) (directory_by directories) dialect limit bytes left start now result
    → CopiesTo5 (λ k. refused2 k ≡ true) (directory_by directories) dialect limit bytes left2 start2 now2 result2
    → (text : List ℕ) × Appends start now text × Appends start2 now2 text

-- what a failed write leaves of them is the first `out` bytes, not all
abbrev pub CopyTo5IsFront : Type 0
CopyTo5IsFront =
    (refused refused2 : ℕ → Bool) (directories : CompilationDirectories) (dialect : Dialect) (limit : ℕ) (bytes : List ℕ)
    (left left2 start start2 now now2 : Option (List ℕ)) (out : ℕ) (result2 : Result Summary RunFault)
    → IsOfBytes result2 → CopiesTo5 (λ k. refused k ≡ true) (directory_by directories) dialect limit bytes left start now (Err (fault.Write out))
    → CopiesTo5 (λ k. refused2 k ≡ true) (directory_by directories) dialect limit bytes left2 start2 now2 result2
    → (text : List ℕ) × TellsOut start now text (fault.Write out) × Appends start2 now2 text
