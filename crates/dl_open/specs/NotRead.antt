-- What is said of the units of other versions, which aren't read, where an address has no answer.
use Rattle.std.specs.Prelude.{◌≡◌, ◌⊎◌, ℕ, ◌==◌, if◌then◌else◌, List, ◌++◌, codes, decimal, Option, Some, None, Result}
use Rattle.std.specs.Prelude.{Ok, Err}
use Rattle.std.specs.Io.KnownBytes.{Consumes}
use Rattle.std.specs.declared.io.Error.{Error}
use Rattle.dl_file.specs.declared.line_file.Wanted.TheVariants.{LineSection}
use Rattle.dl_file.specs.LineTable.{HasLineTable, LineTable}
use Rattle.dl_sections.specs.declared.fault.RunFault.{RunFault}
use Rattle.dl_sections.specs.declared.options.TheConstants.{SECTION_LIMIT}
use Rattle.dl_sections.specs.declared.passing_over.PassedOver.{PassedOver}
use Rattle.dl_sections.specs.PassedOver.{PassesOver}
use Rattle.dl_open.specs.declared.dialect.FileUnits.{FileUnits}
use Rattle.dl_open.specs.declared.not_read.UnitsNotRead.{UnitsNotRead}
use Rattle.dl_open.specs.declared.fault.FileFault.{FileFault}
use Rattle.dl_open.specs.Shown.{shown_word}
use Rattle.dl_open.specs.Tables.{Refuses, bytes_of, file_dialect}

-- ---- the line on standard error

abbrev pub versions_text : PassedOver → List ℕ
versions_text units =
    if units.least == units.greatest then codes "version " ++ decimal units.least
    else codes "versions " ++ (decimal units.least ++ (codes " to " ++ decimal units.greatest))

abbrev pub units_text : PassedOver → List ℕ
units_text units =
    if units.units == 1 then codes "1 unit of " ++ (versions_text units ++ codes " is not read")
    else decimal units.units ++ (codes " units of " ++ (versions_text units ++ codes " are not read"))

abbrev pub not_read_text : UnitsNotRead → List ℕ
not_read_text units = shown_word units.path.now ++ codes ": " ++ units_text units.units

-- ---- the units that it tells of

-- nothing is told of a fault
abbrev pub told_of : Result (Option PassedOver) RunFault → Option PassedOver
told_of (Ok units) = units
told_of (Err fault) = None

-- what `passed_over` answers for the bytes of the line section, of which `left` are left; read: which units are read
abbrev pub PassesOverTable : (read : FileUnits) → LineTable → Result (Option PassedOver) RunFault → Type 0
PassesOverTable read t answer =
    (bytes : List ℕ) × (left : Option (List ℕ)) × Consumes (Some (bytes_of t.line)) left bytes
    × PassesOver (file_dialect read t) SECTION_LIMIT bytes left answer

-- what is told of a file with these bytes: nothing where its line section can't be had. fails: the errors that opening
-- and reading it may give
abbrev pub IsToldOfFile : (refuses : ℕ → Type 0) (read : FileUnits) (fails : Error → Type 0) (f : List ℕ) → Option PassedOver → Type 0
IsToldOfFile refuses read fails f units =
    ((fault : FileFault) × Refuses refuses fails f LineSection fault × (units ≡ None))
    ⊎ ((t : LineTable) × (answer : Result (Option PassedOver) RunFault) × HasLineTable f LineSection (Ok t)
    × PassesOverTable read t answer × (units ≡ told_of answer))
