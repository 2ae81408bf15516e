-- What the words say of units of versions 2 to 4. DWARF 2 to 4, section 6.2.4: their headers don't have the size of an
-- address.
use Rattle.std.specs.Prelude.{Bool, true, ◌&&◌, Option, Some, None, is_some, codes, if◌then◌else◌}
use Rattle.std.specs.Option.{option_and_then, option_map_or}
use Rattle.std.specs.Str.{bytes_eq}
use Rattle.dl_head.specs.declared.dialect.AddressSize.{AddressSize}
use Rattle.dl_head.specs.declared.dialect.AddressSize.TheVariants as size
use Rattle.dl_head.specs.declared.dialect.Older.{Older}
use Rattle.dl_head.specs.declared.dialect.Older.TheVariants.{Foreign, Read}
use Rattle.dl_open.specs.declared.dialect.FileUnits.{FileUnits}
use Rattle.dl_open.specs.declared.dialect.FileUnits.TheVariants.{ByClass, Sized, Version5}
use Rattle.dl_cmd.specs.Job.{Request, Text, UnitTexts, addr, check, copy, dump, find, index, lines, lint, sources}

-- the size in bytes that a word says
abbrev pub size_in : Text → Option AddressSize
size_in word =
    if bytes_eq word (codes "1") then Some size.One else
    if bytes_eq word (codes "2") then Some size.Two else
    if bytes_eq word (codes "4") then Some size.Four else
    if bytes_eq word (codes "8") then Some size.Eight else None

-- where there is a word it says a size
abbrev pub is_size : Option Text → Bool
is_size word = option_map_or (λ w. is_some (size_in w)) word true

-- the words that are to say sizes do
abbrev pub are_sizes : UnitTexts → Bool
are_sizes w = is_size w.older && is_size w.address_size

-- which units before version 5 are read of a section on the input: those with addresses of the size that is said
abbrev pub older_by : Option Text → Older
older_by word = option_map_or Read (option_and_then size_in word) Foreign

-- which units of an ELF file are read
abbrev pub file_units : UnitTexts → FileUnits
file_units w = if w.version_5 then Version5 else option_map_or Sized (option_and_then size_in w.address_size) ByClass

-- what a request says of them
abbrev pub units_of : Request → UnitTexts
units_of (dump words) = words.units
units_of (check file big units keep_going) = units
units_of (find file big units address op section line_str str) = units
units_of (copy file big units to_5 comp_dir) = units
units_of (addr words) = words.units
units_of (index words) = words.units
units_of (lines words) = words.units
units_of (sources words) = words.units
units_of (lint words) = words.units
