-- A file of a unit, by what is known of the unit. No promise rests on this file.
use Rattle.std.specs.Prelude.{ℕ}
use Rattle.std.specs.Option.{option_copied}
use Rattle.dl_print.specs.ValueText.{strings_of}
use Rattle.dl_pack.specs.Named.{Named}
use Rattle.dl_making.specs.declared.files.UnitFiles.{UnitFiles}
use Rattle.dl_making.specs.Files.{named_file}

abbrev pub file_in : UnitFiles → (file : ℕ) → Named
file_in u file =
    named_file (strings_of u.strings.now) (option_copied u.directory) (option_copied u.header) u.offset file
