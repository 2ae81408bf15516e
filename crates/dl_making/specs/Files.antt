-- The files of a unit, as an index names them. DWARF 5, sections 3.1.1, 6.2.4 and 6.2.4.1.
use Rattle.std.specs.Prelude.{ℕ, List, Option}
use Rattle.dl_field.specs.HeaderData.{HeaderData}
use Rattle.dl_print.specs.ValueText.{Strings}
use Rattle.dl_path.specs.PathTexts.{path_texts}
use Rattle.dl_pack.specs.Named.{Named}

-- a file of the unit at this offset of the line section, with the texts of its path under the compilation directory that
-- counts for the unit
abbrev pub named_file : Strings → (directory : Option (List ℕ)) → Option HeaderData → (offset file : ℕ) → Named
named_file s directory header offset file = record { unit = offset; parts = path_texts s directory header file }
