-- The bytes of .debug_abbrev that are held. No promise rests on how this is said.
use Rattle.std.specs.Prelude.{ℕ, List}
use Rattle.dl_info.specs.declared.abbreviations.Abbreviations.{Abbreviations}

abbrev pub section_of : Abbreviations → List ℕ
section_of a = a.section.now
