-- What is told of an address: what `addr` answers, with the path as the texts that it is made of. DWARF 5, sections 6.2.2 and
-- 6.2.4.
use Rattle.std.specs.Prelude.{ℕ, Bool, List, [], ◌∷◌, Option, Some, None}
use Rattle.std.specs.List.{concat}
use Rattle.std.specs.Option.{option_and_then, option_map}
use Rattle.dl_head.specs.declared.dialect.Dialect.{Dialect}
use Rattle.dl_print.specs.ValueText.{Strings}
use Rattle.dl_path.specs.PathTexts.{path_texts}
use Rattle.dl_index.specs.Stretches.{Told}
use Rattle.dl_index.specs.Telling.{find_in}
use Rattle.dl_stretch.specs.Runs.{place_at}
use Rattle.dl_look.specs.declared.asked.Asked.{Asked}
use Rattle.dl_look.specs.Asked.{place_of}
use Rattle.dl_addr.specs.declared.style.Style.{Style}
use Rattle.dl_addr.specs.Location.{Location}
use Rattle.dl_addr.specs.Locations.{Located, compilation_directory, located, location_line}

-- directories: the compilation directory of the unit at each offset
abbrev pub told_of : Strings → (directories : ℕ → Option (List ℕ)) → Located → Told
told_of s directories l = record {
  unit = l.unit;
  parts = path_texts s (compilation_directory directories l) l.header l.row.file;
  line = l.row.line;
  column = l.row.column;
  discriminator = l.row.discriminator;
  is_stmt = l.row.is_stmt;
}

-- by the units of a section; live says of the address of a sequence's first row whether the sequence is live
abbrev pub told_by : Dialect → Strings → (directories : ℕ → Option (List ℕ)) → (live : ℕ → Bool)
    → (units : List (List ℕ)) → (address : ℕ) → Option Told
told_by dialect s directories live units a = option_map (told_of s directories) (located dialect live units (place_at a))

-- ---- the lines of an index

-- the path that these texts are, one after the other; it isn't known where there are none
abbrev pub path_told : List (List ℕ) → Option (List ℕ)
path_told [] = None
path_told (text ∷ texts) = Some (concat (text ∷ texts))

abbrev pub location_told : Told → Location
location_told t = record {
  unit = t.unit;
  path = path_told t.parts;
  line = t.line;
  column = t.column;
  discriminator = t.discriminator;
  is_stmt = t.is_stmt;
}

-- what an index tells of what is asked, from whose address the base is subtracted
abbrev pub told_asked : (index : List ℕ) → (base : ℕ) → Asked → Option Told
told_asked index base a = option_and_then (λ x. find_in index x.address) (place_of base a)

-- its line
abbrev pub index_line : Style → (index : List ℕ) → (base : ℕ) → Asked → List ℕ
index_line style index base a = location_line style a (option_map location_told (told_asked index base a))
