-- What a locator keeps at the end of a unit. No promise rests on this file.
use Rattle.std.specs.Prelude.{⊤, ◌≡◌, ℕ, List, length, slice_get, Option, OnOk, OnErr, Result}
use Rattle.dl_field.specs.HeaderData.{HeaderData}
use Rattle.dl_rows.specs.declared.row.Row.{Row}
use Rattle.dl_memory.specs.declared.memory.NoMemory.{NoMemory}
use Rattle.dl_look.specs.declared.place.Place.{Place}
use Rattle.dl_look.specs.FindersRows.{Stand, answered_count, told_count}
use Rattle.dl_look.specs.Units.{FirstAnswer}
use Rattle.dl_print.specs.ValueText.{strings_of}
use Rattle.dl_addr.specs.declared.kept.PathUnit.{PathUnit}
use Rattle.dl_addr.specs.declared.locating.Locator.{Locator}
use Rattle.dl_dirs.specs.Compilation.{directory_by}
use Rattle.dl_path.specs.Paths.{beside_table, has_directory_0, path_of}
use Rattle.dl_addr.specs.Room.{HasFew}
use Rattle.dl_addr.specs.Texts.{Grows, IsKept, named, unit_place}

-- the compilation directory that counts for the current unit, whose header this is
abbrev pub directory_under : {M : Type 0} → Locator M → Option HeaderData → Option (List ℕ)
directory_under l h = beside_table (has_directory_0 h) (directory_by l.directories l.unit)

abbrev pub path_under : {M : Type 0} → Locator M → Option HeaderData → Row → Option (List ℕ) × PathUnit
path_under l h r =
    (named l.style (directory_under l h) (path_of (strings_of l.strings.now) h r.file), unit_place h l.unit)

-- of the places that the current unit is the first to answer the paths are kept, and of the others what was
pub record Keeps {M : Type 0} (old new : Locator M) (h : Option HeaderData) (result : Result ⊤ NoMemory) : Type 0 where
  pub code : new.code ≡ old.code
  pub directories : new.directories ≡ old.directories
  pub style : new.style ≡ old.style
  pub strings : new.strings.now ≡ old.strings.now
  pub memory : new.memory.now ≡ old.memory.now
  pub unit : new.unit ≡ old.unit
  pub live : new.live ≡ old.live
  pub finders : new.finders ≡ old.finders
  pub grows : Grows old.paths new.paths
  pub count : length new.kept.items ≡ length old.kept.items
  pub others : (places : List Place) (units : List (List Row)) (rows : List Row) → Stand old.finders places units rows
      → (i : ℕ) → ((r : Row) → FirstAnswer places units rows i r → ⊥)
      → slice_get new.kept.items i ≡ slice_get old.kept.items i
  pub right : OnOk result ((places : List Place) (units : List (List Row)) (rows : List Row)
      → Stand old.finders places units rows
      → length old.kept.items ≡ length places → (i : ℕ) (r : Row) → FirstAnswer places units rows i r
      → IsKept new.paths new.kept.items i (path_under old h r))
  pub some : OnErr result ((places : List Place) (units : List (List Row)) (rows : List Row)
      → Stand old.finders places units rows
      → (i : ℕ) × (r : Row) × FirstAnswer places units rows i r)
  pub few : OnOk result (HasFew old.paths (answered_count old.finders) → HasFew new.paths (told_count old.finders))
  pub no_more : OnErr result ((count : ℕ) → HasFew old.paths count → HasFew new.paths count)
