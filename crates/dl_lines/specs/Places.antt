-- The places of source lines: of each run of rows with one file and one line the first that is a statement. DWARF 5, section
-- 6.2.2.
use Rattle.std.specs.Prelude.{ℕ, ◌+◌, Bool, not, ◌&&◌, ◌==◌, if◌then◌else◌, List, [], ◌∷◌, ◌++◌, length, map, reverse}
use Rattle.std.specs.Prelude.{Option, option_map}
use Rattle.std.specs.List.{list_any}
use Rattle.dl_head.specs.declared.dialect.Dialect.{Dialect}
use Rattle.dl_field.specs.HeaderData.{HeaderData}
use Rattle.dl_rows.specs.declared.row.Row.{Row}
use Rattle.dl_rows.specs.LineUnit.{unit_rows}
use Rattle.dl_look.specs.LiveRows.{live_rows}
use Rattle.dl_print.specs.ValueText.{Strings}
use Rattle.dl_path.specs.Paths.{beside_table, compiled_in, has_directory_0, path_of}
use Rattle.dl_sections.specs.Section.{header_of}

-- ---- runs

-- s has the file and the line of r, and is no end row
abbrev pub is_of_run : Row → Row → Bool
is_of_run r s = not s.end_sequence && (s.file == r.file && s.line == r.line)

-- of rows from the last one backwards those of the run of r
abbrev pub run_of : Row → List Row → List Row
run_of r [] = []
run_of r (s ∷ rows) = if is_of_run r s then s ∷ run_of r rows else []

-- r is the first statement of its run; before: all rows before it
abbrev pub is_place : (before : List Row) → Row → Bool
is_place before r =
    r.is_stmt && (not r.end_sequence && not (list_any (λ s. s.is_stmt) (run_of r (reverse before))))

-- the first statements of the runs of rows, which stand after those before
abbrev pub places_after : (before : List Row) → List Row → List Row
places_after before [] = []
places_after before (r ∷ rows) =
    (if is_place before r then r ∷ [] else []) ++ places_after (before ++ r ∷ []) rows

-- ---- what is known of a section

-- live: where a sequence begins that is live; directories: the compilation directory of the unit at each offset
pub record Known : Type 0 where
  pub live : ℕ → Bool
  pub strings : Strings
  pub directories : ℕ → Option (List ℕ)

-- a place, with the path of its file under the compilation directory, as far as that is known
pub record CodePlace : Type 0 where
  pub path : Option (List ℕ)
  pub address : ℕ
  pub line : ℕ
  pub column : ℕ
  pub prologue_end : Bool

abbrev pub place_at : (path : Option (List ℕ)) → Row → CodePlace
place_at path r = record {
  path = path;
  address = r.address;
  line = r.line;
  column = r.column;
  prologue_end = r.prologue_end;
}

-- of the unit at that offset, with this header
abbrev pub path_in : Known → (offset : ℕ) → Option HeaderData → (file : ℕ) → Option (List ℕ)
path_in known offset header file =
    option_map (compiled_in (beside_table (has_directory_0 header) (known.directories offset)))
    (path_of known.strings header file)

-- the places of the live sequences of rows, whose files have these paths
abbrev pub places_of_rows : (live : ℕ → Bool) → (path : ℕ → Option (List ℕ)) → List Row → List CodePlace
places_of_rows live path rows = map (λ r. place_at (path r.file) r) (places_after [] (live_rows live rows))

-- of units one after the other, the first at that offset
abbrev pub places_from : Dialect → Known → (offset : ℕ) → List (List ℕ) → List CodePlace
places_from dialect known offset [] = []
places_from dialect known offset (u ∷ units) =
    places_of_rows known.live (path_in known offset (header_of dialect u)) (unit_rows dialect u)
    ++ places_from dialect known (offset + length u) units

-- of the units of a section
abbrev pub places_in : Dialect → Known → List (List ℕ) → List CodePlace
places_in dialect known units = places_from dialect known 0 units
