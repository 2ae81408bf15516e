-- What rows tell of addresses. DWARF 5, section 6.2.2: address and op_index together are the place of a row, so a row
-- with an op_index above 0 stands after its address, and is the answer from the next address on.
use Rattle.std.specs.Prelude.{ℕ, ◌+◌, ◌==◌, if◌then◌else◌, List, slice_index_or, Option}
use Rattle.std.specs.Option.{option_map}
use Rattle.dl_rows.specs.declared.row.Row.{Row}
use Rattle.dl_look.specs.declared.place.Place.{Place}
use Rattle.dl_stretch.specs.declared.told.Told.{Told}
use Rattle.dl_stretch.specs.declared.run.Run.{Run}
use Rattle.dl_stretch.specs.Held.{held, told_by}
use Rattle.dl_stretch.specs.Stretches.{last_begun}

-- the place that is looked up for the address a
abbrev pub place_at : ℕ → Place
place_at a = record { address = a; op_index = 0 }

-- the first address whose place isn't below this one; 2^64 where there is none
abbrev pub first_address : Place → ℕ
first_address p = if p.op_index == 0 then p.address else p.address + 1

-- what a row tells, where number gives the number of each file of its unit
abbrev pub told_of : (number : ℕ → ℕ) → Row → Told
told_of number r = record {
  file = number r.file;
  line = r.line;
  column = r.column;
  discriminator = r.discriminator;
  is_stmt = r.is_stmt;
}

-- the number of a file by a list; other where the list ends before it
abbrev pub number_in : (numbers : List ℕ) → (other : ℕ) → ℕ → ℕ
number_in numbers other file = slice_index_or numbers file other

-- that number as it is held, by the number of the file as it is
abbrev pub held_in : (numbers : List ℕ) → (other : ℕ) → ℕ → ℕ
held_in numbers other file = held (number_in numbers other (held file))

-- the same with another number of its file
abbrev pub renumbered : (ℕ → ℕ) → Told → Told
renumbered number t = record t { file = number t.file }

-- what the last run tells that doesn't begin above a
abbrev pub run_told_at : List Run → ℕ → Option Told
run_told_at runs a = option_map told_by (last_begun (λ (r : Run). r.start) runs a)
