-- What holds of stretches, whatever the rows.
use Rattle.std.specs.Prelude.{◌≡◌, ℕ, ◌<◌, ◌^◌, ◌&&◌, nat_le, nat_lt, Bool, true, List, [], ◌∷◌, ◌++◌, map, Option, None}
use Rattle.std.specs.List.{All}
use Rattle.std.specs.Option.{option_map}
use Rattle.dl_rows.specs.declared.row.Row.{Row}
use Rattle.dl_look.specs.Answer.{place_of, first_place, last_place, covers, last_upto}
use Rattle.dl_look.specs.LiveRows.{live_rows}
use Rattle.dl_look.specs.Units.{answer_of_units}
use Rattle.dl_stretch.specs.declared.told.Told.{Told}
use Rattle.dl_stretch.specs.declared.stretch.Stretch.{Stretch}
use Rattle.dl_stretch.specs.Held.{AreHeld}
use Rattle.dl_stretch.specs.Runs.{place_at, first_address, told_of, number_in, held_in}
use Rattle.dl_stretch.specs.Stretches.{last_begun, AreStretches}
use Rattle.dl_stretch.specs.ToldUnits.{UnitRows, told_of_units}

-- a sequence covers the addresses from the first one of its first row up to before that of its end row
abbrev pub CoversAddresses : Type 0
CoversAddresses =
    (s : List Row) (a : ℕ) → covers (place_at a) s
    ≡ (nat_le (first_address (first_place s)) a && nat_lt a (first_address (last_place s)))

-- the last row whose place isn't above that of an address is the last one with its first address there or before it
abbrev pub LastRowBegun : Type 0
LastRowBegun =
    (s : List Row) (a : ℕ) → last_upto (place_at a) s ≡ last_begun (λ (r : Row). first_address (place_of r)) s a

-- all begin at an address
abbrev pub AtAddresses : List Stretch → Type 0
AtAddresses stretches = All (λ (s : Stretch). s.start < 2 ^ 64) stretches

-- there is at most one list of stretches of a function
abbrev pub OneListOfStretches : Type 0
OneListOfStretches =
    (f : ℕ → Option Told) (s t : List Stretch) → AreStretches f s → AreStretches f t → AtAddresses s → AtAddresses t
    → s ≡ t

-- the last one is a gap where nothing is told of the last address
abbrev pub LastIsGap : Type 0
LastIsGap =
    (f : ℕ → Option Told) (stretches : List Stretch) (last : Stretch) → AreStretches f (stretches ++ last ∷ [])
    → AtAddresses (stretches ++ last ∷ []) → f 0xffffffffffffffff ≡ None → last.told ≡ None

-- a sequence covers the last address only where its end row stands there, with an op_index above 0
abbrev pub CoversLast : Type 0
CoversLast =
    (s : List Row) → (last_place s).address < 2 ^ 64 → covers (place_at 0xffffffffffffffff) s ≡ true
    → ((last_place s).address ≡ 0xffffffffffffffff) × (0 < (last_place s).op_index)

-- the rows of a unit whose files have these numbers
abbrev pub numbered : (ℕ → ℕ) → List Row → UnitRows
numbered number rows = record { number = number; rows = rows }

-- units tell what the row tells that answers among their live sequences
abbrev pub TellsAnswers : Type 0
TellsAnswers =
    (live : ℕ → Bool) (number : ℕ → ℕ) (units : List (List Row)) (a : ℕ)
    → told_of_units live (map (numbered number) units) a
    ≡ option_map (told_of number) (answer_of_units (map (live_rows live) units) (place_at a))

-- the numbers of a list that are below 2^63 are held as they are
abbrev pub HeldAsGiven : Type 0
HeldAsGiven =
    (numbers : List ℕ) (other : ℕ) → AreHeld numbers other → (file : ℕ)
    → held_in numbers other file ≡ number_in numbers other file
