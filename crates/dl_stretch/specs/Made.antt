-- Stretches while they are made. No promise rests on this file.
use Rattle.std.specs.Prelude.{◌≡◌, ℕ, ◌<◌, ◌^◌, Bool, ◌&&◌, ◌==◌, false, if◌then◌else◌, nat_lt, min, List, [], ◌∷◌, ◌++◌, length, slice_index_or}
use Rattle.std.specs.Prelude.{Option, None}
use Rattle.std.specs.Bool.{beq}
use Rattle.std.specs.List.{All}
use Rattle.dl_look.specs.declared.cuts.Cut.{Cut}
use Rattle.dl_look.specs.Cuts.{cut_place}
use Rattle.dl_stretch.specs.declared.told.Told.{Told}
use Rattle.dl_stretch.specs.declared.run.Run.{Run}
use Rattle.dl_stretch.specs.declared.stretch.Stretch.{Stretch}
use Rattle.dl_stretch.specs.Stretches.{Neighbours, told_at, Apart, is_gap_first}
use Rattle.dl_stretch.specs.Runs.{first_address}
use Rattle.dl_stretch.specs.Held.{packed}
use Rattle.dl_stretch.specs.Hearing.{HearsMore}

-- what the last stretch tells
abbrev pub last_told : List Stretch → Option Told
last_told [] = None
last_told (s ∷ []) = s.told
last_told (s ∷ t ∷ stretches) = last_told (t ∷ stretches)

-- they tell what f answers for the addresses below end, and all begin below it
pub record AreMade (f : ℕ → Option Told) (stretches : List Stretch) (end : ℕ) : Type 0 where
  pub right : (a : ℕ) → a < end → told_at stretches a ≡ f a
  pub apart : Neighbours Apart stretches
  pub first : is_gap_first stretches ≡ false
  pub below : All (λ (s : Stretch). s.start < end) stretches

-- the sink was told what is made up to end after that list, at last this
pub record TellsOn {S : Type 0} (hears : S → S → List Stretch → Type 0) (old new : S) (f : ℕ → Option Told)
    (list : List Stretch) (end : ℕ) (told : Option Told) : Type 0 where
  pub more : List Stretch
  pub heard : HearsMore hears old new more
  pub made : AreMade f (list ++ more) end
  pub last : told ≡ last_told (list ++ more)

-- the test that two tell the same
abbrev pub is_same : Told → Told → Bool
is_same t u =
    (t.file == u.file) && ((t.line == u.line) && ((t.column == u.column)
    && ((t.discriminator == u.discriminator) && beq t.is_stmt u.is_stmt)))

-- for the numbers past the last one
abbrev pub no_run : Run
no_run = record { start = 0; line = 0; column = 0; discriminator = 0; file_and_statement = packed 0 false }

abbrev pub start_at : List Run → ℕ → ℕ
start_at runs n = (slice_index_or runs n no_run).start

-- where the run n begins, at most end; end past the last one
abbrev pub next_start : List Run → ℕ → ℕ → ℕ
next_start runs end n = if nat_lt n (length runs) then min (start_at runs n) end else end

-- the first address of the cut k; 2^64 past the last one
abbrev pub cut_start : List Cut → ℕ → ℕ
cut_start cuts k = if nat_lt k (length cuts) then min (first_address (cut_place cuts k)) (2 ^ 64) else 2 ^ 64
