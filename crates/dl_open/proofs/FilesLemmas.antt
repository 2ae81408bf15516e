-- Files of which nothing is known.
use Rattle.std.proofs.Common.{◌≡◌, ◌≤◌, ℕ, List, length, None, Result, Ok, Err, Vec, Global, subst, sym}
use Rattle.std.specs.Prelude.{MatchResult, pos}
use Rattle.dl_sections.specs.Strings.{StopsReading}
use Rattle.dl_sections.specs.declared.fault.RunFault.{RunFault}
use Rattle.dl_sections.specs.declared.fault.RunFault.TheVariants as fault
use Rattle.dl_open.specs.Files.{FileHolds, FileStops, MayFail}

-- some error
pub any_fails : MayFail (λ error. Unit {0})
any_fails = (record { repr = 0; kind = 0; len = 0; code = pos 0; message = (0, 0, 0, 0, 0, 0, 0, 0, 0, 0) }, tt)

-- what the reading of one comes to, with any error
pub any_file : (refuses : ℕ → Type 0) (limit : ℕ) (bytes : List ℕ) (Ended : Type 0) (r : Result (Vec ℕ Global) RunFault)
    → MatchResult r (λ found. (found.items ≡ bytes) × (length bytes ≤ limit) × Ended) (StopsReading refuses limit bytes)
    → MatchResult r (λ found. FileHolds None limit found.items) (FileStops (MayFail (λ error. Unit {0})) refuses None limit)
any_file refuses limit bytes Ended (Ok found) (is, short, ended) =
    (subst (λ (l : List ℕ). length l ≤ limit) (sym is) short, tt)
any_file refuses limit bytes Ended (Err fault.Read) stops = any_fails
any_file refuses limit bytes Ended (Err fault.NoMemory) stops = (length bytes, stops.0, stops.1)
any_file refuses limit bytes Ended (Err fault.SectionTooLong) stops = tt
any_file refuses limit bytes Ended (Err other) stops = absurd stops
