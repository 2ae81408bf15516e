-- For how many items memory is asked to tell of an address.
use Rattle.std.specs.Prelude.{ℕ, ◌*◌, ◌≤◌, List, length, Option}
use Rattle.dl_elf.specs.Source.{ForBytes}

-- by an index in a file with these bytes, where they are known: a path has no more than three texts, each of which lies in them
abbrev pub AsksForPath : (known : Option (List ℕ)) → ℕ → Type 0
AsksForPath known n = ForBytes known (λ b. n ≤ 3 * length b)
