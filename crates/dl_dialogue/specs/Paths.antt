-- A path, where it is known. No promise rests on this file.
use Rattle.std.specs.Prelude.{ℕ, Bool, if◌then◌else◌, List, Option, Some, None}

abbrev pub path_if : (is_known : Bool) → List ℕ → Option (List ℕ)
path_if is_known path = if is_known then Some path else None
