-- A law of the definitions of `addr` and `addr_around`.
use Rattle.std.specs.Prelude.{◌≡◌, ℕ, Bool, true, List, Option, None, Ok}
use Rattle.dl_head.specs.declared.dialect.Dialect.{Dialect}
use Rattle.dl_print.specs.ValueText.{Strings}
use Rattle.dl_addr.specs.declared.question.WhichFound.{WhichFound}
use Rattle.dl_addr.specs.declared.question.Question.{Question}
use Rattle.dl_addr.specs.AroundCommands.{LocatesAround}
use Rattle.dl_addr.specs.Commands.{Locates}

-- a section is answered without damage where `addr` answers it, and the same is written, whatever memory is refused
abbrev pub SameWithoutDamage : Type 0
SameWithoutDamage =
    (refused : ℕ → Bool) (dialect : Dialect) (s : Strings) (q : Question) (limit : ℕ) (bytes : List ℕ)
    (left start now : Option (List ℕ)) (all_found : WhichFound)
    → (Locates (λ n. refused n ≡ true) dialect s q limit bytes left start now (Ok all_found)
    → LocatesAround (λ n. refused n ≡ true) dialect s q limit bytes left start now
    (Ok (record { found = all_found; damaged = None })))
    × (LocatesAround (λ n. refused n ≡ true) dialect s q limit bytes left start now
    (Ok (record { found = all_found; damaged = None }))
    → Locates (λ n. refused n ≡ true) dialect s q limit bytes left start now (Ok all_found))
