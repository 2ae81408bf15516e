-- The units of other versions than 5, which are passed over. DWARF 5, section 6.2.4.
use Rattle.std.specs.Prelude.{◌≡◌, ◌≤◌, ℕ, List, [], length, flat_map, Option, Some, None, Result, Ok, Err}
use Rattle.std.specs.List.{All, Contains}
use Rattle.std.specs.Option.{option_to_list}
use Rattle.dl_head.specs.declared.dialect.Dialect.{Dialect}
use Rattle.dl_head.specs.Header.{foreign_in}
use Rattle.dl_sections.specs.declared.fault.RunFault.{RunFault}
use Rattle.dl_sections.specs.declared.passing_over.PassedOver.{PassedOver}
use Rattle.dl_print.specs.declared.summary.Summary.{Summary}
use Rattle.dl_sections.specs.Section.{EndsAs}

-- the versions of the units that aren't of version 5, in the order of the units
abbrev pub other_versions : Dialect → List (List ℕ) → List ℕ
other_versions dialect units = flat_map (λ u. option_to_list (foreign_in dialect u)) units

-- it is one of these numbers, and none of them is less
abbrev pub IsLeast : ℕ → List ℕ → Type 0
IsLeast least numbers = Contains numbers least × All (λ n. least ≤ n) numbers

-- it is one of these numbers, and none of them is greater
abbrev pub IsGreatest : ℕ → List ℕ → Type 0
IsGreatest greatest numbers = Contains numbers greatest × All (λ n. n ≤ greatest) numbers

-- how many units are of these versions, and the least and the greatest of them; None where there is none
abbrev pub AreTold : (versions : List ℕ) → Option PassedOver → Type 0
AreTold versions None = versions ≡ []
AreTold versions (Some passed) =
    (passed.units ≡ length versions) × IsLeast passed.least versions × IsGreatest passed.greatest versions

-- `passed_over`: the section is units to its end, and those of other versions are told; or the first fault
abbrev pub PassesOver : Dialect → (limit : ℕ) (bytes : List ℕ) (left : Option (List ℕ))
    → Result (Option PassedOver) RunFault → Type 0
PassesOver dialect limit bytes left (Ok passed) =
    (units : List (List ℕ)) × (summary : Summary) × EndsAs dialect limit bytes left units [] [] (Ok summary)
    × AreTold (other_versions dialect units) passed
PassesOver dialect limit bytes left (Err f) =
    (units : List (List ℕ)) × (b : List ℕ) × (back : List ℕ) × EndsAs dialect limit bytes left units b back (Err f)
