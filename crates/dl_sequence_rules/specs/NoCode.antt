-- Ranges of code of which no sequence covers an address. DWARF 5, section 6.2.2.
use Rattle.std.specs.Prelude.{ℕ, ◌&&◌, not, nat_lt, Bool, if◌then◌else◌, List, [], ◌∷◌, None}
use Rattle.std.specs.List.{list_any}
use Rattle.dl_look.specs.declared.code_ranges.AddressRange.{AddressRange}
use Rattle.dl_findings.specs.declared.finding.Finding.{Finding}
use Rattle.dl_findings.specs.declared.finding.Found.TheVariants as found
use Rattle.dl_sequence_rules.specs.declared.ended.Ended.{Ended}
use Rattle.dl_sequence_rules.specs.Covering.{touches}

abbrev pub no_code_of : (offset : ℕ) → AddressRange → Finding
no_code_of offset r = record { offset = offset; row = None; found = found.NoCode r.start r.size }

-- the range has an address, and no sequence covers one of it
abbrev pub is_without : List Ended → AddressRange → Bool
is_without sequences r = nat_lt 0 r.size && not (list_any (touches r) sequences)

abbrev pub no_code_found : (offset : ℕ) → List Ended → AddressRange → List Finding
no_code_found offset sequences r = if is_without sequences r then no_code_of offset r ∷ [] else []
