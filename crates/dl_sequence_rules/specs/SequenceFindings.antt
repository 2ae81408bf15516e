-- What rules find in the live rising sequences of a whole section. DWARF 5, sections 6.2.2 and 6.2.5.3.
use Rattle.std.specs.Prelude.{ℕ, List, [], ◌∷◌, ◌++◌, flat_map}
use Rattle.dl_look.specs.declared.code_ranges.AddressRange.{AddressRange}
use Rattle.dl_findings.specs.declared.finding.Finding.{Finding}
use Rattle.dl_sequence_rules.specs.declared.ended.Ended.{Ended}
use Rattle.dl_sequence_rules.specs.NoCode.{no_code_found}
use Rattle.dl_sequence_rules.specs.Overlaps.{overlap_found}

-- each with those before it
abbrev pub overlaps_after : (earlier : List Ended) → List Ended → List Finding
overlaps_after earlier [] = []
overlaps_after earlier (s ∷ sequences) = overlap_found earlier s ++ overlaps_after (earlier ++ s ∷ []) sequences

-- the overlaps, one sequence after the other, and then the ranges without a sequence, told at this offset
abbrev pub section_found : (offset : ℕ) → List AddressRange → List Ended → List Finding
section_found offset ranges sequences =
    overlaps_after [] sequences ++ flat_map (no_code_found offset sequences) ranges
