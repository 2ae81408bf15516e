-- For which sequences values stand. No promise rests on this file.
use Rattle.std.specs.Prelude.{◌≡◌, ℕ, List, [], ◌∷◌, length}
use Rattle.dl_look.specs.Cuts.{AreCuts}
use Rattle.dl_findings.specs.Counting.{at_most_64_bits}
use Rattle.dl_sequence_rules.specs.declared.address_coverage.AddressCoverage.{AddressCoverage}
use Rattle.dl_sequence_rules.specs.declared.coverage.Coverage.{Coverage}
use Rattle.dl_sequence_rules.specs.declared.dead.DeadSequences.{DeadSequences}
use Rattle.dl_sequence_rules.specs.declared.ended.Ended.{Ended}
use Rattle.dl_sequence_rules.specs.Cutting.{address_spans_of, spans_of}

-- it tells which of these sequences is the first that covers a place
abbrev pub IsCoverage : Coverage → List Ended → Type 0
IsCoverage c sequences = AreCuts (spans_of sequences) c.cuts.items

-- which of those that cover an address
abbrev pub IsAddressCoverage : AddressCoverage → List Ended → Type 0
IsAddressCoverage c sequences = AreCuts (address_spans_of sequences) c.cuts.items

-- the sequences that begin at these addresses aren't live
abbrev pub AreDead : DeadSequences → (firsts : List ℕ) → Type 0
AreDead d [] = d.sequences ≡ 0
AreDead d (first ∷ firsts) = (d.sequences ≡ at_most_64_bits (length (first ∷ firsts))) × (d.first ≡ first)
