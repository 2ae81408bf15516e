-- Sequences that cover a place that one before them covers. DWARF 5, sections 6.2.2 and 6.2.5.3: an end row ends a sequence, and the
-- instruction at a place is that of one sequence.
use Rattle.std.specs.Prelude.{ℕ, ◌&&◌, Bool, List, [], ◌∷◌, map, take, Option, Some, None, slice_get}
use Rattle.std.specs.List.{filter, find, list_all, list_any}
use Rattle.dl_look.specs.declared.place.Place.{Place}
use Rattle.dl_look.specs.Answer.{is_at_most}
use Rattle.dl_findings.specs.declared.finding.Finding.{Finding}
use Rattle.dl_findings.specs.declared.finding.Found.TheVariants as found
use Rattle.dl_sequence_rules.specs.declared.ended.Ended.{Ended}
use Rattle.dl_sequence_rules.specs.Covering.{covers_place}

-- the sequence covers the place, and so does one of the earlier ones
abbrev pub both_cover : (earlier : List Ended) → Ended → Place → Bool
both_cover earlier s x = covers_place x s && list_any (covers_place x) earlier

-- the places where these begin
abbrev pub begins : List Ended → List Place
begins sequences = map (λ s. s.first) sequences

-- the one of these places that is above none of them
abbrev pub least : List Place → Option Place
least places = find (λ x. list_all (is_at_most x) places) places

-- the first place that both cover, at which one of them begins
abbrev pub first_of_both : (earlier : List Ended) → Ended → Option Place
first_of_both earlier s = least (filter (both_cover earlier s) (begins (s ∷ earlier)))

-- the sequence covers the place, and so does the other one
abbrev pub overlap_of : Ended → Place → (other : Ended) → Finding
overlap_of s x other = record { offset = s.offset; row = Some s.row; found = found.Overlap x other.unit }

abbrev pub overlap_with : Ended → Place → (first_other : Option Ended) → List Finding
overlap_with s x None = []
overlap_with s x (Some other) = overlap_of s x other ∷ []

-- the first of the earlier ones that covers the place is told
abbrev pub overlap_found_at : (earlier : List Ended) → Ended → Option Place → List Finding
overlap_found_at earlier s None = []
overlap_found_at earlier s (Some x) = overlap_with s x (find (covers_place x) earlier)

abbrev pub overlap_found : (earlier : List Ended) → Ended → List Finding
overlap_found earlier s = overlap_found_at earlier s (first_of_both earlier s)

-- of the sequence at a place of a list, from 0 on
abbrev pub overlap_of_one : (earlier : List Ended) → Option Ended → List Finding
overlap_of_one earlier None = []
overlap_of_one earlier (Some s) = overlap_found earlier s

abbrev pub overlap_at : List Ended → (at : ℕ) → List Finding
overlap_at sequences at = overlap_of_one (take at sequences) (slice_get sequences at)
