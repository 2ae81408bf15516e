-- Places that are written into a room one after the other.
use Rattle.std.proofs.Common.{◌≡◌, ℕ, ◌+◌, ◌<◌, List, [], ◌∷◌, ◌++◌, length, map, take, get_or, sym, ap, ◌∙◌, arith}
use Rattle.std.proofs.lemmas.List.{length-map, map-append, take_more}
use Rattle.dl_lines.specs.declared.places.LinePlace.{LinePlace}
use Rattle.dl_source_buffers.specs.declared.line_places.PlaceRecord.{PlaceRecord}
use Rattle.dl_source_buffers.specs.LineCalls.{place_record}

abbrev pub records_upto : (n : ℕ) → List LinePlace → List PlaceRecord
records_upto n places = map place_record (take n places)

pub records_more : (places : List LinePlace) (n : ℕ) (d : LinePlace) → n < length places
    → records_upto (n + 1) places ≡ records_upto n places ++ place_record (get_or places n d) ∷ []
records_more places n d lt =
    ap (map place_record) (take_more places n d lt) ∙ map-append place_record (take n places) (get_or places n d ∷ [])

pub records_count : (places : List LinePlace) (n : ℕ) → n < length places → n ≡ length (records_upto n places)
records_count places n lt =
    omega (arith, length-map (take n places) place_record, Rattle.std.proofs.Common.length-take n places, lt)
