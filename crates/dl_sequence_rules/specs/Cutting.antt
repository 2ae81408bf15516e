-- What is seen of cuts. No promise rests on this file.
use Rattle.std.specs.Prelude.{◌≡◌, ℕ, ◌<◌, ◌==◌, not, nat_lt, if◌then◌else◌, Bool, true, false, List, length, map, Option, Some, None, slice_get, slice_index_or}
use Rattle.dl_look.specs.declared.code_ranges.AddressRange.{AddressRange}
use Rattle.dl_look.specs.declared.cuts.Cut.{Cut}
use Rattle.dl_look.specs.declared.probed.Span.{Span}
use Rattle.dl_look.specs.Answer.{is_below}
use Rattle.dl_look.specs.Cuts.{cut_place, no_cut, no_span}
use Rattle.dl_sequence_rules.specs.declared.ended.Ended.{Ended}
use Rattle.dl_sequence_rules.specs.Covering.{first_address, touches}

-- a sequence as a span that covers the same places
abbrev pub span_of : Ended → Span
span_of s = record { start = 0; len = 0; first = s.first; last = s.row.place; rising = true }

abbrev pub spans_of : List Ended → List Span
spans_of sequences = map span_of sequences

-- the sequence covers an address
abbrev pub has_address : Ended → Bool
has_address s = nat_lt (first_address s.first) (first_address s.row.place)

-- of those that cover an address; of the others spans that cover nothing
abbrev pub address_span_of : Ended → Span
address_span_of s = if has_address s then span_of s else no_span

abbrev pub address_spans_of : List Ended → List Span
address_spans_of sequences = map address_span_of sequences

-- their places rise strictly
abbrev pub DoRise : List Cut → Type 0
DoRise cuts = (k m : ℕ) → k < m → m < length cuts → is_below (cut_place cuts k) (cut_place cuts m) ≡ true

-- the number of the sequence that answers for a cut
abbrev pub owner_at : List Cut → ℕ → Option ℕ
owner_at cuts k = (slice_index_or cuts k no_cut).sequence

abbrev pub is_other : (number : ℕ) → (owner : Option ℕ) → Bool
is_other number None = false
is_other number (Some other) = not (other == number)

abbrev pub one_touches : AddressRange → Option Ended → Bool
one_touches r None = false
one_touches r (Some s) = touches r s

abbrev pub owner_touches : List Ended → AddressRange → (owner : Option ℕ) → Bool
owner_touches sequences r None = false
owner_touches sequences r (Some number) = one_touches r (slice_get sequences number)
