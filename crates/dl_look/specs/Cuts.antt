-- From which places on which sequence is the first rising one that covers, of sequences of which spans are kept.
use Rattle.std.specs.Prelude.{◌≡◌, ℕ, suc, ◌*◌, ◌<◌, ◌≤◌, Bool, true, false, ◌&&◌, if◌then◌else◌, List, [], ◌∷◌, length}
use Rattle.std.specs.Prelude.{slice_index_or, Option, Some, None}
use Rattle.dl_look.specs.declared.place.Place.{Place}
use Rattle.dl_look.specs.declared.probed.Span.{Span}
use Rattle.dl_look.specs.declared.cuts.Cut.{Cut}
use Rattle.dl_look.specs.Answer.{is_below, is_at_most}
use Rattle.dl_look.specs.Slots.{no_place}

abbrev pub covers_span : Place → Span → Bool
covers_span x s = s.rising && (is_at_most s.first x && is_below x s.last)

-- the number of the first rising one that covers x, of spans that are numbered from i on
abbrev pub first_from : ℕ → List Span → Place → Option ℕ
first_from i [] x = None
first_from i (s ∷ spans) x = if covers_span x s then Some i else first_from (suc i) spans x

-- the places where spans begin and end
abbrev pub ends_of_span : Span → List Place
ends_of_span s = s.first ∷ s.last ∷ []

-- for the numbers past the last one
abbrev pub no_cut : Cut
no_cut = record { place = no_place; sequence = None }

abbrev pub no_span : Span
no_span = record { start = 0; len = 0; first = no_place; last = no_place; rising = false }

abbrev pub cut_place : List Cut → ℕ → Place
cut_place cuts k = (slice_index_or cuts k no_cut).place

-- the cuts of spans: at most two a span, their places rise strictly, each tells the first rising span that covers its
-- place, and
-- a cut stands at each place where a span begins or ends
pub record AreCuts (spans : List Span) (cuts : List Cut) : Type 0 where
  pub few : length cuts ≤ 2 * length spans
  pub rise : (k m : ℕ) → k < m → m < length cuts → is_below (cut_place cuts k) (cut_place cuts m) ≡ true
  pub right : (k : ℕ) → k < length cuts
      → (slice_index_or cuts k no_cut).sequence ≡ first_from 0 spans (cut_place cuts k)
  pub begins : (i : ℕ) → i < length spans
      → (k : ℕ) × (k < length cuts) × (cut_place cuts k ≡ (slice_index_or spans i no_span).first)
  pub ends : (i : ℕ) → i < length spans
      → (k : ℕ) × (k < length cuts) × (cut_place cuts k ≡ (slice_index_or spans i no_span).last)
