-- The cuts of spans, by tests. No promise rests on how this is said.
use Rattle.std.specs.Prelude.{◌≡◌, ℕ, ◌*◌, ◌<◌, ◌≤◌, Bool, true, false, ◌&&◌, ◌==◌, if◌then◌else◌, List, [], ◌∷◌, length, slice_index_or}
use Rattle.dl_look.specs.declared.place.Place.{Place}
use Rattle.dl_look.specs.declared.probed.Span.{Span}
use Rattle.dl_look.specs.declared.cuts.Cut.{Cut}
use Rattle.dl_look.specs.Answer.{is_below}
use Rattle.dl_look.specs.Cuts.{first_from, no_cut, no_span, cut_place}

abbrev pub is_place : Place → Place → Bool
is_place p q = (p.address == q.address) && (p.op_index == q.op_index)

-- a cut stands at the place
abbrev pub has_place : Place → List Cut → Bool
has_place p [] = false
has_place p (c ∷ cuts) = if is_place c.place p then true else has_place p cuts

-- what AreCuts says, where it is told by a test whether a cut stands at a place
pub record CutsStand (spans : List Span) (cuts : List Cut) : Type 0 where
  pub few : length cuts ≤ 2 * length spans
  pub rise : (k m : ℕ) → k < m → m < length cuts → is_below (cut_place cuts k) (cut_place cuts m) ≡ true
  pub right : (k : ℕ) → k < length cuts
      → (slice_index_or cuts k no_cut).sequence ≡ first_from 0 spans (cut_place cuts k)
  pub begins : (i : ℕ) → i < length spans → has_place (slice_index_or spans i no_span).first cuts ≡ true
  pub ends : (i : ℕ) → i < length spans → has_place (slice_index_or spans i no_span).last cuts ≡ true
