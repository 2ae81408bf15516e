-- Where cuts that rise reach a place.
use Rattle.std.proofs.Common.{◌≡◌, ◌∙◌, ℕ, ◌<◌, ◌≤◌, Bool, true, List, length, get_or, ap, ⊎_elim, arith}
use Rattle.std.proofs.lemmas.Bool.{cases_eq}
use Rattle.std.proofs.lemmas.List.{get_or_default}
use Rattle.dl_look.specs.declared.cuts.Cut.{Cut}
use Rattle.dl_look.specs.declared.place.Place.{Place}
use Rattle.dl_look.specs.Answer.{is_below}
use Rattle.dl_look.specs.Cuts.{cut_place, no_cut}
use Rattle.dl_sequence_rules.specs.Cutting.{DoRise}

-- a test of places that holds of each place below one of which it holds holds of the cuts before one of which it holds
pub reached : (test : Place → Bool) → ((p q : Place) → is_below p q ≡ true → test q ≡ true → test p ≡ true)
    → (cuts : List Cut) → DoRise cuts → (i j : ℕ) (d : Cut) → i ≤ j → j < length cuts
    → test (get_or cuts j d).place ≡ true → test (get_or cuts i d).place ≡ true
reached test down cuts rise i j d le lt holds =
    ⊎_elim
    (λ here. ap (λ n. test (get_or cuts n d).place) here ∙ holds)
    (λ ne. down (get_or cuts i d).place (get_or cuts j d).place
    (ap (λ (c : Cut). is_below c.place (get_or cuts j d).place) (get_or_default cuts i d no_cut (omega arith))
    ∙ ap (λ (c : Cut). is_below (cut_place cuts i) c.place) (get_or_default cuts j d no_cut lt)
    ∙ rise i j (omega arith) lt) holds)
    (cases_eq i j)
