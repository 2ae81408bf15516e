-- Stretches of slots, and one more after them.
use Rattle.std.proofs.Common.{◌≡◌, ℕ, ◌+◌, ◌<◌, ◌≤◌, Bool, true, false, ◌&&◌, List, [], ◌∷◌, ◌++◌, length, take, drop}
use Rattle.std.proofs.Common.{get_or, Option, Some, None, refl, sym, ap, ap₂, ◌∙◌, ⊎_elim}
use Rattle.std.specs.Prelude.{if◌then◌else◌, nat_le, nat_lt}
use Rattle.std.specs.Option.{option_or}
use Rattle.std.proofs.lemmas.List.{take_more, drop_more, drop_all}
use Rattle.std.proofs.lemmas.Bool.{cases_lt, le-ltb, lt-ltb}
use Rattle.dl_rows.specs.declared.row.Row.{Row}
use Rattle.dl_look.specs.declared.place.Place.{Place}
use Rattle.dl_look.specs.declared.slots.Slot.{Slot}
use Rattle.dl_look.specs.declared.trail.Stretch.{Stretch}
use Rattle.dl_look.specs.Answer.{is_below}
use Rattle.dl_look.specs.Slots.{slot_place}
use Rattle.dl_look.specs.Trails.{start_of, row_at, no_stretch}

pub option_or_assoc : (a b c : Option Row) → option_or (option_or a b) c ≡ option_or a (option_or b c)
option_or_assoc None b c = refl
option_or_assoc (Some r) b c = refl

or_if : (b : Bool) (r : Row) (o p : Option Row)
    → (if b then Some r else option_or o p) ≡ option_or (if b then Some r else o) p
or_if true r o p = refl
or_if false r o p = refl

start_of-push : (trail : List Stretch) (s : Stretch) (end : ℕ) → start_of (trail ++ s ∷ []) end ≡ start_of trail s.start
start_of-push [] s end = refl
start_of-push (t ∷ trail) s end = refl

pub row_at-push : (trail : List Stretch) (s : Stretch) (end j : ℕ)
    → row_at (trail ++ s ∷ []) end j ≡ option_or (row_at trail s.start j) (if nat_le s.start j && nat_lt j end
    then Some s.row else None)
row_at-push [] s end j = refl
row_at-push (t ∷ trail) s end j =
    ap₂ (λ (e : ℕ) (o : Option Row). if nat_le t.start j && nat_lt j e then Some t.row
    else o) (start_of-push trail s end) (row_at-push trail s end j)
    ∙ or_if (nat_le t.start j && nat_lt j (start_of trail s.start)) t.row (row_at trail s.start j) (if nat_le s.start j
    && nat_lt j end then Some s.row else None)

-- the stretch i of a trail, after those before it
pub row_at-more : (trail : List Stretch) (end i j : ℕ) → i < length trail
    → row_at (take (i + 1) trail) (start_of (drop (i + 1) trail) end) j
    ≡ option_or (row_at (take i trail) (start_of (drop i trail) end) j) (if nat_le (get_or trail i no_stretch).start j
    && nat_lt j (start_of (drop (i + 1) trail) end) then Some (get_or trail i no_stretch).row else None)
row_at-more trail end i j lt =
    ap (λ l. row_at l (start_of (drop (i + 1) trail) end) j) (take_more trail i no_stretch lt)
    ∙ row_at-push (take i trail) (get_or trail i no_stretch) (start_of (drop (i + 1) trail) end) j
    ∙ ap (λ e. option_or (row_at (take i trail) e j) (if nat_le (get_or trail i no_stretch).start j
    && nat_lt j (start_of (drop (i + 1) trail) end) then Some (get_or trail i no_stretch).row else None))
    (sym (ap (λ l. start_of l end) (drop_more trail i no_stretch lt)))

-- where the stretch after the stretch i starts
pub start_within : (trail : List Stretch) (end k : ℕ) → k < length trail
    → start_of (drop k trail) end ≡ (get_or trail k no_stretch).start
start_within trail end k lt = ap (λ l. start_of l end) (drop_more trail k no_stretch lt)

pub start_after : (trail : List Stretch) (end k : ℕ) → length trail ≤ k → start_of (drop k trail) end ≡ end
start_after trail end k le = ap (λ l. start_of l end) (drop_all k trail le)

-- the slots before end are below the place, those from end on aren't
pub split_at : (slots : List Slot) (place : Place) (end : ℕ)
    → ((j : ℕ) → j < end → is_below (slot_place slots j) place ≡ true)
    → ((j : ℕ) → end ≤ j → j < length slots → is_below (slot_place slots j) place ≡ false) → (j : ℕ) → j < length slots
    → is_below (slot_place slots j) place ≡ nat_lt j end
split_at slots place end below rest j lt =
    ⊎_elim
    (λ less. below j less ∙ sym (lt-ltb j end less))
    (λ more. rest j more lt ∙ sym (le-ltb j end more))
    (cases_lt j end)
