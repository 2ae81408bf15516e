-- The last row that isn't above a place.
use Rattle.std.proofs.Common.{◌≡◌, ℕ, zero, suc, ◌<◌, Bool, true, false, List, [], ◌∷◌, ◌++◌, reverse, length, get_or}
use Rattle.std.proofs.Common.{Option, Some, None, arith, refl, ap, ap₂, ◌∙◌}
use Rattle.std.specs.Prelude.{if◌then◌else◌, is_none}
use Rattle.std.specs.List.{find}
use Rattle.std.specs.Option.{option_or}
use Rattle.std.proofs.lemmas.Bool.{and_parts}
use Rattle.std.proofs.lemmas.List.Folds.{find-append}
use Rattle.std.proofs.lemmas.List.{reverse-append}
use Rattle.dl_rows.specs.declared.row.Row.{Row}
use Rattle.dl_look.specs.declared.place.Place.{Place}
use Rattle.dl_look.specs.Answer.{place_of, is_below, is_at_most, is_rising, first_place, last_place, covers, last_upto}
use Rattle.dl_look.proofs.PlaceOrder.{at_most-trans, below_least}

-- a row for the places past a list's end
abbrev pub no_row : Row
no_row = record {
  address = 0;
  file = 0;
  line = 0;
  column = 0;
  isa = 0;
  discriminator = 0;
  op_index = 0;
  is_stmt = false;
  basic_block = false;
  end_sequence = false;
  prologue_end = false;
  epilogue_begin = false;
}

abbrev pub place_at : List Row → ℕ → Place
place_at s j = place_of (get_or s j no_row)

option_or-Some : (o : Option Row) (r : Row) → is_none (option_or o (Some r)) ≡ false
option_or-Some None r = refl
option_or-Some (Some q) r = refl

abbrev if_upto : Place → Row → Option Row
if_upto x r = if is_at_most (place_of r) x then Some r else None

last_upto-cons : (x : Place) (r : Row) (s : List Row) → last_upto x (r ∷ s) ≡ option_or (last_upto x s) (if_upto x r)
last_upto-cons x r s =
    ap (find (λ r. is_at_most (place_of r) x)) (reverse-append (r ∷ []) s)
    ∙ find-append (λ r. is_at_most (place_of r) x) (reverse s) (r ∷ [])

pub last_upto-push : (x : Place) (s : List Row) (r : Row)
    → last_upto x (s ++ r ∷ []) ≡ (if is_at_most (place_of r) x then Some r else last_upto x s)
last_upto-push x s r = ap (find (λ r. is_at_most (place_of r) x)) (reverse-append s (r ∷ []))

if_upto_above : (x : Place) (r : Row) → is_at_most (place_of r) x ≡ false → if_upto x r ≡ None
if_upto_above x r h = ap (λ (b : Bool). if b then Some r else None) h

if_upto_below : (x : Place) (r : Row) → is_at_most (place_of r) x ≡ true → if_upto x r ≡ Some r
if_upto_below x r h = ap (λ (b : Bool). if b then Some r else None) h

-- what isn't below a place above x is above x
pub stays_above : (p q x : Place) → is_at_most p q ≡ true → is_at_most p x ≡ false → is_at_most q x ≡ false
stays_above p q x le above =
    elim (is_at_most q x) as (λ b. is_at_most q x ≡ b → b ≡ false) [
      | true ↦ λ e. (let t = at_most-trans p q x le e in cc)
      | false ↦ λ e. refl
    ] refl

-- all of a run that rises from above x is above x
none_upto : (x : Place) (r : Row) (s : List Row) → is_rising (r ∷ s) ≡ true → is_at_most (place_of r) x ≡ false
    → last_upto x (r ∷ s) ≡ None
none_upto x r [] h above = if_upto_above x r above
none_upto x r (t ∷ s) h above =
    let p = and_parts (is_at_most (place_of r) (place_of t)) (is_rising (t ∷ s)) h in
    last_upto-cons x r (t ∷ s)
    ∙ ap₂ option_or (none_upto x t s p.1 (stays_above (place_of r) (place_of t) x p.0 above)) (if_upto_above x r above)

-- a sequence that covers x has a row that isn't above x
pub some_upto : (x : Place) (s : List Row) → covers x s ≡ true → is_none (last_upto x s) ≡ false
some_upto x [] h = absurd (below_least x (and_parts (is_at_most (first_place []) x) (is_below x (last_place [])) h).1)
some_upto x (r ∷ s) h =
    let p = and_parts (is_at_most (place_of r) x) (is_below x (last_place (r ∷ s))) h in
    ap is_none (last_upto-cons x r s ∙ ap (option_or (last_upto x s)) (if_upto_below x r p.0))
    ∙ option_or-Some (last_upto x s) r

-- the row before one that is above x
pub last_upto-between : (x : Place) (j : ℕ) (s : List Row) → is_rising s ≡ true → suc j < length s
    → is_at_most (place_at s j) x ≡ true → is_at_most (place_at s (suc j)) x ≡ false
    → last_upto x s ≡ Some (get_or s j no_row)
last_upto-between x j [] h lt upto above = absurd (omega arith)
last_upto-between x j (r ∷ []) h lt upto above = absurd (omega arith)
last_upto-between x zero (r ∷ t ∷ s) h lt upto above =
    let p = and_parts (is_at_most (place_of r) (place_of t)) (is_rising (t ∷ s)) h in
    last_upto-cons x r (t ∷ s) ∙ ap₂ option_or (none_upto x t s p.1 above) (if_upto_below x r upto)
last_upto-between x (suc j) (r ∷ t ∷ s) h lt upto above =
    let p = and_parts (is_at_most (place_of r) (place_of t)) (is_rising (t ∷ s)) h in
    last_upto-cons x r (t ∷ s)
    ∙ ap (λ o. option_or o (if_upto x r)) (last_upto-between x j (t ∷ s) p.1 (omega arith) upto above)
