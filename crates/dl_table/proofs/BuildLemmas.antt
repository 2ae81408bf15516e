-- Values against the forms of their pairs, one pair at a time.
use Rattle.std.proofs.Common.{◌≡◌, ℕ, ◌+◌, ◌<◌, ◌≤◌, Bool, true, false, not, cond, eqb, ◌&&◌, ◌||◌, List, [], ◌∷◌}
use Rattle.std.proofs.Common.{length, drop, map, get_or, Option, Some, None, refl, sym, ap, arith, ◌∙◌}
use Rattle.std.specs.List.{list_any, list_all}
use Rattle.std.proofs.lemmas.List.{drop_more, drop_all, length-map, get_or-map}
use Rattle.dl_table.specs.declared.form.Format.{Format}
use Rattle.dl_table.specs.declared.form.Form.TheVariants.{Block2}
use Rattle.dl_table.specs.declared.table.Pair.{Pair}
use Rattle.dl_table.specs.declared.table.held.ValueRef.{ValueRef}
use Rattle.dl_table.specs.Value.{Value, number}
use Rattle.dl_table.specs.Held.{value_lent}
use Rattle.dl_table.specs.Built.{fits_form, wrong_value}

-- what stands for a pair where there is none
abbrev pub no_pair : Pair
no_pair = record { content = 0; form = Block2 }

-- none is zero where not any is
pub none_zero : (w : List ℕ) → list_all (λ b. not (eqb b 0)) w ≡ not (list_any (λ b. eqb b 0) w)
none_zero [] = refl
none_zero (b ∷ w) = elim (eqb b 0) as (λ z. (not z && list_all (λ c. not (eqb c 0)) w)
    ≡ not (z || list_any (λ c. eqb c 0) w)) [
      | true ↦ refl
      | false ↦ none_zero w
    ]

-- the test of the pair at a place decides, where there is a value
pub wrong_value-more : (format : Format) (pairs : List Pair) (values : List ValueRef) (i : ℕ) {v : ValueRef} {b : Bool}
    → i < length pairs → i < length values → v ≡ get_or values i v
    → b ≡ fits_form format (get_or pairs i no_pair).form (value_lent v)
    → wrong_value format i (drop i pairs) (drop i (map value_lent values))
    ≡ cond b (wrong_value format (i + 1) (drop (i + 1) pairs) (drop (i + 1) (map value_lent values))) (Some i)
wrong_value-more format pairs values i {v} {b} in_pairs in_values v_is fits =
    let within : i < length (map value_lent values) = omega (arith, length-map values value_lent) in
    let at : get_or (map value_lent values) i (value_lent v) ≡ value_lent v =
    get_or-map value_lent values i v (value_lent v) in_values ∙ ap value_lent (sym v_is) in
    rw (drop_more pairs i no_pair in_pairs, drop_more (map value_lent values) i (value_lent v) within, at, fits) refl

-- a value is missing
pub wrong_value-missing : (format : Format) (pairs : List Pair) (values : List ValueRef) (i : ℕ) → i < length pairs
    → length values ≤ i → wrong_value format i (drop i pairs) (drop i (map value_lent values)) ≡ Some i
wrong_value-missing format pairs values i in_pairs past =
    let past_all : length (map value_lent values) ≤ i = omega (arith, length-map values value_lent) in
    rw (drop_more pairs i no_pair in_pairs, drop_all i (map value_lent values) past_all) refl

-- no pair is left, but a value
pub wrong_value-many : (format : Format) (pairs : List Pair) (values : List ValueRef) (i : ℕ) → length pairs ≤ i
    → i < length values → wrong_value format i (drop i pairs) (drop i (map value_lent values)) ≡ Some i
wrong_value-many format pairs values i end in_values =
    let within : i < length (map value_lent values) = omega (arith, length-map values value_lent) in
    rw (drop_all i pairs end, drop_more (map value_lent values) i (number 0) within) refl

-- with nothing wrong there is one value for each pair
pub wrong_value-length : (format : Format) (i : ℕ) (pairs : List Pair) (values : List Value)
    → wrong_value format i pairs values ≡ None → length values ≡ length pairs
wrong_value-length format i [] [] h = refl
wrong_value-length format i [] (v ∷ values) h = cc
wrong_value-length format i (p ∷ pairs) [] h = cc
wrong_value-length format i (p ∷ pairs) (v ∷ values) h =
    (elim (fits_form format p.form v) as (λ b. cond b (wrong_value format (i + 1) pairs values) (Some i) ≡ None
    → length (v ∷ values) ≡ length (p ∷ pairs)) [
      | true ↦ λ e. omega (arith, wrong_value-length format (i + 1) pairs values e)
      | false ↦ λ e. cc
    ]) h

-- a test that found nothing wrong
pub nothing_wrong : (format : Format) (pairs seen : List Pair) (values : List Value) (found : Option ℕ) → seen ≡ pairs
    → found ≡ wrong_value format 0 seen values → found ≡ None → wrong_value format 0 pairs values ≡ None
nothing_wrong format pairs seen values found same is none =
    sym (is ∙ ap (λ (ps : List Pair). wrong_value format 0 ps values) same) ∙ none

pub values_counted : (format : Format) (pairs seen : List Pair) (values : List Value) (found : Option ℕ) → seen ≡ pairs
    → found ≡ wrong_value format 0 seen values → found ≡ None → length values ≡ length pairs
values_counted format pairs seen values found same is none =
    wrong_value-length format 0 pairs values (nothing_wrong format pairs seen values found same is none)
