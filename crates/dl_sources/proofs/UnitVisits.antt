-- The visits of one unit among those of a section.
use Rattle.std.proofs.Common.{◌≡◌, ◌≤◌, ◌+◌, ◌∙◌, ◌++◌, ◌∷◌, ◌||◌, ℕ, List, [], map, Bool, true, false, Option, Some, None}
use Rattle.std.proofs.Common.{refl, sym, ap, append_assoc, true≢false, arith}
use Rattle.std.specs.Prelude.{◌==◌, if◌then◌else◌}
use Rattle.std.specs.Option.{option_or}
use Rattle.std.proofs.lemmas.Bool.{or_parts}
use Rattle.dl_field.specs.HeaderData.{HeaderData, header_cells}
use Rattle.dl_rows.specs.declared.row.Row.{Row}
use Rattle.dl_rows.specs.Items.{Item, a_byte, a_row, an_operation}
use Rattle.dl_print.specs.ValueText.{Strings}
use Rattle.dl_sections.specs.Copying.{row_count}
use Rattle.dl_sections.specs.Section.{Visit, of_damage, of_end, of_header, of_item, of_open, of_version}
use Rattle.dl_sections.specs.Visiting.{header_told}
use Rattle.dl_sources.specs.declared.question.SourcesQuestion.{SourcesQuestion}
use Rattle.dl_sources.specs.declared.unit_listing.Current.{Current}
use Rattle.dl_sources.specs.declared.unit_listing.Current.TheVariants.{Foreign, Other, Own}
use Rattle.dl_making.specs.Few.{AreFew, cells_told}
use Rattle.dl_sources.specs.Listing.{told_after}
use Rattle.dl_sources.specs.UnitListing.{begins_in, damage_in, first_damage, is_after, is_last, is_other, is_over, is_own, is_then, is_told}
use Rattle.dl_sources.specs.UnitListing.{known_as, told_in}

or_or : (a b c : Bool) → (a || (b || c)) ≡ ((a || b) || c)
or_or true b c = refl
or_or false b c = refl

pub or-false : (a : Bool) → (a || false) ≡ a
or-false true = refl
or-false false = refl

pub option_or_or : {A : Type 0} (a b c : Option A) → option_or (option_or a b) c ≡ option_or a (option_or b c)
option_or_or None b c = refl
option_or_or (Some x) b c = refl

pub option_or-none : {A : Type 0} (a : Option A) → option_or a None ≡ a
option_or-none None = refl
option_or-none (Some x) = refl

-- ---- visits one after the other

module _ (unit : ℕ) where
  pub after-append : (was : Current) (a b : List Visit) → is_after unit was (a ++ b) ≡ is_after unit (is_after unit was a) b
  after-append was [] b = refl
  after-append was (v ∷ a) b = after-append (is_then unit was v) a b

  pub told-append : (was : Current) (a b : List Visit)
      → told_in unit was (a ++ b) ≡ told_in unit was a ++ told_in unit (is_after unit was a) b
  told-append was [] b = refl
  told-append was (v ∷ a) b =
      let mine = if is_told unit was v then v ∷ [] else [] in
      ap (λ (l : List Visit). mine ++ l) (told-append (is_then unit was v) a b)
      ∙ sym (append_assoc mine (told_in unit (is_then unit was v) a) (told_in unit (is_after unit (is_then unit was v) a) b))

  pub over-append : (was : Current) (a b : List Visit)
      → is_over unit was (a ++ b) ≡ (is_over unit was a || is_over unit (is_after unit was a) b)
  over-append was [] b = refl
  over-append was (v ∷ a) b =
      ap (λ (is : Bool). is_last was v || is) (over-append (is_then unit was v) a b)
      ∙ or_or (is_last was v) (is_over unit (is_then unit was v) a) (is_over unit (is_after unit (is_then unit was v) a) b)

  pub damage-append : (a b : List Visit)
      → first_damage unit (a ++ b) ≡ option_or (first_damage unit a) (first_damage unit b)
  damage-append [] b = refl
  damage-append (v ∷ a) b =
      ap (option_or (damage_in unit v)) (damage-append a b)
      ∙ sym (option_or_or (damage_in unit v) (first_damage unit a) (first_damage unit b))

  -- what isn't over isn't over before
  pub over_before : (was : Current) (a b : List Visit) → is_over unit was (a ++ b) ≡ false → is_over unit was a ≡ false
  over_before was a b none = (or_parts (is_over unit was a) _ (sym (over-append was a b) ∙ none)).0

  pub over_later : (was : Current) (a b : List Visit) → is_over unit was (a ++ b) ≡ false
      → is_over unit (is_after unit was a) b ≡ false
  over_later was a b none = (or_parts (is_over unit was a) _ (sym (over-append was a b) ∙ none)).1

  -- ---- what the lister is told

  -- the header that it was told is that of the visits, where the last visit is of the unit
  pub same_header : (was : Current) (a b : Option HeaderData) → (was ≡ Own → a ≡ b) → (visits : List Visit)
      → is_after unit was visits ≡ Own → header_told a (told_in unit was visits) ≡ header_told b visits
  same_header was a b same [] own = same own
  same_header was a b same (of_header n l h ∷ visits) own =
      by (n == unit) (same_header Own (Some h) (Some h) (λ e. refl) visits)
      (same_header Other a (Some h) (λ e. absurd cc) visits) own
    where
      by : (is : Bool)
          → (is_after unit Own visits ≡ Own → header_told (Some h) (told_in unit Own visits) ≡ header_told (Some h) visits)
          → (is_after unit Other visits ≡ Own → header_told a (told_in unit Other visits) ≡ header_told (Some h) visits)
          → is_after unit (if is then Own else Other) visits ≡ Own
          → header_told a ((if is then of_header n l h ∷ [] else []) ++ told_in unit (if is then Own else Other) visits)
          ≡ header_told (Some h) visits
      by true mine other own = mine own
      by false mine other own = other own
  same_header was a b same (of_version n v ∷ visits) own =
      same_header (known_as unit n Foreign) a b (λ e. absurd (not_own (n == unit) e)) visits own
    where
      not_own : (is : Bool) → (if is then Foreign else Other) ≡ Own → ⊥
      not_own true e = absurd cc
      not_own false e = absurd cc
  same_header Own a b same (of_item i ∷ visits) own = same_header Own a b same visits own
  same_header Other a b same (of_item i ∷ visits) own = same_header Other a b same visits own
  same_header Foreign a b same (of_item i ∷ visits) own = same_header Foreign a b same visits own
  same_header Own a b same (of_open ∷ visits) own = same_header Own a b same visits own
  same_header Other a b same (of_open ∷ visits) own = same_header Other a b same visits own
  same_header Foreign a b same (of_open ∷ visits) own = same_header Foreign a b same visits own
  same_header Own a b same (of_end h ∷ visits) own = same_header Other None None (λ e. refl) visits own
  same_header Other a b same (of_end h ∷ visits) own = same_header Other a None (λ e. absurd cc) visits own
  same_header Foreign a b same (of_end h ∷ visits) own = same_header Other a None (λ e. absurd cc) visits own
  same_header was a b same (of_damage n at kind ∷ visits) own = same_header Other a None (λ e. absurd cc) visits own

  -- before the unit ends nothing is told of its files
  pub none_told : (s : Strings) (q : SourcesQuestion) (was : Current) (rows : List Row) (m : ℕ) (visits : List Visit)
      → is_over unit was visits ≡ false → told_after s q rows m (told_in unit was visits) ≡ []
  none_told s q was rows m [] going = refl
  none_told s q was rows m (of_header n l h ∷ visits) going =
      by (n == unit) (none_told s q Own [] n visits) (none_told s q Other rows m visits) going
    where
      by : (is : Bool) → (is_over unit Own visits ≡ false → told_after s q [] n (told_in unit Own visits) ≡ [])
          → (is_over unit Other visits ≡ false → told_after s q rows m (told_in unit Other visits) ≡ [])
          → is_over unit (if is then Own else Other) visits ≡ false
          → told_after s q rows m
          ((if is then of_header n l h ∷ [] else []) ++ told_in unit (if is then Own else Other) visits) ≡ []
      by true mine other going = mine going
      by false mine other going = other going
  none_told s q was rows m (of_version n v ∷ visits) going = none_told s q (known_as unit n Foreign) rows m visits going
  none_told s q Own rows m (of_item (a_byte x) ∷ visits) going = none_told s q Own rows m visits going
  none_told s q Own rows m (of_item (an_operation header o) ∷ visits) going = none_told s q Own rows m visits going
  none_told s q Own rows m (of_item (a_row header r) ∷ visits) going = none_told s q Own (rows ++ r ∷ []) m visits going
  none_told s q Other rows m (of_item i ∷ visits) going = none_told s q Other rows m visits going
  none_told s q Foreign rows m (of_item i ∷ visits) going = none_told s q Foreign rows m visits going
  none_told s q Own rows m (of_open ∷ visits) going = none_told s q Own rows m visits going
  none_told s q Other rows m (of_open ∷ visits) going = none_told s q Other rows m visits going
  none_told s q Foreign rows m (of_open ∷ visits) going = none_told s q Foreign rows m visits going
  none_told s q Own rows m (of_end h ∷ visits) going = absurd (true≢false going)
  none_told s q Foreign rows m (of_end h ∷ visits) going = absurd (true≢false going)
  none_told s q Other rows m (of_end h ∷ visits) going = none_told s q Other rows m visits going
  none_told s q was rows m (of_damage n at kind ∷ visits) going = none_told s q Other rows m visits going

  -- ---- items

  pub after_items : (was : Current) (items : List Item) → is_after unit was (map of_item items) ≡ was
  after_items was [] = refl
  after_items was (i ∷ items) = after_items was items

  pub over_items : (was : Current) (items : List Item) → is_over unit was (map of_item items) ≡ false
  over_items was [] = refl
  over_items was (i ∷ items) = over_items was items

  pub own_items : (items : List Item) (more : List Visit)
      → told_in unit Own (map of_item items ++ more) ≡ map of_item items ++ told_in unit Own more
  own_items [] more = refl
  own_items (i ∷ items) more = ap (λ (l : List Visit). of_item i ∷ l) (own_items items more)

  pub damage_items : (items : List Item) → first_damage unit (map of_item items) ≡ None
  damage_items [] = refl
  damage_items (i ∷ items) = damage_items items

  pub begins_items : (items : List Item) → begins_in unit (map of_item items) ≡ false
  begins_items [] = refl
  begins_items (i ∷ items) = begins_items items

  -- where the last visit is of the unit, that has begun
  pub begun_before : (was : Current) (visits : List Visit) → is_other was ≡ true → is_other (is_after unit was visits) ≡ false
      → begins_in unit visits ≡ true
  begun_before was [] other wanted = absurd (true≢false (sym other ∙ wanted))
  begun_before was (of_header n l h ∷ visits) other wanted = by (n == unit) (begun_before Other visits refl) wanted where
    by : (is : Bool) → (is_other (is_after unit Other visits) ≡ false → begins_in unit visits ≡ true)
        → is_other (is_after unit (if is then Own else Other) visits) ≡ false → (is || begins_in unit visits) ≡ true
    by true later wanted = refl
    by false later wanted = later wanted
  begun_before was (of_version n v ∷ visits) other wanted = by (n == unit) (begun_before Other visits refl) wanted where
    by : (is : Bool) → (is_other (is_after unit Other visits) ≡ false → begins_in unit visits ≡ true)
        → is_other (is_after unit (if is then Foreign else Other) visits) ≡ false → (is || begins_in unit visits) ≡ true
    by true later wanted = refl
    by false later wanted = later wanted
  begun_before was (of_item i ∷ visits) other wanted = begun_before was visits other wanted
  begun_before was (of_open ∷ visits) other wanted = begun_before was visits other wanted
  begun_before was (of_end h ∷ visits) other wanted = begun_before Other visits refl wanted
  begun_before was (of_damage n at kind ∷ visits) other wanted = begun_before Other visits refl wanted

  -- ---- the lister is told no more than there is

  cells_fewer : (was : Current) (visits : List Visit) → cells_told (told_in unit was visits) ≤ cells_told visits
  cells_fewer was [] = omega arith
  cells_fewer was (of_header n l h ∷ visits) =
      by (n == unit) (cells_fewer Own visits) (cells_fewer Other visits)
    where
      by : (is : Bool) → cells_told (told_in unit Own visits) ≤ cells_told visits
          → cells_told (told_in unit Other visits) ≤ cells_told visits
          → cells_told ((if is then of_header n l h ∷ [] else []) ++ told_in unit (if is then Own else Other) visits)
          ≤ cells_told visits + header_cells h
      by true own other = omega (arith, own)
      by false own other = omega (arith, other)
  cells_fewer was (of_version n v ∷ visits) = cells_fewer (known_as unit n Foreign) visits
  cells_fewer was (of_item i ∷ visits) = by (is_own was) (cells_fewer was visits) where
    by : (is : Bool) → cells_told (told_in unit was visits) ≤ cells_told visits
        → cells_told ((if is then of_item i ∷ [] else []) ++ told_in unit was visits) ≤ cells_told visits
    by true few = few
    by false few = few
  cells_fewer was (of_open ∷ visits) = by (is_own was) (cells_fewer was visits) where
    by : (is : Bool) → cells_told (told_in unit was visits) ≤ cells_told visits
        → cells_told ((if is then of_open ∷ [] else []) ++ told_in unit was visits) ≤ cells_told visits
    by true few = few
    by false few = few
  cells_fewer was (of_end h ∷ visits) = by (is_own was) (cells_fewer Other visits) where
    by : (is : Bool) → cells_told (told_in unit Other visits) ≤ cells_told visits
        → cells_told ((if is then of_end h ∷ [] else []) ++ told_in unit Other visits) ≤ cells_told visits
    by true few = few
    by false few = few
  cells_fewer was (of_damage n at kind ∷ visits) = cells_fewer Other visits

  rows_fewer : (was : Current) (visits : List Visit) → row_count (told_in unit was visits) ≤ row_count visits
  rows_fewer was [] = omega arith
  rows_fewer was (of_header n l h ∷ visits) = by (n == unit) (rows_fewer Own visits) (rows_fewer Other visits) where
    by : (is : Bool) → row_count (told_in unit Own visits) ≤ row_count visits
        → row_count (told_in unit Other visits) ≤ row_count visits
        → row_count ((if is then of_header n l h ∷ [] else []) ++ told_in unit (if is then Own else Other) visits)
        ≤ row_count visits
    by true own other = own
    by false own other = other
  rows_fewer was (of_version n v ∷ visits) = rows_fewer (known_as unit n Foreign) visits
  rows_fewer was (of_item (a_byte x) ∷ visits) = by (is_own was) (rows_fewer was visits) where
    by : (is : Bool) → row_count (told_in unit was visits) ≤ row_count visits
        → row_count ((if is then of_item (a_byte x) ∷ [] else []) ++ told_in unit was visits) ≤ row_count visits
    by true few = few
    by false few = few
  rows_fewer was (of_item (an_operation header o) ∷ visits) = by (is_own was) (rows_fewer was visits) where
    by : (is : Bool) → row_count (told_in unit was visits) ≤ row_count visits
        → row_count ((if is then of_item (an_operation header o) ∷ [] else []) ++ told_in unit was visits) ≤ row_count visits
    by true few = few
    by false few = few
  rows_fewer was (of_item (a_row header r) ∷ visits) = by (is_own was) (rows_fewer was visits) where
    by : (is : Bool) → row_count (told_in unit was visits) ≤ row_count visits
        → row_count ((if is then of_item (a_row header r) ∷ [] else []) ++ told_in unit was visits) ≤ row_count visits + 1
    by true few = omega (arith, few)
    by false few = omega (arith, few)
  rows_fewer was (of_open ∷ visits) = by (is_own was) (rows_fewer was visits) where
    by : (is : Bool) → row_count (told_in unit was visits) ≤ row_count visits
        → row_count ((if is then of_open ∷ [] else []) ++ told_in unit was visits) ≤ row_count visits
    by true few = few
    by false few = few
  rows_fewer was (of_end h ∷ visits) = by (is_own was) (rows_fewer Other visits) where
    by : (is : Bool) → row_count (told_in unit Other visits) ≤ row_count visits
        → row_count ((if is then of_end h ∷ [] else []) ++ told_in unit Other visits) ≤ row_count visits
    by true few = few
    by false few = few
  rows_fewer was (of_damage n at kind ∷ visits) = rows_fewer Other visits

  pub few_told : (was : Current) (visits : List Visit) (n : ℕ) → AreFew n visits → AreFew n (told_in unit was visits)
  few_told was visits n few = record {
    rows = omega (arith, rows_fewer was visits, few.rows);
    cells = omega (arith, cells_fewer was visits, few.cells);
  }
