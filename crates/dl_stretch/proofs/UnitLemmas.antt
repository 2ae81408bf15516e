-- The rows of units, as spans with runs.
use Rattle.std.proofs.Common.{◌≡◌, ℕ, ◌<◌, ◌^◌, Bool, true, false, ◌&&◌, List, [], ◌∷◌, ◌++◌, map, Option, Some, None}
use Rattle.std.proofs.Common.{refl, sym, ap, ap₂, subst, ◌∙◌}
use Rattle.std.specs.Prelude.{if◌then◌else◌, is_none, IfOk, Result, Ok, Err}
use Rattle.std.specs.Option.{option_map, option_or}
use Rattle.std.proofs.lemmas.Bool.{and_parts}
use Rattle.dl_rows.specs.declared.row.Row.{Row}
use Rattle.dl_look.specs.declared.place.Place.{Place}
use Rattle.dl_look.specs.Answer.{place_of, is_at_most, is_below, covers, last_upto}
use Rattle.dl_look.specs.Answer.{answer}
use Rattle.dl_look.specs.FinderRows.{unended}
use Rattle.dl_look.specs.LiveRows.{live_rows, live_answer}
use Rattle.dl_look.specs.Units.{answer_of_units}
use Rattle.dl_look.proofs.LastUpto.{last_upto-push}
use Rattle.dl_look.proofs.LiveLemmas.{of_live_rows}
use Rattle.dl_look.proofs.MoreRows.{answer-push, answer-push_end, answers_for, last_place-push, unended-push}
use Rattle.dl_look.proofs.PlaceOrder.{above-below}
use Rattle.dl_stretch.specs.declared.told.Told.{Told}
use Rattle.dl_stretch.specs.declared.run.Run.{Run}
use Rattle.dl_stretch.specs.declared.run_spans.RunSpans.{RunSpans}
use Rattle.dl_stretch.specs.Held.{held}
use Rattle.dl_stretch.specs.Runs.{place_at, told_of, renumbered, run_told_at}
use Rattle.dl_stretch.specs.Sequences.{Keeps, TellsFirst}
use Rattle.dl_stretch.specs.Parts.{current}
use Rattle.dl_stretch.specs.Stands.{Holds, unit_answer}
use Rattle.dl_stretch.specs.ToldUnits.{UnitRows, told_of_units}
use Rattle.dl_stretch.specs.Laws.{TellsAnswers}
use Rattle.dl_stretch.proofs.RunLemmas.{row_told}
use Rattle.dl_stretch.proofs.SequenceLemmas.{first-more}

pub both_ok : {A E : Type 0} (r : Result A E) (P Q : A → Type 0) → IfOk r P → IfOk r Q → IfOk r (λ x. P x × Q x)
both_ok (Ok x) P Q p q = (p, q)
both_ok (Err e) P Q p q = tt

-- ---- a row after which its sequence goes on

pub goes_on : (old new : RunSpans) (rows : List Row) (r : Row) → r.end_sequence ≡ false → Holds old rows
    → ((a : ℕ) → unit_answer new a ≡ unit_answer old a)
    → (Keeps old.list.state (current old.list) (unended rows)
    → Keeps new.list.state (current new.list) (unended rows ++ r ∷ []))
    → Holds new (rows ++ r ∷ [])
goes_on old new rows r more holds same keeps = record {
  right = λ a lt. same a ∙ holds.right a lt ∙ sym (ap (option_map row_told) (answer-push rows r (place_at a) more));
  kept = subst (Keeps new.list.state (current new.list)) (sym (unended-push [] rows r more)) (keeps holds.kept);
}

-- ---- an end row

or-none : (o : Option Told) → option_or o None ≡ o
or-none None = refl
or-none (Some t) = refl

pub or_when : (a : ℕ) (first end : Place) (o p : Option Told) (runs seen : List Run) → o ≡ p → seen ≡ runs
    → option_or o (if is_at_most first (place_at a) && is_below (place_at a) end then run_told_at seen a else None)
    ≡ option_or p (if is_at_most first (place_at a) && is_below (place_at a) end then run_told_at runs a else None)
or_when a first end o p runs seen same is =
    ap₂ (λ o l. option_or o (if is_at_most first (place_at a) && is_below (place_at a) end then run_told_at l a
    else None)) same is

-- where the sequence covers the address, and where it doesn't
chosen : (o l : Option Row) (test : Bool) (t : Option Told) → (test ≡ true → t ≡ option_map row_told l)
    → option_or (option_map row_told o) (if test then t else None)
    ≡ option_map row_told (if is_none o && test then l else o)
chosen None l true t is = is refl
chosen None l false t is = refl
chosen (Some r) l test t is = refl

module _ (rows : List Row) (r : Row) (ends : r.end_sequence ≡ true) (runs : List Run) (a : ℕ) where
  abbrev x : Place
  x = place_at a

  abbrev s : List Row
  s = unended rows ++ r ∷ []

  pub none_more : TellsFirst None runs (unended rows) r
      → option_map row_told (answer rows x) ≡ option_map row_told (answer (rows ++ r ∷ []) x)
  none_more none =
      sym (or-none (option_map row_told (answer rows x)))
      ∙ chosen (answer rows x) (last_upto x s) false None (λ e. cc)
      ∙ ap (option_map row_told) (ap (λ (b : Bool). if is_none (answer rows x) && b then last_upto x s else answer rows x)
      (sym (none x)) ∙ sym (answer-push_end rows r x ends))

  module _ (small : a < 2 ^ 64) (first : Place) (end : Place) (at : end ≡ place_of r)
      (tells : TellsFirst (Some first) runs (unended rows) r) where
    covers_is : (is_at_most first x && is_below x end) ≡ covers x s
    covers_is =
        ap₂ (λ p q. is_at_most p x && is_below x q) (tells.2 ∙ sym (first-more (unended rows) r tells.1))
        (at ∙ sym (last_place-push (unended rows) r))

    test_is : (is_at_most first x && is_below x end) ≡ answers_for x s
    test_is = covers_is ∙ sym (ap (λ b. b && covers x s) tells.0)

    told_is : (is_at_most first x && is_below x end) ≡ true → run_told_at runs a ≡ option_map row_told (last_upto x s)
    told_is h =
        let below = and_parts (is_at_most first x) (is_below x end) h in
        let above = above-below x (place_of r) (ap (is_below x) (sym at) ∙ below.1) in
        tells.3.right a small
        ∙ sym (ap (option_map row_told) (last_upto-push x (unended rows) r
        ∙ ap (λ (b : Bool). if b then Some r else last_upto x (unended rows)) above))

    pub some_more : option_or (option_map row_told (answer rows x)) (if is_at_most first x && is_below x end
        then run_told_at runs a else None) ≡ option_map row_told (answer (rows ++ r ∷ []) x)
    some_more =
        chosen (answer rows x) (last_upto x s) (is_at_most first x && is_below x end) (run_told_at runs a) told_is
        ∙ ap (option_map row_told)
        (ap (λ (b : Bool). if is_none (answer rows x) && b then last_upto x s else answer rows x) test_is
        ∙ sym (answer-push_end rows r x ends))

-- ---- units one after the other

or-assoc : (o p q : Option Told) → option_or (option_or o p) q ≡ option_or o (option_or p q)
or-assoc None p q = refl
or-assoc (Some t) p q = refl

abbrev pub unit_told : (ℕ → Bool) → UnitRows → ℕ → Option Told
unit_told live u a = option_map (told_of u.number) (live_answer live u.rows (place_at a))

pub told_of_units-push : (live : ℕ → Bool) (units : List UnitRows) (u : UnitRows) (a : ℕ)
    → told_of_units live (units ++ u ∷ []) a ≡ option_or (told_of_units live units a) (unit_told live u a)
told_of_units-push live [] u a = or-none (unit_told live u a)
told_of_units-push live (v ∷ units) u a =
    ap (option_or (unit_told live v a)) (told_of_units-push live units u a)
    ∙ sym (or-assoc (unit_told live v a) (told_of_units live units a) (unit_told live u a))

renumbered-row : (number : ℕ → ℕ) (o : Option Row)
    → option_map (renumbered number) (option_map row_told o) ≡ option_map (told_of (λ file. number (held file))) o
renumbered-row number None = refl
renumbered-row number (Some r) = refl

-- a unit more
pub unit_more : (live : ℕ → Bool) (units : List UnitRows) (rows : List Row) (number : ℕ → ℕ) (a : ℕ)
    (whole unit : Option Told) → whole ≡ told_of_units live units a
    → unit ≡ option_map row_told (answer (live_rows live rows) (place_at a))
    → option_or whole (option_map (renumbered number) unit)
    ≡ told_of_units live (units ++ record { number = λ file. number (held file); rows = rows } ∷ []) a
unit_more live units rows number a whole unit is_whole is_unit =
    ap₂ (λ o p. option_or o (option_map (renumbered number) p)) is_whole is_unit
    ∙ ap (option_or (told_of_units live units a)) (renumbered-row number (answer (live_rows live rows) (place_at a))
    ∙ ap (option_map (told_of (λ file. number (held file)))) (of_live_rows live rows (place_at a)))
    ∙ sym (told_of_units-push live units (record { number = λ file. number (held file); rows = rows }) a)

map-or : (number : ℕ → ℕ) (o p : Option Row)
    → option_map (told_of number) (option_or o p) ≡ option_or (option_map (told_of number) o) (option_map (told_of number) p)
map-or number None p = refl
map-or number (Some r) p = refl

pub tells_answers : TellsAnswers
tells_answers live number [] a = refl
tells_answers live number (rows ∷ units) a =
    ap₂ option_or (ap (option_map (told_of number)) (sym (of_live_rows live rows (place_at a))))
    (tells_answers live number units a)
    ∙ sym (map-or number (answer (live_rows live rows) (place_at a))
    (answer_of_units (map (live_rows live) units) (place_at a)))
