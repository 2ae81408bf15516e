-- What rows tell of addresses, as runs.
use Rattle.std.proofs.Common.{◌≡◌, ℕ, suc, ◌+◌, ◌-◌, ◌<◌, ◌≤◌, ◌^◌, Bool, true, false, List, [], ◌∷◌, ◌++◌}
use Rattle.std.proofs.Common.{length, take, get_or, set, Option, Some, None, arith, refl, sym, ap, ap₂, subst, ◌∙◌}
use Rattle.std.proofs.Common.{inl, inr, ◌&&◌, ◌≢◌, eqb}
use Rattle.std.specs.Bool.{beq}
use Rattle.std.specs.Prelude.{if◌then◌else◌, nat_le, nat_lt}
use Rattle.std.specs.List.{All}
use Rattle.std.specs.Option.{option_map, option_eq}
use Rattle.std.proofs.lemmas.Bool.{false≢true, cases_lt, le-leb, lt-leb, and_parts, and_from, eqb-true}
use Rattle.std.proofs.lemmas.Bool.{eq-eqb}
use Rattle.dl_look.specs.Answer.{first_place}
use Rattle.std.specs.List.{find}
use Rattle.std.proofs.Common.{reverse}
use Rattle.std.proofs.lemmas.Bool.Decides.{nat_tests}
use Rattle.std.proofs.lemmas.List.{take_more, take_all, set_split, drop_all, length-take-le}
use Rattle.std.proofs.lemmas.List.{get_or-take, get_or_default}
use Rattle.std.proofs.lemmas.List.Elements.{All-push, All-take, All-weaker}
use Rattle.dl_rows.specs.declared.row.Row.{Row}
use Rattle.dl_look.specs.declared.place.Place.{Place}
use Rattle.dl_look.specs.Answer.{place_of, is_at_most, is_below, last_place, last_upto}
use Rattle.dl_look.proofs.LastUpto.{last_upto-push}
use Rattle.dl_look.proofs.MoreRows.{last_place-push}
use Rattle.dl_stretch.specs.declared.told.Told.{Told}
use Rattle.dl_stretch.specs.declared.run.Run.{Run}
use Rattle.dl_stretch.specs.Stretches.{last_begun}
use Rattle.dl_stretch.specs.Held.{held, told_by}
use Rattle.dl_stretch.specs.Runs.{place_at, first_address, told_of, run_told_at}
use Rattle.dl_stretch.specs.Laws.{CoversAddresses, CoversLast, LastRowBegun}
use Rattle.dl_stretch.specs.RowRuns.{RunsRise, StartsRise, AreRunsOf}
use Rattle.dl_stretch.specs.Made.{is_same}
use Rattle.dl_stretch.proofs.LastBegun.{last_begun-push, rise_push, rise_front, front_below, rise_at}

pub at_most_begun : (p : Place) (a : ℕ) → is_at_most p (place_at a) ≡ nat_le (first_address p) a
at_most_begun p a = grind (arith, nat_tests)

pub below_begun : (p : Place) (a : ℕ) → is_below (place_at a) p ≡ nat_lt a (first_address p)
below_begun p a = grind (arith, nat_tests)

pub covers_addresses : CoversAddresses
covers_addresses s a = ap₂ (λ b c. b && c) (at_most_begun (first_place s) a) (below_begun (last_place s) a)

below_last : (p : Place) → p.address < 2 ^ 64 → is_below (place_at 0xffffffffffffffff) p ≡ true
    → (p.address ≡ 0xffffffffffffffff) × (0 < p.op_index)
below_last p small h = (grind (arith, nat_tests), grind (arith, nat_tests))

pub covers_last : CoversLast
covers_last s small h =
    below_last (last_place s) small (and_parts (is_at_most (first_place s) (place_at 0xffffffffffffffff))
    (is_below (place_at 0xffffffffffffffff) (last_place s)) h).1

same_find : (p q : Row → Bool) (s : List Row) → ((r : Row) → p r ≡ q r) → find p s ≡ find q s
same_find p q [] same = refl
same_find p q (r ∷ s) same =
    ap₂ (λ (b : Bool) (o : Option Row). if b then Some r else o) (same r) (same_find p q s same)

pub last_row_begun : LastRowBegun
last_row_begun s a =
    same_find (λ r. is_at_most (place_of r) (place_at a)) (λ r. nat_le (first_address (place_of r)) a) (reverse s)
    (λ r. at_most_begun (place_of r) a)

pub rises_begun : (p q : Place) → is_at_most p q ≡ true → first_address p ≤ first_address q
rises_begun p q h = grind (arith, nat_tests)

abbrev pub run_start : Run → ℕ
run_start r = r.start

pub rise_from : (runs : List Run) → StartsRise runs → RunsRise runs
rise_from [] h = tt
rise_from (x ∷ []) h = tt
rise_from (x ∷ y ∷ runs) h = (
  h 0 1 x (omega arith) (omega arith),
  rise_from (y ∷ runs) (λ j k d less lt. h (suc j) (suc k) d (omega arith)
      (omega arith)),
)

pub rise_to : (runs : List Run) → RunsRise runs → StartsRise runs
rise_to runs r j k d less lt = rise_at run_start runs r j k d less lt

abbrev pub row_told : Row → Told
row_told r = told_of held r

-- what is told by the last row not above a, where one more row comes
row_more : (rows : List Row) (r : Row) (a : ℕ) → option_map row_told (last_upto (place_at a) (rows ++ r ∷ []))
    ≡ (if nat_le (first_address (place_of r)) a then Some (row_told r)
    else option_map row_told (last_upto (place_at a) rows))
row_more rows r a =
    ap (option_map row_told) (last_upto-push (place_at a) rows r)
    ∙ ap (λ (b : Bool). option_map row_told (if b then Some r else last_upto (place_at a) rows))
    (at_most_begun (place_of r) a)
    ∙ elim (nat_le (first_address (place_of r)) a) as (λ b. option_map row_told (if b then Some r
    else last_upto (place_at a) rows) ≡ (if b then Some (row_told r)
    else option_map row_told (last_upto (place_at a) rows))) [ true ↦ refl | false ↦ refl ]

-- a run at the end
pub run_more : (runs : List Run) (x : Run) (a : ℕ)
    → run_told_at (runs ++ x ∷ []) a ≡ (if nat_le x.start a then Some (told_by x) else run_told_at runs a)
run_more runs x a =
    ap (option_map told_by) (last_begun-push run_start runs x a)
    ∙ elim (nat_le x.start a) as (λ b. option_map told_by (if b then Some x
    else last_begun run_start runs a) ≡ (if b then Some (told_by x) else run_told_at runs a)) [ true ↦ refl | false ↦ refl ]

twice : (b : Bool) (x y z : Option Told) → (if b then x else (if b then y else z)) ≡ (if b then x else z)
twice true x y z = refl
twice false x y z = refl

-- the last run, and those before it
module _ (runs : List Run) (some : 0 < length runs) (d : Run) where
  abbrev front : List Run
  front = take (length runs - 1) runs

  abbrev last : Run
  last = get_or runs (length runs - 1) d

  pub split : runs ≡ front ++ last ∷ []
  split =
      let e : length runs - 1 + 1 ≡ length runs = omega arith in
      sym (take_all (length runs - 1 + 1) runs (omega arith)) ∙ take_more runs (length runs - 1) d (omega arith)

  pub replaced : (x : Run) → set runs (length runs - 1) x ≡ front ++ x ∷ []
  replaced x =
      set_split runs (length runs - 1) x (omega arith)
      ∙ ap (λ l. front ++ x ∷ l) (drop_all (suc (length runs - 1)) runs (omega arith))

  pub last_tells : (a : ℕ) → run_told_at runs a ≡ (if nat_le last.start a then Some (told_by last) else run_told_at front a)
  last_tells a = ap (λ l. run_told_at l a) split ∙ run_more front last a

-- runs that tell of one row more
module _ (rows : List Row) (runs : List Run) (r : Row) (are : AreRunsOf rows runs)
    (after : is_at_most (last_place rows) (place_of r) ≡ true) where
  abbrev begun : ℕ
  begun = first_address (place_of r)

  le : first_address (last_place rows) ≤ begun
  le = rises_begun (last_place rows) (place_of r) after

  now_last : last_place (rows ++ r ∷ []) ≡ place_of r
  now_last = last_place-push rows r

  upto_before : All (λ (x : Run). x.start ≤ begun) runs
  upto_before =
      All-weaker (λ (x : Run). x.start ≤ first_address (last_place rows)) (λ (x : Run). x.start ≤ begun)
      (λ x h. omega (arith, le, h)) runs are.upto

  -- what the new runs have to tell
  abbrev Tells : List Run → Type 0
  Tells new = (a : ℕ) → a < 2 ^ 64
      → run_told_at new a ≡ (if nat_le begun a then Some (row_told r) else run_told_at runs a)

  made : (new : List Run) → Tells new → RunsRise new → All (λ (x : Run). x.start ≤ begun) new
      → AreRunsOf (rows ++ r ∷ []) new
  made new tells rise upto = record {
    right = λ a lt. tells a lt
        ∙ ap (λ o. if nat_le begun a then Some (row_told r) else o) (are.right a lt) ∙ sym (row_more rows r a);
    rise = rise;
    upto = subst (λ p. All (λ (x : Run). x.start ≤ first_address p) new) (sym now_last) upto;
  }

  -- it begins after all addresses
  pub row_past : begun ≡ 2 ^ 64 → AreRunsOf (rows ++ r ∷ []) runs
  row_past past =
      made runs
      (λ a lt. sym (ap (λ (b : Bool). if b then Some (row_told r)
      else run_told_at runs a) (lt-leb begun a (omega (arith, past, lt))))) are.rise upto_before

  module _ (new : Run) (at : new.start ≡ begun) (says : told_by new ≡ row_told r) where
    same_test : (a : ℕ) (o : Option Told)
        → (if nat_le new.start a then Some (told_by new) else o) ≡ (if nat_le begun a then Some (row_told r) else o)
    same_test a o = ap₂ (λ (n : ℕ) (t : Told). if nat_le n a then Some t else o) at says

    -- no run was there, or the last one begins before it
    pub row_pushed : ((k : ℕ) (d : Run) → k < length runs → (get_or runs k d).start < new.start)
        → AreRunsOf (rows ++ r ∷ []) (runs ++ new ∷ [])
    row_pushed below =
        made (runs ++ new ∷ []) (λ a lt. run_more runs new a ∙ same_test a (run_told_at runs a))
        (rise_push run_start runs new are.rise below)
        (All-push (λ (x : Run). x.start ≤ begun) runs new upto_before (omega (arith, at)))

    module _ (some : 0 < length runs) (d : Run) where
      abbrev last_run : Run
      last_run = get_or runs (length runs - 1) d

      last_upto_begun : last_run.start ≤ begun
      last_upto_begun = upto_before (length runs - 1) d (omega arith)

      rise_split : RunsRise (front runs some d ++ last_run ∷ [])
      rise_split = subst RunsRise (split runs some d) are.rise

      -- the last one begins there too
      pub row_replaced : last_run.start ≡ new.start → AreRunsOf (rows ++ r ∷ []) (set runs (length runs - 1) new)
      row_replaced there =
          subst (AreRunsOf (rows ++ r ∷ [])) (sym (replaced runs some d new))
          (made (front runs some d ++ new ∷ [])
          (λ a lt. run_more (front runs some d) new a
          ∙ sym (twice (nat_le new.start a) (Some (told_by new)) (Some (told_by last_run)) (run_told_at (front runs some d) a))
          ∙ ap (λ o. if nat_le new.start a then Some (told_by new) else o)
          (ap (λ n. if nat_le n a then Some (told_by last_run) else run_told_at (front runs some d) a) (sym there)
          ∙ sym (last_tells runs some d a))
          ∙ same_test a (run_told_at runs a))
          (rise_push run_start (front runs some d) new
          (rise_front run_start (front runs some d) last_run rise_split)
          (λ k e lt. (let h = front_below run_start (front runs some d) last_run rise_split k e lt in
          omega (arith, h, there))))
          (All-push (λ (x : Run). x.start ≤ begun) (front runs some d) new
          (All-take (λ (x : Run). x.start ≤ begun) (length runs - 1) runs upto_before) (omega (arith, at))))

      -- the last one tells the same
      pub row_kept : told_by last_run ≡ told_by new → AreRunsOf (rows ++ r ∷ []) runs
      row_kept same =
          made runs (λ a lt. elim (cases_lt a begun) [
            | inl under ↦ sym (ap (λ (b : Bool). if b then Some (row_told r)
                else run_told_at runs a) (lt-leb begun a under))
            | inr from ↦ last_tells runs some d a
                ∙ ap (λ (b : Bool). if b then Some (told_by last_run) else run_told_at (front runs some d) a)
                (le-leb last_run.start a (omega (arith, last_upto_begun, from)))
                ∙ ap (λ t. Some t) (same ∙ says)
                ∙ sym (ap (λ (b : Bool). if b then Some (row_told r)
                else run_told_at runs a) (le-leb begun a from))
          ]) are.rise upto_before

      -- it begins before
      pub row_after : (last_run.start ≡ new.start → ⊥) → (k : ℕ) (e : Run) → k < length runs → (get_or runs k e).start < new.start
      row_after ne k e lt = elim (cases_lt k (length runs - 1)) [
        | inl under ↦ (let h = front_below run_start (front runs some d) last_run rise_split k e
            (omega (arith, length-take-le (length runs - 1) runs (omega arith), under)) in
            let same = get_or-take (length runs - 1) runs k e under in
            let s = ap run_start same in
            omega (arith, h, s, last_upto_begun, at))
        | inr here ↦ (let n : k ≡ length runs - 1 = omega arith in
            let s = ap (λ j. run_start (get_or runs j e)) n
            ∙ ap run_start (get_or_default runs (length runs - 1) e d (omega arith)) in
            let le = last_upto_begun in omega (arith, s, ne, le, at))
      ]

same_flag : (a b : Bool) → beq a b ≡ true → a ≡ b
same_flag true true h = refl
same_flag true false h = cc
same_flag false true h = cc
same_flag false false h = refl

abbrev told : ℕ → ℕ → ℕ → ℕ → Bool → Told
told file line column discriminator is_stmt = record {
  file = file;
  line = line;
  column = column;
  discriminator = discriminator;
  is_stmt = is_stmt;
}

pub same_told : (t u : Told) → is_same t u ≡ true → t ≡ u
same_told t u h =
    let p = and_parts (eqb t.file u.file) (eqb t.line u.line && (eqb t.column u.column
    && (eqb t.discriminator u.discriminator && beq t.is_stmt u.is_stmt))) h in
    let q = and_parts (eqb t.line u.line) (eqb t.column u.column
    && (eqb t.discriminator u.discriminator && beq t.is_stmt u.is_stmt)) p.1 in
    let r = and_parts (eqb t.column u.column) (eqb t.discriminator u.discriminator && beq t.is_stmt u.is_stmt) q.1 in
    let s = and_parts (eqb t.discriminator u.discriminator) (beq t.is_stmt u.is_stmt) r.1 in
    ap₂ (λ (f l : ℕ). told f l t.column t.discriminator t.is_stmt) (eqb-true t.file u.file p.0)
    (eqb-true t.line u.line q.0)
    ∙ ap₂ (λ (c d : ℕ). told u.file u.line c d t.is_stmt) (eqb-true t.column u.column r.0)
    (eqb-true t.discriminator u.discriminator s.0)
    ∙ ap (λ (b : Bool). told u.file u.line u.column u.discriminator b) (same_flag t.is_stmt u.is_stmt s.1)

flag_itself : (b : Bool) → beq b b ≡ true
flag_itself true = refl
flag_itself false = refl

told_itself : (t : Told) → is_same t t ≡ true
told_itself t =
    and_from (eqb t.file t.file) _ (eq-eqb t.file t.file refl)
    (and_from (eqb t.line t.line) _ (eq-eqb t.line t.line refl)
    (and_from (eqb t.column t.column) _ (eq-eqb t.column t.column refl)
    (and_from (eqb t.discriminator t.discriminator) _ (eq-eqb t.discriminator t.discriminator refl)
    (flag_itself t.is_stmt))))

-- the same of what may be told
pub same_option : (o p : Option Told) → option_eq is_same o p ≡ true → o ≡ p
same_option None None h = refl
same_option None (Some u) h = cc
same_option (Some t) None h = cc
same_option (Some t) (Some u) h = ap (λ t. Some t) (same_told t u h)

option_itself : (o : Option Told) → option_eq is_same o o ≡ true
option_itself None = refl
option_itself (Some t) = told_itself t

pub other_option : (o p : Option Told) → option_eq is_same o p ≡ false → o ≢ p
other_option o p h e =
    absurd (false≢true (sym h ∙ ap (λ q. option_eq is_same o q) (sym e) ∙ option_itself o))
