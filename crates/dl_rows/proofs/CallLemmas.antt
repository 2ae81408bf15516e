-- Rows that are told inside one call, and calls that tell one row each.
use Rattle.dl_head.specs.declared.dialect.Dialect.{Dialect}
use Rattle.std.proofs.Common.{◌≡◌, ◌+◌, ◌-◌, ◌<◌, ◌≤◌, inl, inr, ◌≢◌, ℕ, zero, suc, List, [], ◌∷◌, ◌++◌}
use Rattle.std.proofs.Common.{length, map, take, drop, slice_get, Result, Ok, Err, refl, sym, ap, ◌∙◌, arith}
use Rattle.std.proofs.Common.{length-append, append_assoc, append-nil, length-drop}
use Rattle.std.proofs.lemmas.Bool.{cases_eq, cases_lt}
use Rattle.std.proofs.lemmas.List.{append_cancel_left}
use Rattle.std.proofs.lemmas.Option.{slice_get_within}
use Rattle.dl_head.specs.declared.fault.Fault.{Fault}
use Rattle.dl_field.proofs.FieldLemmas.{none_some}
use Rattle.dl_head.proofs.TurnLemmas.{joined}
use Rattle.dl_rows.specs.declared.reader.Event.{Event}
use Rattle.dl_rows.specs.declared.reader.Event.TheVariants as event
use Rattle.dl_rows.specs.declared.row.Row.{Row}
use Rattle.dl_rows.specs.Calls.{MayGiveAfter, MayTell, Calls, RowsAreCalls}
use Rattle.dl_rows.specs.LineUnit.{events}
use Rattle.dl_rows.specs.Reading.{WithinUnit, told, EventHoldsAfter}
use Rattle.dl_rows.specs.Runs.{MayGive, Sound, told_by}
use Rattle.dl_rows.proofs.UnitLemmas.{unit_len_on}
use Rattle.dl_rows.proofs.RowBytes.{RowTaken, row_taken}

-- ---- one call, and the calls after its first row

slice_drop : (n i : ℕ) (l : List ℕ) → slice_get (drop n l) i ≡ slice_get l (n + i)
slice_drop zero i l = (let same : i ≡ 0 + i = omega arith in ap (slice_get l) same)
slice_drop (suc n) i [] = refl
slice_drop (suc n) i (x ∷ l) =
    (let same : suc (n + i) ≡ suc n + i = omega arith in slice_drop n i l ∙ ap (slice_get (x ∷ l)) same)

-- after b and c the same bytes were taken, and the same are left
record Same (b piece : List ℕ) (used : ℕ) (c rest : List ℕ) (more : ℕ) : Type 0 where
  whole : b ++ take used piece ≡ c ++ take more rest
  last : 1 ≤ used → 1 ≤ more → b ++ take (used - 1) piece ≡ c ++ take (more - 1) rest
  next : slice_get piece used ≡ slice_get rest more
  left : used + length rest ≡ length piece + more
  some : 1 ≤ length piece
  some_there : 1 ≤ length rest

-- n bytes of the piece were used before, and more of the rest
rest_same : (b piece : List ℕ) (n more : ℕ) → n < length piece
    → Same (b ++ take n piece) (drop n piece) more b piece (n + more)
rest_same b piece n more lt = record {
  whole = joined b piece n more;
  last = λ any one. (let count : n + (more - 1) ≡ n + more - 1 = omega (arith, any) in
      rw (← count) (joined b piece n (more - 1)));
  next = slice_drop n more piece;
  left = omega (arith, lt, length-drop n piece);
  some = omega (arith, lt, length-drop n piece);
  some_there = omega (arith, lt);
}

same_back : {b piece : List ℕ} {used : ℕ} {c rest : List ℕ} {more : ℕ} → Same b piece used c rest more
    → Same c rest more b piece used
same_back s = record {
  whole = sym s.whole;
  last = λ one any. sym (s.last any one);
  next = sym s.next;
  left = omega (arith, s.left);
  some = s.some_there;
  some_there = s.some;
}

-- so the same may be answered, where an answer that tells an event used some bytes
module _ (dialect : Dialect) (before : List Event) {b piece : List ℕ} {used : ℕ} {c rest : List ℕ} {more : ℕ}
    (s : Same b piece used c rest more) where
  holds_there : (e : Event) → (told e ≢ [] → 1 ≤ more) → EventHoldsAfter dialect before b piece used e
      → EventHoldsAfter dialect before c rest more e
  holds_there event.More any holds = (
    omega (arith, holds.0, s.left),
    λ unit. omega (
      arith,
      holds.0,
      s.left,
      s.some_there,
    ),
  )
  holds_there event.End any holds = (rw s.whole at holds.0, inr (omega (arith, holds.1, s.left, s.some)))
  holds_there event.NoMemory any holds =
      (holds.0, sym s.next ∙ holds.1, rw s.whole at holds.2, rw s.whole at holds.3)
  holds_there other any holds = (let one = any (λ k. absurd cc) in (one, rw (s.last holds.0 one) at holds.1))

  tells_there : (gave : Result Event Fault) → (told_by gave ≢ [] → 1 ≤ more)
      → MayGiveAfter dialect before b piece used gave → MayGiveAfter dialect before c rest more gave
  tells_there (Ok e) any m = record {
    within = omega (arith, m.within, s.left);
    in_unit = rw s.whole at m.in_unit;
    grows = rw s.whole at m.grows;
    holds = holds_there e any m.holds;
    sound = rw s.whole at m.sound;
  }
  tells_there (Err fault) any m = record {
    within = omega (arith, m.within, s.left);
    in_unit = rw s.whole at m.in_unit;
    refused = rw s.whole at m.refused;
    no_event = rw s.whole at m.no_event;
  }

-- ---- calls tell what one call may

alone : (dialect : Dialect) (b piece : List ℕ) (used : ℕ) (gave : Result Event Fault)
    → MayGiveAfter dialect (events dialect b) b piece used gave → MayGive dialect b piece used gave
alone dialect b piece used (Ok e) m = m
alone dialect b piece used (Err fault) m = m

not_alone : (dialect : Dialect) (b piece : List ℕ) (used : ℕ) (gave : Result Event Fault)
    → MayGive dialect b piece used gave → MayGiveAfter dialect (events dialect b) b piece used gave
not_alone dialect b piece used (Ok e) m = m
not_alone dialect b piece used (Err fault) m = m

tells_of : (dialect : Dialect) (b piece : List ℕ) (rows : List Row) (used : ℕ) (gave : Result Event Fault)
    → Calls dialect b piece rows used gave → MayTell dialect b piece rows used gave
tells_of dialect b piece [] used gave calls = rw append-nil (not_alone dialect b piece used gave calls)
tells_of dialect b piece (r ∷ rows) used gave (n, may, inl (all, none, size, is)) = rw (none, size, is) (record {
  within = may.within;
  in_unit = may.in_unit;
  grows = rw append-nil may.grows;
  holds = (all, λ unit. may.holds.0);
  sound = may.sound;
})
tells_of dialect b piece (r ∷ rows) used gave (n, may, inr (lt, more, size, calls)) =
    let later = tells_of dialect (b ++ take n piece) (drop n piece) rows more gave calls in
    rw size
    (tells_there dialect (events dialect b ++ map event.Row (r ∷ rows)) (rest_same b piece n more lt) gave
    (λ any. omega (arith, may.holds.0)) (rw (may.grows, append_assoc) at later))

-- ---- one call tells what calls may

-- what is said of the bytes that were used, whatever was answered
record Used (dialect : Dialect) (before : List Event) (b piece : List ℕ) (used : ℕ) (gave : Result Event Fault) : Type
    0 where
  within : used ≤ length piece
  in_unit : WithinUnit dialect (b ++ take used piece)
  grows : events dialect (b ++ take used piece) ≡ before ++ told_by gave

used_of : (dialect : Dialect) (before : List Event) (b piece : List ℕ) (used : ℕ) (gave : Result Event Fault)
    → MayGiveAfter dialect before b piece used gave → Used dialect before b piece used gave
used_of dialect before b piece used (Ok e) m =
    record { within = m.within; in_unit = m.in_unit; grows = m.grows }
used_of dialect before b piece used (Err fault) m =
    record { within = m.within; in_unit = m.in_unit; grows = rw append-nil m.no_event }

parted : {A : Type 0} (xs ys : List A) → xs ++ ys ≡ [] → (xs ≡ []) × (ys ≡ [])
parted [] ys e = (refl, e)
parted (x ∷ xs) ys e = absurd cc

no_rows : (rows : List Row) → ◌≡◌ {A = List Event} (map event.Row rows) [] → rows ≡ []
no_rows [] e = refl
no_rows (r ∷ rows) e = absurd cc

-- the first row is the last event of the first n bytes
module _ {dialect : Dialect} {b piece : List ℕ} {used : ℕ} {r : Row} (t : RowTaken dialect b piece used r) where
  whole : (b ++ take t.n piece) ++ take t.more (drop t.n piece) ≡ b ++ take used piece
  whole = rw t.total (joined b piece t.n t.more)

  -- it is what `feed` may answer
  first_sound : (before : List Event) (gave : Result Event Fault) → MayGiveAfter dialect before b piece used gave
      → Sound dialect (b ++ take t.n piece)
  first_sound before (Ok e) m front back at kind k =
      m.sound front (back ++ take t.more (drop t.n piece)) at kind
      (sym whole ∙ rw k (append_assoc front back (take t.more (drop t.n piece))))
  first_sound before (Err fault) m front [] at kind k = λ r.
      none_some {a = kind} t.quiet (rw (k, append-nil) r.decided)
  first_sound before (Err fault) m front (x ∷ back) at kind k = λ r.
      none_some (m.refused.shortest front x (back ++ take t.more (drop t.n piece))
      (sym whole ∙ rw k (append_assoc front (x ∷ back) (take t.more (drop t.n piece))))) r.decided

  first_call : (before : List Event) (gave : Result Event Fault) → MayGiveAfter dialect before b piece used gave
      → MayGive dialect b piece t.n (Ok (event.Row r))
  first_call before gave m =
      let u = used_of dialect before b piece used gave m in
      let size = ap length whole in
      record {
        within = omega (arith, u.within, t.total);
        in_unit = λ k e. (let le = u.in_unit k (rw (← whole) (unit_len_on dialect (b ++ take t.n piece)
            (take t.more (drop t.n piece)) k e)) in
            omega (arith, le, size, length-append (b ++ take t.n piece) (take t.more (drop t.n piece))));
        grows = t.row;
        holds = (t.some, t.before);
        sound = first_sound before gave m;
      }

  module _ (rows : List Row) (gave : Result Event Fault)
      (m : MayGiveAfter dialect (events dialect b ++ map event.Row (r ∷ rows)) b piece used gave) where
    -- where the row comes with the last byte used, it is all that was told
    only : t.more ≡ 0 → (rows ≡ []) × (told_by gave ≡ [])
    only e =
        let count : used ≡ t.n = omega (arith, e, t.total) in
        let grows = (used_of dialect (events dialect b ++ map event.Row (r ∷ rows)) b piece used gave m).grows in
        let later = map event.Row rows ++ told_by gave in
        let same : event.Row r ∷ [] ≡ event.Row r ∷ later =
        append_cancel_left (events dialect b) (event.Row r ∷ []) (event.Row r ∷ later) (sym t.row
        ∙ rw count at grows ∙ append_assoc (events dialect b) (map event.Row (r ∷ rows)) (told_by gave)) in
        let none : later ≡ [] = cc in
        let both = parted (map event.Row rows) (told_by gave) none in
        (no_rows rows both.0, both.1)

    -- an answer that tells an event comes after the row
    later : told_by gave ≢ [] → 1 ≤ t.more
    later some = elim (cases_eq t.more 0) [ inl none ↦ absurd (some (only none).1) | inr any ↦ omega (arith, any) ]

-- where nothing follows the row, the whole piece is used
is_more : {dialect : Dialect} (before : List Event) {b piece : List ℕ} {used : ℕ} {r : Row}
    (t : RowTaken dialect b piece used r) (gave : Result Event Fault) → told_by gave ≡ [] → length piece ≤ t.n
    → MayGiveAfter dialect before b piece used gave → gave ≡ Ok event.More
is_more before t (Ok event.More) none le m = refl
is_more before t (Ok event.End) none le m = absurd (omega (arith, m.holds.1, le, t.some, t.total))
is_more before {b} {piece} {used} t (Ok event.NoMemory) none le m =
    (let less = slice_get_within piece used m.holds.0 m.holds.1 in absurd (omega (arith, less, le, t.total)))
is_more before t (Ok other) none le m = absurd cc
is_more before {b} {piece} {used} t (Err fault) none le m =
    let count : used ≡ t.n = omega (arith, m.within, le, t.total) in
    absurd (none_some t.quiet (rw count at m.refused.decided))

calls_of : (dialect : Dialect) (b piece : List ℕ) (rows : List Row) (used : ℕ) (gave : Result Event Fault)
    → MayTell dialect b piece rows used gave → Calls dialect b piece rows used gave
calls_of dialect b piece [] used gave m = alone dialect b piece used gave (rw append-nil at m)
calls_of dialect b piece (r ∷ rows) used gave m =
    let before = events dialect b ++ map event.Row (r ∷ rows) in
    let u = used_of dialect before b piece used gave m in
    let t =
    row_taken dialect b piece used r (map event.Row rows ++ told_by gave) u.within (rw append_assoc at u.grows) in (
      t.n,
      first_call t before gave m,
      elim (cases_lt t.n (length piece)) [
        | inl lt ↦ inr (
          lt,
          t.more,
          t.total,
          calls_of dialect (b ++ take t.n piece) (drop t.n piece) rows t.more gave
              (rw (t.row, append_assoc) (tells_there dialect before (same_back (rest_same b piece t.n t.more lt)) gave
              (later t rows gave m) (rw t.total at m))),
        )
        | inr le ↦
            let none : t.more ≡ 0 = omega (arith, le, u.within, t.total) in
            inl (
              omega (arith, le, u.within, t.total),
              (only t rows gave m none).0,
              omega (arith, none, t.total),
              is_more before t gave (only t rows gave m none).1 le m,
            )
      ],
    )

pub rows_are_calls : RowsAreCalls
rows_are_calls dialect b piece rows used gave =
    (calls_of dialect b piece rows used gave, tells_of dialect b piece rows used gave)
