-- A ledger whose last answers are taken back, or are there to stay.
use Rattle.std.proofs.Common.{◌≡◌, ℕ, zero, suc, ◌+◌, ◌-◌, ◌<◌, ◌≤◌, ◌≢◌, ◌⊎◌, inl, inr, Bool, true, false, List, [], ◌∷◌}
use Rattle.std.proofs.Common.{length, get_or, set, take, drop, Option, Some, None, vec_capacity, arith, refl, sym, ap}
use Rattle.std.proofs.Common.{◌∙◌, ⊎_elim, length-set, length-take, length-drop, get_or-set_same, get_or-set_other}
use Rattle.std.specs.Prelude.{if◌then◌else◌, not, is_none, is_some, nat_lt}
use Rattle.std.proofs.lemmas.Bool.{cases_lt, eq-eqb, le-ltb, lt-ltb}
use Rattle.std.proofs.lemmas.List.{get_or-take, get_or-drop}
use Rattle.dl_rows.specs.declared.row.Row.{Row}
use Rattle.dl_look.specs.declared.slots.Slot.{Slot}
use Rattle.dl_look.specs.declared.ledger.Ledger.{Ledger}
use Rattle.dl_look.specs.declared.ledger.Answered.{Answered}
use Rattle.dl_look.specs.Links.{IsLinked, AreClosed, is_open, is_sealed}
use Rattle.dl_look.specs.Slots.{slot_number, IsNumbered}
use Rattle.dl_look.specs.Ledgers.{no_answer, answered_at, answered_slot, entry_at, answer_upto, unanswered, IsSound}
use Rattle.dl_look.specs.Ledgers.{AreSealed}
use Rattle.dl_look.proofs.LedgerLemmas.{answer_none, entry_within, upto_entry}

unanswered-unset : (entries : List (Option ℕ)) (i e : ℕ) → get_or entries i None ≡ Some e
    → unanswered (set entries i None) ≡ suc (unanswered entries)
unanswered-unset [] i e h = cc
unanswered-unset (None ∷ entries) zero e h = cc
unanswered-unset (Some d ∷ entries) zero e h = refl
unanswered-unset (None ∷ entries) (suc i) e h = ap suc (unanswered-unset entries i e h)
unanswered-unset (Some d ∷ entries) (suc i) e h = unanswered-unset entries i e h

-- the entries for answers from `whole` on, up to before `end`, are cleared
pub record Cleared (old now : List (Option ℕ)) (whole end : ℕ) : Type 0 where
  pub count : length now ≡ length old
  pub same : (i e : ℕ) → get_or now i None ≡ Some e → get_or old i None ≡ Some e
  pub gone : (i e : ℕ) → get_or now i None ≡ Some e → whole ≤ e → end ≤ e
  pub before : (i e : ℕ) → get_or old i None ≡ Some e → e < whole → get_or now i None ≡ Some e
  pub after : (i e : ℕ) → get_or old i None ≡ Some e → end ≤ e → get_or now i None ≡ Some e
  pub room : whole + unanswered now ≡ end + unanswered old

module _ (old now : List (Option ℕ)) (log : List Answered) (whole end : ℕ) (c : Cleared old now whole end)
    (from : whole ≤ end)
    (logged : (i e : ℕ) → get_or old i None ≡ Some e → (e < length log) × ((get_or log e no_answer).number ≡ i))
    (kept : (e : ℕ) → e < length log → get_or old (get_or log e no_answer).number None ≡ Some e) where
  -- one more
  module _ (lt : end < length log) (next : ℕ) (is_next : next ≡ suc end) where
    abbrev number : ℕ
    number = (get_or log end no_answer).number

    abbrev new : List (Option ℕ)
    new = set now number None

    was : get_or now number None ≡ Some end
    was = c.after number end (kept end lt) (omega arith)

    new_at : get_or new number None ≡ None
    new_at = get_or-set_same now number None None (entry_within now number end was)

    new_other : (i : ℕ) → i ≢ number → get_or new i None ≡ get_or now i None
    new_other i ne = get_or-set_other now number i None None ne

    -- an entry that is left is another one
    another : (i e : ℕ) → get_or new i None ≡ Some e → i ≢ number
    another i e h is = let z = sym (ap (λ k. get_or new k None) is ∙ new_at) ∙ h in cc

    -- and so is that of another answer
    differs : (i e : ℕ) → get_or old i None ≡ Some e → e ≢ end → i ≢ number
    differs i e h ne is =
        let z = sym (ap (λ k. get_or old k None) is ∙ kept end lt) ∙ h in
        let same : end ≡ e = cc in
        ne (sym same)

    pub cleared_more : Cleared old (set now (get_or log end no_answer).number None) whole next
    cleared_more =
        record {
          count = length-set now number None ∙ c.count;
          same = λ i e h. c.same i e (sym (new_other i (another i e h)) ∙ h);
          gone = λ i e h le. (let left = sym (new_other i (another i e h)) ∙ h in
              let ne : e ≢ end = λ is. another i e h (sym (sym (ap (λ k. (get_or log k no_answer).number) is)
              ∙ (logged i e (c.same i e left)).1)) in
              omega (arith, c.gone i e left le));
          before = λ i e h less. new_other i (differs i e h (omega arith)) ∙ c.before i e h less;
          after = λ i e h le. new_other i (differs i e h (omega arith)) ∙ c.after i e h (omega arith);
          room = omega (arith, c.room, unanswered-unset now number end was);
        }

  -- all
  pub all_left : end ≡ length log → (i e : ℕ) → get_or now i None ≡ Some e
      → (get_or old i None ≡ Some e) × (e < whole)
  all_left all i e h =
      let was = c.same i e h in
      (was, ⊎_elim (λ lt. lt) (λ le. omega (arith, c.gone i e h le, (logged i e was).0)) (cases_lt e whole))

answer_within : (ledger : Ledger) (limit i e : ℕ) → entry_at ledger i ≡ Some e → e < limit
    → answer_upto limit ledger i ≡ Some (answered_at ledger e).row
answer_within ledger limit i e is lt =
    upto_entry ledger limit i e is
    ∙ ap (λ (b : Bool). if b then Some (answered_at ledger e).row else None) (lt-ltb e limit lt)

answer_later : (ledger : Ledger) (limit i e : ℕ) → entry_at ledger i ≡ Some e → limit ≤ e
    → answer_upto limit ledger i ≡ None
answer_later ledger limit i e is le =
    upto_entry ledger limit i e is
    ∙ ap (λ (b : Bool). if b then Some (answered_at ledger e).row else None) (le-ltb e limit le)

entry_or_none : (ledger : Ledger) (i : ℕ) → (entry_at ledger i ≡ None) ⊎ ((e : ℕ) × (entry_at ledger i ≡ Some e))
entry_or_none ledger i =
    elim (entry_at ledger i) as (λ o. (o ≡ None) ⊎ ((e : ℕ) × (o ≡ Some e))) [
      | None ↦ inl refl
      | Some e ↦ inr (e, refl)
    ]

-- the answers after the first `whole` are taken back
module _ (old new : Ledger) (whole : ℕ) (within : whole ≤ length old.log.items)
    (left : (i e : ℕ) → entry_at new i ≡ Some e → (entry_at old i ≡ Some e) × (e < whole))
    (stays : (i e : ℕ) → entry_at old i ≡ Some e → e < whole → entry_at new i ≡ Some e)
    (log : new.log.items ≡ take whole old.log.items) where
  same_answer : (e : ℕ) → e < whole → answered_at new e ≡ answered_at old e
  same_answer e lt =
      ap (λ l. get_or l e no_answer) log ∙ get_or-take whole old.log.items e no_answer lt

  none_before : (i : ℕ) → entry_at old i ≡ None → entry_at new i ≡ None
  none_before i none =
      ⊎_elim (λ is. is) (λ (e, is). absurd (let z = (left i e is).0 in cc)) (entry_or_none new i)

  none_later : (i e : ℕ) → entry_at old i ≡ Some e → whole ≤ e → entry_at new i ≡ None
  none_later i e was le =
      ⊎_elim
      (λ is. is)
      (λ (d, is). absurd (let z = sym was ∙ (left i d is).0 in let same : e ≡ d = cc in omega (arith, (left i d is).1)))
      (entry_or_none new i)

  pub same_before : (limit i : ℕ) → limit ≤ whole → answer_upto limit new i ≡ answer_upto limit old i
  same_before limit i le =
      ⊎_elim
      (λ none. answer_none new limit i (ap is_none (none_before i none)) ∙ sym (answer_none old limit i (ap is_none none)))
      (λ (e, was). ⊎_elim
      (λ lt. upto_entry new limit i e (stays i e was lt)
      ∙ ap (λ (a : Answered). if nat_lt e limit then Some a.row else None) (same_answer e lt)
      ∙ sym (upto_entry old limit i e was))
      (λ from. answer_none new limit i (ap is_none (none_later i e was from))
      ∙ sym (answer_later old limit i e was (omega arith)))
      (cases_lt e whole))
      (entry_or_none old i)

  module _ (slots : List Slot) (sealed : AreSealed slots whole old) (sound : IsSound slots old)
      (linked : IsLinked new.links) (links : length new.links.next.items ≡ length old.links.next.items)
      (opens : (j : ℕ) → j < length old.links.next.items
      → is_open new.links.next.items j ≡ not (is_sealed old.links.sealed.items j))
      (count : length new.entries.items ≡ length old.entries.items)
      (room : whole + unanswered new.entries.items ≡ length old.log.items + unanswered old.entries.items)
      (capacity : vec_capacity new.log ≡ vec_capacity old.log)
      (log_slots : new.log_slots.items ≡ take whole old.log_slots.items)
      (slots_capacity : vec_capacity new.log_slots ≡ vec_capacity old.log_slots) where
    whole_log : length new.log.items ≡ whole
    whole_log = omega (arith, ap length log, length-take whole old.log.items)

    same_slot : (e : ℕ) → e < whole → answered_slot new e ≡ answered_slot old e
    same_slot e lt = ap (λ l. get_or l e 0) log_slots ∙ get_or-take whole old.log_slots.items e 0 lt

    opened : (j : ℕ) → j < length slots
        → is_open new.links.next.items j ≡ is_none (entry_at new (slot_number slots j))
    opened j lt =
        let i = slot_number slots j in
        opens j (omega (arith, sound.links))
        ∙ ap not (sealed j lt)
        ∙ ⊎_elim
        (λ none. ap (λ (o : Option Row). not (is_some o)) (answer_none old whole i (ap is_none none))
        ∙ sym (ap is_none (none_before i none)))
        (λ (e, was). ⊎_elim
        (λ less. ap (λ (o : Option Row). not (is_some o)) (answer_within old whole i e was less)
        ∙ sym (ap is_none (stays i e was less)))
        (λ from. ap (λ (o : Option Row). not (is_some o)) (answer_later old whole i e was from)
        ∙ sym (ap is_none (none_later i e was from)))
        (cases_lt e whole))
        (entry_or_none old i)

    pub whole_sound : IsSound slots new
    whole_sound =
        record {
          linked = linked;
          links = links ∙ sound.links;
          count = count ∙ sound.count;
          «open» = opened;
          logged = λ i e is. (let l = left i e is in (
            omega (arith, whole_log, l.1),
            ap (λ (a : Answered). a.number) (same_answer e l.1) ∙ (sound.logged i e l.0).1,
          ));
          kept = λ e less. (let lt : e < whole = omega (arith, whole_log) in
              ap (λ (a : Answered). entry_at new a.number) (same_answer e lt)
              ∙ stays (answered_at old e).number e (sound.kept e (omega arith)) lt);
          room = omega (arith, whole_log, room, sound.room);
          capacity = omega (arith, sound.capacity);
          log_slots = omega (
            arith,
            whole_log,
            ap length log_slots,
            length-take whole old.log_slots.items,
            sound.log_slots,
          );
          within = λ e less. (let lt : e < whole = omega (arith, whole_log) in
              omega (arith, same_slot e lt, sound.within e (omega arith)));
          slot = λ e less. (let lt : e < whole = omega (arith, whole_log) in
              ap (slot_number slots) (same_slot e lt) ∙ sound.slot e (omega arith)
              ∙ sym (ap (λ (a : Answered). a.number) (same_answer e lt)));
          slots_capacity = omega (arith, sound.slots_capacity);
        }

-- the slots of these answers are those that are closed and not sealed
module _ (slots : List Slot) (ledger : Ledger) (whole : ℕ) (numbered : IsNumbered slots) (sound : IsSound slots ledger)
    (sealed : AreSealed slots whole ledger) (upto : whole ≤ length ledger.log.items) where
  abbrev later : List ℕ
  later = drop whole ledger.log_slots.items

  slot_at : (e : ℕ) → get_or later e 0 ≡ answered_slot ledger (whole + e)
  slot_at e = get_or-drop whole ledger.log_slots.items e 0

  answered : (e : ℕ) → e < length later → whole + e < length ledger.log.items
  answered e lt = omega (arith, length-drop whole ledger.log_slots.items, sound.log_slots)

  entry : (e : ℕ) → e < length later
      → entry_at ledger (slot_number slots (answered_slot ledger (whole + e))) ≡ Some (whole + e)
  entry e lt = ap (entry_at ledger) (sound.slot (whole + e) (answered e lt)) ∙ sound.kept (whole + e) (answered e lt)

  -- a closed slot's place has an answer, which is a later one where the slot isn't sealed
  closed_later : (j : ℕ) → j < length slots → is_open ledger.links.next.items j ≡ false
      → is_sealed ledger.links.sealed.items j ≡ false
      → (e : ℕ) × (entry_at ledger (slot_number slots j) ≡ Some e) × (whole ≤ e)
  closed_later j lt shut unsealed =
      ⊎_elim
      (λ none. absurd (let z = sym (sound.open j lt ∙ ap is_none none) ∙ shut in cc))
      (λ (e, was). ⊎_elim
      (λ before. absurd (let z =
      sym (sealed j lt ∙ ap is_some (answer_within ledger whole (slot_number slots j) e was before)) ∙ unsealed in cc))
      (λ from. (e, was, from))
      (cases_lt e whole))
      (entry_or_none ledger (slot_number slots j))

  listed : (j : ℕ) → j < length slots → (e : ℕ) → entry_at ledger (slot_number slots j) ≡ Some e → whole ≤ e
      → (k : ℕ) × (k < length later) × (get_or later k 0 ≡ j)
  listed j lt e was from =
      let l = sound.logged (slot_number slots j) e was in
      let less = l.0 in
      let back : whole + (e - whole) ≡ e = omega arith in (
        e - whole,
        omega (arith, length-drop whole ledger.log_slots.items, sound.log_slots),
        slot_at (e - whole) ∙ ap (answered_slot ledger) back
            ∙ numbered.once (answered_slot ledger e) j (sound.within e less) lt (sound.slot e less ∙ l.1),
      )

  -- the slot after the others is open
  last_open : (j : ℕ) → j < length ledger.links.next.items → length slots ≤ j
      → is_open ledger.links.next.items j ≡ true
  last_open j lt le =
      eq-eqb (get_or ledger.links.next.items j 0) j
      (omega (arith, sound.links, sound.linked.ahead j lt, sound.linked.within j lt))

  pub closed_after : AreClosed ledger.links later
  closed_after =
      record {
        within = λ e lt. omega (arith, slot_at e, sound.within (whole + e) (answered e lt), sound.links);
        closed = λ e lt. ap (is_open ledger.links.next.items) (slot_at e)
            ∙ sound.open (answered_slot ledger (whole + e)) (sound.within (whole + e) (answered e lt))
            ∙ ap is_none (entry e lt);
        unsealed = λ e lt. ap (is_sealed ledger.links.sealed.items) (slot_at e)
            ∙ sealed (answered_slot ledger (whole + e)) (sound.within (whole + e) (answered e lt))
            ∙ ap is_some (answer_later ledger whole (slot_number slots (answered_slot ledger (whole + e))) (whole + e)
            (entry e lt) (omega arith));
        each = λ j lt shut unsealed. ⊎_elim
            (λ less. (let e = closed_later j less shut unsealed in listed j less e.0 e.1 e.2))
            (λ le. absurd (let z = sym (last_open j lt le) ∙ shut in cc))
            (cases_lt j (length slots));
      }
