-- A ledger with one more answer.
use Rattle.std.proofs.Common.{◌≡◌, ℕ, zero, suc, ◌+◌, ◌<◌, ◌≤◌, ◌≢◌, min, Bool, true, false, ◌&&◌, List, [], ◌∷◌, ◌++◌}
use Rattle.std.proofs.Common.{length, get_or, set, replicate, Option, Some, None, vec_capacity, arith, refl, sym, ap}
use Rattle.std.proofs.Common.{ap₂, ◌∙◌, ◌⊎◌, inl, inr, ⊎_elim, length-set, get_or-set_same, get_or-set_other}
use Rattle.std.specs.Prelude.{if◌then◌else◌, is_none, nat_le, nat_lt}
use Rattle.std.specs.Option.{option_and_then, option_or}
use Rattle.std.proofs.lemmas.Bool.{and_from, and_left, and_right, cases_eq, cases_lt, le-leb, le-ltb, lt-leb, lt-ltb}
use Rattle.std.proofs.lemmas.List.{length_push, get_or_push, get_or_append_left, get_or_past}
use Rattle.dl_rows.specs.declared.row.Row.{Row}
use Rattle.dl_look.specs.declared.slots.Slot.{Slot}
use Rattle.dl_look.specs.declared.ledger.Ledger.{Ledger}
use Rattle.dl_look.specs.declared.links.Links.{Links}
use Rattle.dl_look.specs.declared.ledger.Answered.{Answered}
use Rattle.dl_look.specs.Links.{IsLinked, is_open}
use Rattle.dl_look.specs.Slots.{slot_number, IsNumbered}
use Rattle.dl_look.specs.Ledgers.{no_answer, answered_at, answered_slot, entry_at, answer_upto, unanswered, IsSound}

pub unanswered-replicate : (n : ℕ) → unanswered (replicate n None) ≡ n
unanswered-replicate zero = refl
unanswered-replicate (suc n) = ap suc (unanswered-replicate n)

pub unanswered-set : (entries : List (Option ℕ)) (i e : ℕ) → i < length entries → get_or entries i None ≡ None
    → suc (unanswered (set entries i (Some e))) ≡ unanswered entries
unanswered-set [] i e lt none = absurd (omega arith)
unanswered-set (None ∷ entries) zero e lt none = refl
unanswered-set (Some d ∷ entries) zero e lt none = cc
unanswered-set (None ∷ entries) (suc i) e lt none = ap suc (unanswered-set entries i e (omega arith) none)
unanswered-set (Some d ∷ entries) (suc i) e lt none = unanswered-set entries i e (omega arith) none

abbrev pub no_entry : Option ℕ
no_entry = None

pub none-replicate : (n i : ℕ) → get_or (replicate n None) i None ≡ no_entry
none-replicate zero i = refl
none-replicate (suc n) zero = refl
none-replicate (suc n) (suc i) = none-replicate n i

is_none-true : (o : Option ℕ) → is_none o ≡ true → o ≡ None
is_none-true None h = refl
is_none-true (Some e) h = cc

unanswered_one : (entries : List (Option ℕ)) (i : ℕ) → i < length entries → get_or entries i None ≡ no_entry
    → 0 < unanswered entries
unanswered_one entries i lt none = omega (arith, unanswered-set entries i 0 lt none)

pub entry_within : (entries : List (Option ℕ)) (i e : ℕ) → get_or entries i None ≡ Some e → i < length entries
entry_within entries i e h =
    ⊎_elim (λ lt. lt) (λ le. absurd (let past = get_or_past entries i None le in cc)) (cases_lt i (length entries))

-- where a slot is open, not all places have an answer
left_one : (slots : List Slot) (ledger : Ledger) (at : ℕ) → IsNumbered slots → IsSound slots ledger
    → at < length slots → is_open ledger.links.next.items at ≡ true → length ledger.log.items < length slots
left_one slots ledger at numbered sound lt opened =
    let none = is_none-true (entry_at ledger (slot_number slots at)) (sym (sound.open at lt) ∙ opened) in
    let left =
    unanswered_one ledger.entries.items (slot_number slots at) (omega (arith, numbered.within at lt, sound.count))
    none in
    omega (arith, sound.room)

pub one_left : (slots : List Slot) (ledger : Ledger) (at : ℕ) → IsNumbered slots → IsSound slots ledger
    → at < length slots → is_open ledger.links.next.items at ≡ true → length ledger.log.items < vec_capacity ledger.log
one_left slots ledger at numbered sound lt opened =
    omega (arith, left_one slots ledger at numbered sound lt opened, sound.capacity)

pub slot_left : (slots : List Slot) (ledger : Ledger) (at : ℕ) → IsNumbered slots → IsSound slots ledger
    → at < length slots → is_open ledger.links.next.items at ≡ true
    → length ledger.log_slots.items < vec_capacity ledger.log_slots
slot_left slots ledger at numbered sound lt opened =
    omega (arith, left_one slots ledger at numbered sound lt opened, sound.slots_capacity, sound.log_slots)

-- the slot at gets the row as its answer
module _ (slots : List Slot) (old new : Ledger) (at : ℕ) (row : Row) (numbered : IsNumbered slots)
    (sound : IsSound slots old) (lt : at < length slots) (opened : is_open old.links.next.items at ≡ true)
    (linked : IsLinked new.links) (count : length new.links.next.items ≡ length old.links.next.items)
    (closed : is_open new.links.next.items at ≡ false)
    (others : (j : ℕ) → j < length old.links.next.items → j ≢ at
    → is_open new.links.next.items j ≡ is_open old.links.next.items j)
    (entries : new.entries.items ≡ set old.entries.items (slot_number slots at) (Some (length old.log.items)))
    (log : new.log.items ≡ old.log.items ++ record { number = slot_number slots at; row = row } ∷ [])
    (capacity : vec_capacity new.log ≡ vec_capacity old.log)
    (log_slots : new.log_slots.items ≡ old.log_slots.items ++ at ∷ [])
    (slots_capacity : vec_capacity new.log_slots ≡ vec_capacity old.log_slots) where
  abbrev number : ℕ
  number = slot_number slots at

  abbrev entry : ℕ
  entry = length old.log.items

  abbrev answered : Answered
  answered = record { number = number; row = row }

  within : number < length old.entries.items
  within = omega (arith, numbered.within at lt, sound.count)

  none : entry_at old number ≡ None
  none = is_none-true (entry_at old number) (sym (sound.open at lt) ∙ opened)

  longer : length new.log.items ≡ entry + 1
  longer = ap length log ∙ length_push old.log.items answered

  entry_new : entry_at new number ≡ Some entry
  entry_new = ap (λ l. get_or l number None) entries ∙ get_or-set_same old.entries.items number (Some entry) None within

  entry_other : (i : ℕ) → i ≢ number → entry_at new i ≡ entry_at old i
  entry_other i other =
      ap (λ l. get_or l i None) entries ∙ get_or-set_other old.entries.items number i (Some entry) None other

  answered_new : answered_at new entry ≡ answered
  answered_new = ap (λ l. get_or l entry no_answer) log ∙ get_or_push old.log.items answered no_answer entry refl

  answered_other : (e : ℕ) → e < entry → answered_at new e ≡ answered_at old e
  answered_other e less =
      ap (λ l. get_or l e no_answer) log ∙ get_or_append_left old.log.items (answered ∷ []) no_answer e less

  slot_new : answered_slot new entry ≡ at
  slot_new = ap (λ l. get_or l entry 0) log_slots ∙ get_or_push old.log_slots.items at 0 entry sound.log_slots

  slot_other : (e : ℕ) → e < entry → answered_slot new e ≡ answered_slot old e
  slot_other e less =
      ap (λ l. get_or l e 0) log_slots
      ∙ get_or_append_left old.log_slots.items (at ∷ []) 0 e (omega (arith, sound.log_slots))

  opens : (j : ℕ) → j < length slots → is_open new.links.next.items j ≡ is_none (entry_at new (slot_number slots j))
  opens j less =
      ⊎_elim
      (λ e. ap (is_open new.links.next.items) e ∙ closed
      ∙ sym (ap is_none (ap (λ k. entry_at new (slot_number slots k)) e ∙ entry_new)))
      (λ ne. others j (omega (arith, sound.links)) ne ∙ sound.open j less
      ∙ sym (ap is_none (entry_other (slot_number slots j) (λ e. ne (numbered.once j at less lt e)))))
      (cases_eq j at)

  logs : (i e : ℕ) → entry_at new i ≡ Some e → (e < length new.log.items) × ((answered_at new e).number ≡ i)
  logs i e h =
      ⊎_elim
      (λ is. let same : e ≡ entry = cc (entry_new) in (
        omega (arith, longer),
        ap (λ k. (answered_at new k).number) same ∙ ap (λ (a : Answered). a.number) answered_new
            ∙ sym is,
      ))
      (λ ne. let before = sound.logged i e (sym (entry_other i ne) ∙ h) in
      (omega (arith, longer, before.0), ap (λ (a : Answered). a.number) (answered_other e before.0) ∙ before.1))
      (cases_eq i number)

  keeps : (e : ℕ) → e < length new.log.items → entry_at new (answered_at new e).number ≡ Some e
  keeps e less =
      ⊎_elim
      (λ is. ap (λ k. entry_at new (answered_at new k).number) is
      ∙ ap (λ (a : Answered). entry_at new a.number) answered_new ∙ entry_new ∙ ap Some (sym is))
      (λ ne. let before : e < entry = omega (arith, longer) in
      let was = sound.kept e before in
      ap (λ (a : Answered). entry_at new a.number) (answered_other e before)
      ∙ entry_other (answered_at old e).number (λ is. let z = sym (ap (entry_at old) is) ∙ was in cc (none))
      ∙ was)
      (cases_eq e entry)

  slots_within : (e : ℕ) → e < length new.log.items → answered_slot new e < length slots
  slots_within e less =
      ⊎_elim
      (λ is. omega (arith, ap (answered_slot new) is, slot_new))
      (λ ne. omega (arith, longer, slot_other e (omega (arith, longer)), sound.within e (omega (arith, longer))))
      (cases_eq e entry)

  slots_logged : (e : ℕ) → e < length new.log.items
      → slot_number slots (answered_slot new e) ≡ (answered_at new e).number
  slots_logged e less =
      ⊎_elim
      (λ is. ap (slot_number slots) (ap (answered_slot new) is ∙ slot_new)
      ∙ sym (ap (λ k. (answered_at new k).number) is ∙ ap (λ (a : Answered). a.number) answered_new))
      (λ ne. let before : e < entry = omega (arith, longer) in
      ap (slot_number slots) (slot_other e before) ∙ sound.slot e before
      ∙ sym (ap (λ (a : Answered). a.number) (answered_other e before)))
      (cases_eq e entry)

  pub one_more : IsSound slots new
  one_more =
      record {
        linked = linked;
        links = count ∙ sound.links;
        count = ap length entries ∙ length-set old.entries.items number (Some entry) ∙ sound.count;
        «open» = opens;
        logged = logs;
        kept = keeps;
        room = omega (
          arith,
          longer,
          ap unanswered entries,
          unanswered-set old.entries.items number entry within none,
          sound.room,
        );
        capacity = omega (arith, sound.capacity);
        log_slots = omega (arith, longer, ap length log_slots, length_push old.log_slots.items at, sound.log_slots);
        within = slots_within;
        slot = slots_logged;
        slots_capacity = omega (arith, sound.slots_capacity);
      }

  pub one_given : answer_upto (length new.log.items) new number ≡ Some row
  one_given =
      ap (option_and_then (λ e. if nat_lt e (length new.log.items) then Some (answered_at new e).row
      else None)) entry_new
      ∙ ap₂ (λ (b : Bool) (r : Row). if b then Some r
      else None) (lt-ltb entry (length new.log.items) (omega (arith, longer)))
      (ap (λ (a : Answered). a.row) answered_new)

-- the open slots from low on up to before at, and before high, have the row
pub record Given (slots : List Slot) (old now : Ledger) (low high at : ℕ) (row : Row) : Type 0 where
  pub sound : IsSound slots now
  pub within : at ≤ length slots
  pub ahead : low ≤ at
  pub «open» : is_open now.links.next.items at ≡ true
  pub closed : (j : ℕ) → low ≤ j → j < at → is_open now.links.next.items j ≡ false
  pub given : (j : ℕ) → j < length slots
      → answer_upto (length now.log.items) now (slot_number slots j)
      ≡ option_or (answer_upto (length old.log.items) old (slot_number slots j)) (if nat_le low j
      && nat_lt j (min at high) then Some row else None)
  pub before : (limit i : ℕ) → limit ≤ length old.log.items → answer_upto limit now i ≡ answer_upto limit old i
  pub grown : length old.log.items ≤ length now.log.items
  pub sealed : now.links.sealed.items ≡ old.links.sealed.items

option_or-some : (o x : Option Row) → is_none o ≡ false → option_or o x ≡ o
option_or-some None x h = cc
option_or-some (Some r) x h = refl

pub option_or-none : (o : Option Row) → option_or o None ≡ o
option_or-none None = refl
option_or-none (Some r) = refl

-- between low, and both at and high
pub inside : (low high at j : ℕ) → low ≤ j → j < at → j < high → (nat_le low j && nat_lt j (min at high)) ≡ true
inside low high at j a b c =
    and_from (nat_le low j) (nat_lt j (min at high)) (le-leb low j a) (lt-ltb j (min at high) (omega arith))

pub outside : (low high at j : ℕ) → at ≤ j → (nat_le low j && nat_lt j (min at high)) ≡ false
outside low high at j a = and_right (nat_le low j) (nat_lt j (min at high)) (le-ltb j (min at high) (omega arith))

pub below : (low high at j : ℕ) → j < low → (nat_le low j && nat_lt j (min at high)) ≡ false
below low high at j a = and_left (nat_le low j) (nat_lt j (min at high)) (lt-leb low j a)

pub upto_entry : (ledger : Ledger) (limit i e : ℕ) → entry_at ledger i ≡ Some e
    → answer_upto limit ledger i ≡ (if nat_lt e limit then Some (answered_at ledger e).row else None)
upto_entry ledger limit i e h =
    ap (option_and_then (λ e. if nat_lt e limit then Some (answered_at ledger e).row else None)) h

pub answer_none : (ledger : Ledger) (limit i : ℕ) → is_none (entry_at ledger i) ≡ true → answer_upto limit ledger i ≡ None
answer_none ledger limit i h =
    ap (option_and_then (λ e. if nat_lt e limit then Some (answered_at ledger e).row else None))
    (is_none-true (entry_at ledger i) h)

answer_some : (slots : List Slot) (ledger : Ledger) (i : ℕ) → IsSound slots ledger → is_none (entry_at ledger i) ≡ false
    → is_none (answer_upto (length ledger.log.items) ledger i) ≡ false
answer_some slots ledger i sound h =
    elim (entry_at ledger i) as (λ o. entry_at ledger i ≡ o → is_none o ≡ false
    → is_none (option_and_then (λ e. if nat_lt e (length ledger.log.items) then Some (answered_at ledger e).row
    else None) o) ≡ false) [
      | None ↦ λ is h. cc
      | Some e ↦ λ is h. ap (λ (b : Bool). is_none (if b then Some (answered_at ledger e).row else None))
          (lt-ltb e (length ledger.log.items) (sound.logged i e is).0)
    ] refl h

-- the slot at has its answer, and the next open one is further
module _ (slots : List Slot) (old now mid : Ledger) (low high at further : ℕ) (row : Row) (numbered : IsNumbered slots)
    (g : Given slots old now low high at row) (lt : at < high) (to : high ≤ length slots) (sound : IsSound slots mid)
    (shut : is_open mid.links.next.items at ≡ false)
    (others : (j : ℕ) → j < length now.links.next.items → j ≢ at
    → is_open mid.links.next.items j ≡ is_open now.links.next.items j)
    (gets : answer_upto (length mid.log.items) mid (slot_number slots at) ≡ Some row)
    (same : (i : ℕ) → i ≢ slot_number slots at
    → answer_upto (length mid.log.items) mid i ≡ answer_upto (length now.log.items) now i)
    (before : (limit i : ℕ) → limit ≤ length now.log.items → answer_upto limit mid i ≡ answer_upto limit now i)
    (grown : length mid.log.items ≡ length now.log.items + 1)
    (seals : mid.links.sealed.items ≡ now.links.sealed.items)
    (links : Links)
    (linked : IsLinked links)
    (count : length links.next.items ≡ length mid.links.next.items)
    (stay : (j : ℕ) → j < length mid.links.next.items → is_open links.next.items j ≡ is_open mid.links.next.items j)
    (ahead : at + 1 ≤ further)
    (within : further < length mid.links.next.items)
    (opened : is_open links.next.items further ≡ true)
    (closed : (j : ℕ) → at + 1 ≤ j → j < further → is_open links.next.items j ≡ false)
    (seal : links.sealed.items ≡ mid.links.sealed.items) where
  abbrev next : Ledger
  next = record { links = links; entries = mid.entries; log = mid.log; log_slots = mid.log_slots }

  abbrev answer_before : ℕ → Option Row
  answer_before j = answer_upto (length old.log.items) old (slot_number slots j)

  abbrev picked : ℕ → ℕ → Option Row
  picked end j = if nat_le low j && nat_lt j (min end high) then Some row else None

  stays_sound : IsSound slots next
  stays_sound =
      record {
        linked = linked;
        links = count ∙ sound.links;
        count = sound.count;
        «open» = λ j less. stay j (omega (arith, sound.links)) ∙ sound.open j less;
        logged = sound.logged;
        kept = sound.kept;
        room = sound.room;
        capacity = sound.capacity;
        log_slots = sound.log_slots;
        within = sound.within;
        slot = sound.slot;
        slots_capacity = sound.slots_capacity;
      }

  at_within : at < length slots
  at_within = omega arith

  was_none : answer_before at ≡ None
  was_none =
      sym (option_or-none (answer_before at))
      ∙ sym (g.given at at_within
      ∙ ap (λ (b : Bool). option_or (answer_before at) (if b then Some row else None))
      (outside low high at at (omega arith)))
      ∙ answer_none now (length now.log.items) (slot_number slots at) (sym (g.sound.open at at_within) ∙ g.open)

  gives_at : answer_upto (length mid.log.items) mid (slot_number slots at)
      ≡ option_or (answer_before at) (picked further at)
  gives_at =
      gets ∙ sym (ap₂ (λ (o : Option Row) (b : Bool). option_or o (if b then Some row else None)) was_none
      (inside low high further at g.ahead (omega arith) lt))

  -- those passed over have an answer already
  passes : (j : ℕ) → j < length slots → at < j → j < further
      → option_or (answer_before j) (picked at j) ≡ option_or (answer_before j) (picked further j)
  passes j less above under =
      let ne : j ≢ at = omega arith in
      let kept = same (slot_number slots j) (λ e. ne (numbered.once j at less at_within e)) ∙ g.given j less in
      let as_was =
      ap (λ (b : Bool). option_or (answer_before j) (if b then Some row else None))
      (outside low high at j (omega arith)) ∙ option_or-none (answer_before j) in
      let has =
      answer_some slots mid (slot_number slots j) sound (sym (sound.open j less)
      ∙ sym (stay j (omega (arith, sound.links))) ∙ closed j (omega arith) under) in
      as_was ∙ sym (option_or-some (answer_before j) (picked further j) (sym (ap is_none (kept ∙ as_was)) ∙ has))

  -- those before and after are picked as before
  alike : (j : ℕ) → j ≢ at → (j < at) ⊎ (further ≤ j)
      → (nat_le low j && nat_lt j (min at high)) ≡ (nat_le low j && nat_lt j (min further high))
  alike j ne where_it_is =
      ⊎_elim
      (λ under. ap (λ b. nat_le low j && b) (lt-ltb j (min at high) (omega arith)
      ∙ sym (lt-ltb j (min further high) (omega arith))))
      (λ above. outside low high at j (omega arith) ∙ sym (outside low high further j above))
      where_it_is

  gives_other : (j : ℕ) → j < length slots → j ≢ at
      → option_or (answer_before j) (picked at j) ≡ option_or (answer_before j) (picked further j)
  gives_other j less ne =
      ⊎_elim
      (λ under. ap (λ (b : Bool). option_or (answer_before j) (if b then Some row else None)) (alike j ne (inl under)))
      (λ from. ⊎_elim
      (λ between. passes j less (omega arith) between)
      (λ tail. ap (λ (b : Bool). option_or (answer_before j) (if b then Some row else None))
      (alike j ne (inr tail)))
      (cases_lt j further))
      (cases_lt j at)

  gives : (j : ℕ) → j < length slots
      → answer_upto (length mid.log.items) mid (slot_number slots j) ≡ option_or (answer_before j) (picked further j)
  gives j less =
      ⊎_elim
      (λ is. ap (λ k. answer_upto (length mid.log.items) mid (slot_number slots k)) is ∙ gives_at
      ∙ sym (ap (λ k. option_or (answer_before k) (picked further k)) is))
      (λ ne. same (slot_number slots j) (λ e. ne (numbered.once j at less at_within e)) ∙ g.given j less
      ∙ gives_other j less ne)
      (cases_eq j at)

  shuts : (j : ℕ) → low ≤ j → j < further → is_open links.next.items j ≡ false
  shuts j from under =
      let n = g.sound.links in
      let m = sound.links in
      ⊎_elim
      (λ earlier. stay j (omega arith) ∙ others j (omega arith) (omega arith) ∙ g.closed j from earlier)
      (λ tail. ⊎_elim
      (λ is. stay j (omega arith) ∙ ap (is_open mid.links.next.items) is ∙ shut)
      (λ ne. closed j (omega arith) under)
      (cases_eq j at))
      (cases_lt j at)

  pub given_more : Given slots old next low high further row
  given_more =
      record {
        sound = stays_sound;
        within = omega (arith, sound.links);
        ahead = omega (arith, g.ahead);
        «open» = opened;
        closed = shuts;
        given = gives;
        before = λ limit i le. before limit i (omega (arith, g.grown)) ∙ g.before limit i le;
        grown = omega (arith, g.grown);
        sealed = seal ∙ seals ∙ g.sealed;
      }
