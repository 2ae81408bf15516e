-- What is held of a sequence, part by part, and what is printed at its end.
use Rattle.std.proofs.Common.{◌≡◌, ◌∙◌, ◌++◌, ◌∷◌, ◌+◌, ℕ, List, [], None, Result, Ok, Err, refl, sym, ap, subst}
use Rattle.std.proofs.Common.{◌<◌, append-nil, append_assoc, length, length-append, arith, Bool, true, false, take, drop, get_or}
use Rattle.std.proofs.lemmas.List.{map-append, take-append-drop, take_more}
use Rattle.std.specs.Prelude.{⊤, OnErr, OnOk, is_err, ◌&&◌, if◌then◌else◌, map}
use Rattle.dl_field.specs.HeaderData.{HeaderData}
use Rattle.dl_look.specs.Answer.{first_place, last_place, place_of}
use Rattle.dl_look.specs.declared.code_ranges.AddressRange.{AddressRange}
use Rattle.dl_look.specs.declared.place.Place.{Place}
use Rattle.dl_memory.specs.Refusals.{IsRefused}
use Rattle.dl_rows.specs.Items.{a_byte, a_row}
use Rattle.dl_rows.specs.declared.row.Row.{Row}
use Rattle.dl_sections.specs.Section.{of_item}
use Rattle.dl_dump.specs.declared.held_sequence.HeldItem.{HeldItem}
use Rattle.dl_dump.specs.declared.held_sequence.HeldItem.TheVariants as held
use Rattle.dl_dump.specs.declared.range_dumping.RangeDumper.{RangeDumper}
use Rattle.dl_dump.specs.declared.reached.Reached.{Reached}
use Rattle.dl_dump.specs.DetailText.{DetailStyle, reached, reached_after, shown_after, shown_visit}
use Rattle.dl_dump.specs.RangeDumping.{HasEnded, HasSequence, ended_lines, style_held}
use Rattle.dl_dump.specs.RangeText.{Sequence, covers_between, covers_some, range_along, range_shown, rows_held}
use Rattle.dl_dump.specs.RangeText.{sequence_after, sequence_along, sequence_lines, sequence_over, unit_lines, visit_held, visits_held, with_item}
use Rattle.dl_dump.proofs.RangeLemmas.{not_both, refused_more}
use Rattle.dl_dump.proofs.ShowingLemmas.{byte_visits, reached-append, shown-append}

-- ---- rows that are held

rows_held-append : (a b : List HeldItem) → rows_held (a ++ b) ≡ rows_held a ++ rows_held b
rows_held-append [] b = refl
rows_held-append (held.Row r ∷ a) b = ap (λ (l : List Row). r ∷ l) (rows_held-append a b)
rows_held-append (held.Byte n ∷ a) b = rows_held-append a b
rows_held-append (held.Operation o ∷ a) b = rows_held-append a b

last_of : (rows : List Row) (r : Row) → last_place (rows ++ r ∷ []) ≡ place_of r
last_of [] r = refl
last_of (a ∷ []) r = refl
last_of (a ∷ b ∷ rows) r = last_of (b ∷ rows) r

pub covers_ended : (range : AddressRange) (items : List HeldItem) (r : Row)
    → covers_some range (rows_held (items ++ held.Row r ∷ []))
    ≡ covers_between range (first_place (rows_held (items ++ held.Row r ∷ []))) (place_of r)
covers_ended range items r =
    ap (λ (p : Place). covers_between range (first_place (rows_held (items ++ held.Row r ∷ []))) p)
    (ap last_place (rows_held-append items (held.Row r ∷ [])) ∙ last_of (rows_held items) r)

-- ---- bytes

module _ (style : DetailStyle) (range : AddressRange) where
  pub nothing_of_bytes : (s : Sequence) (bytes : List ℕ) → range_along style range s (byte_visits bytes) ≡ []
  nothing_of_bytes s [] = refl
  nothing_of_bytes s (b ∷ bytes) = nothing_of_bytes (sequence_after style range s (of_item (a_byte b))) bytes

  -- where operations aren't shown, none is held
  module _ (unshown : style.details.operations ≡ false) where
    pub same_after_bytes : (s : Sequence) (bytes : List ℕ) → sequence_along style range s (byte_visits bytes) ≡ s
    same_after_bytes s [] = refl
    same_after_bytes s (b ∷ bytes) =
        ap (λ (t : Sequence). sequence_along style range t (byte_visits bytes))
        (ap (λ (is : Bool). if is then with_item s (held.Byte b) else s) unshown) ∙ same_after_bytes s bytes

  module _ (shown : style.details.operations ≡ true) where
    pub bytes_held : (s : Sequence) (bytes : List ℕ)
        → sequence_along style range s (byte_visits bytes) ≡ record s { items = s.items ++ map held.Byte bytes }
    bytes_held s [] = ap (λ (l : List HeldItem). record s { items = l }) (sym (append-nil s.items))
    bytes_held s (b ∷ bytes) =
        ap (λ (t : Sequence). sequence_along style range t (byte_visits bytes))
        (ap (λ (is : Bool). if is then with_item s (held.Byte b) else s) shown)
        ∙ bytes_held (with_item s (held.Byte b)) bytes
        ∙ ap (λ (l : List HeldItem). record s { items = l }) (append_assoc s.items (held.Byte b ∷ []) (map held.Byte bytes))

-- ---- what a dumper has

module _ {M D : Type 0} {refuses : M → ℕ → Type 0} {old : RangeDumper M D} {s : Sequence}
    (has : HasSequence refuses old s) (more : List HeldItem) where
  length_more : length (s.items ++ more) ≡ length s.items + length more
  length_more = length-append s.items more

  -- these are held too
  pub has_more : (new : RangeDumper M D) → new.at ≡ old.at → new.unit ≡ old.unit → old.is_refused ≡ false
      → new.is_refused ≡ false → new.items.now.items ≡ old.items.now.items ++ more
      → HasSequence refuses new (record s { items = s.items ++ more })
  has_more new at unit whole still items = record {
    at = at ∙ has.at;
    unit = unit ∙ has.unit;
    whole = λ e. items ∙ ap (λ (l : List HeldItem). l ++ more) (has.whole whole);
    refused = λ e. absurd (not_both new.is_refused still e);
  }

  -- or memory was refused for some of them
  pub refused_for : (new : RangeDumper M D) → new.at ≡ old.at → new.unit ≡ old.unit
      → old.is_refused ≡ false → new.is_refused ≡ true → new.memory.now ≡ old.memory.now
      → IsRefused (refuses old.memory.now) (length old.items.now.items + length more)
      → HasSequence refuses new (record s { items = s.items ++ more })
  refused_for new at unit whole now memory refused = record {
    at = at ∙ has.at;
    unit = unit ∙ has.unit;
    whole = λ e. absurd (not_both new.is_refused e now);
    refused = λ e. rw memory (subst (λ (n : ℕ). IsRefused (refuses old.memory.now) n)
        (ap (λ (l : List HeldItem). length l + length more) (has.whole whole) ∙ sym length_more) refused);
  }

  -- or it had been before
  pub refused_still : old.is_refused ≡ true → HasSequence refuses old (record s { items = s.items ++ more })
  refused_still now = record {
    at = has.at;
    unit = has.unit;
    whole = λ e. absurd (not_both old.is_refused e now);
    refused = λ e. refused_more (refuses old.memory.now) (length s.items) (length (s.items ++ more))
        (omega (arith, length_more)) (has.refused e);
  }

-- what is held after a call that may be refused memory
pub held_or_refused : {M D E : Type 0} {refuses : M → ℕ → Type 0} {old : RangeDumper M D} {s : Sequence}
    → HasSequence refuses old s → (more : List HeldItem) (new : RangeDumper M D) → new.at ≡ old.at → new.unit ≡ old.unit
    → old.is_refused ≡ false → new.memory.now ≡ old.memory.now → (r : Result ⊤ E) → new.is_refused ≡ is_err r
    → OnOk r (new.items.now.items ≡ old.items.now.items ++ more)
    → OnErr r (IsRefused (refuses old.memory.now) (length old.items.now.items + length more))
    → HasSequence refuses new (record s { items = s.items ++ more })
held_or_refused has more new at unit whole memory (Ok u) is items refused =
    has_more has more new at unit whole is items
held_or_refused has more new at unit whole memory (Err e) is items refused =
    refused_for has more new at unit whole is memory refused

pub one_refused : {E : Type 0} (r : Result ⊤ E) (refuses : ℕ → Type 0) (n : ℕ) → OnErr r (refuses n)
    → OnErr r (IsRefused refuses n)
one_refused (Ok u) refuses n refused = tt
one_refused (Err e) refuses n refused = (n, omega arith, refused)

-- ---- the end of a sequence

-- the lines at the end of a sequence that is wanted, and of one that isn't
pub lines_wanted : {M D : Type 0} (d : RangeDumper M D) (h : HeaderData) (end : Place)
    → covers_between d.range (first_place (rows_held d.items.now.items)) end ≡ true
    → unit_lines (style_held d) d.at h d.unit
    ++ shown_after (style_held d) d.at (visits_held h d.items.now.items) ≡ ended_lines d h end
lines_wanted d h end is =
    sym (ap (λ (b : Bool). if b then unit_lines (style_held d) d.at h d.unit
    ++ shown_after (style_held d) d.at (visits_held h d.items.now.items) else []) is)

pub lines_unwanted : {M D : Type 0} (d : RangeDumper M D) (h : HeaderData) (end : Place)
    → covers_between d.range (first_place (rows_held d.items.now.items)) end ≡ false → ended_lines d h end ≡ []
lines_unwanted d h end is =
    ap (λ (b : Bool). if b then unit_lines (style_held d) d.at h d.unit
    ++ shown_after (style_held d) d.at (visits_held h d.items.now.items) else []) is

module _ (style : DetailStyle) (range : AddressRange) (s : Sequence) (h : HeaderData) (r : Row)
    (ends : r.end_sequence ≡ true) where
  abbrev pub items_ended : List HeldItem
  items_ended = s.items ++ held.Row r ∷ []

  shown_is : (if covers_some range (rows_held items_ended) then sequence_lines style (with_item s (held.Row r)) h else [])
      ≡ range_shown style range s (of_item (a_row h r))
  shown_is =
      sym (ap (λ (b : Bool). if b && covers_some range (rows_held items_ended)
      then sequence_lines style (with_item s (held.Row r)) h else []) ends)

  after_is : sequence_over style range (with_item s (held.Row r)) h ≡ sequence_after style range s (of_item (a_row h r))
  after_is =
      sym (ap (λ (b : Bool). if b then sequence_over style range (with_item s (held.Row r)) h else with_item s (held.Row r)) ends)

  module _ {M D : Type 0} (mid : RangeDumper M D) (style_is : style_held mid ≡ style) (range_is : mid.range ≡ range)
      (at : mid.at ≡ s.at) (unit : mid.unit ≡ s.unit) (held_is : mid.items.now.items ≡ items_ended) where
    -- what is printed at the end of what is held
    pub lines_of_end : ended_lines mid h (place_of r) ≡ range_shown style range s (of_item (a_row h r))
    lines_of_end = rw (style_is, range_is, at, unit, held_is, ← covers_ended range s.items r) shown_is

    at_is : reached_after (style_held mid) mid.at (visits_held h mid.items.now.items)
        ≡ reached_after style s.at (visits_held h items_ended)
    at_is = rw (style_is, at, held_is) refl

    unit_is : (if covers_between mid.range (first_place (rows_held mid.items.now.items)) (place_of r) then None else mid.unit)
        ≡ (if covers_some range (rows_held items_ended) then None else s.unit)
    unit_is = rw (range_is, unit, held_is, covers_ended range s.items r) refl

    pub has_after_end : (refuses : M → ℕ → Type 0) (new : RangeDumper M D) → mid.is_refused ≡ false
        → HasEnded mid new h (place_of r)
        → HasSequence refuses new (sequence_after style range s (of_item (a_row h r)))
    has_after_end refuses new whole ended =
        subst (λ (t : Sequence). HasSequence refuses new t) after_is (record {
          at = ended.at ∙ at_is;
          unit = ended.unit ∙ unit_is;
          whole = λ e. ended.none;
          refused = λ e. absurd (not_both new.is_refused (ended.whole ∙ whole) e);
        })

-- a byte more
pub bytes_more : (old : List HeldItem) (bytes : List ℕ) (i : ℕ) → i < length bytes
    → (old ++ map held.Byte (take i bytes)) ++ held.Byte (get_or bytes i 0) ∷ [] ≡ old ++ map held.Byte (take (i + 1) bytes)
bytes_more old bytes i turn =
    append_assoc old (map held.Byte (take i bytes)) (held.Byte (get_or bytes i 0) ∷ [])
    ∙ ap (λ (l : List HeldItem). old ++ l)
    (sym (map-append held.Byte (take i bytes) (get_or bytes i 0 ∷ [])) ∙ ap (map held.Byte) (sym (take_more bytes i 0 turn)))

-- an item more
module _ (style : DetailStyle) (h : HeaderData) (at : Reached) (items : List HeldItem) (i : ℕ) (d : HeldItem)
    (turn : i < length items) where
  visits_more : visits_held h (take (i + 1) items) ≡ visits_held h (take i items) ++ visit_held h (get_or items i d) ∷ []
  visits_more = ap (visits_held h) (take_more items i d turn) ∙ map-append (visit_held h) (take i items) (get_or items i d ∷ [])

  pub reached_more : reached style (reached_after style at (visits_held h (take i items))) (visit_held h (get_or items i d))
      ≡ reached_after style at (visits_held h (take (i + 1) items))
  reached_more =
      sym (ap (reached_after style at) visits_more
      ∙ reached-append style at (visits_held h (take i items)) (visit_held h (get_or items i d) ∷ []))

  pub shown_more : shown_after style at (visits_held h (take (i + 1) items))
      ≡ shown_after style at (visits_held h (take i items))
      ++ shown_visit style (reached_after style at (visits_held h (take i items))) (visit_held h (get_or items i d))
  shown_more =
      ap (shown_after style at) visits_more
      ∙ shown-append style at (visits_held h (take i items)) (visit_held h (get_or items i d) ∷ [])
      ∙ ap (λ (l : List ℕ). shown_after style at (visits_held h (take i items)) ++ l)
      (append-nil (shown_visit style (reached_after style at (visits_held h (take i items))) (visit_held h (get_or items i d))))

  pub shown_split : shown_after style at (visits_held h items)
      ≡ shown_after style at (visits_held h (take i items))
      ++ shown_visit style (reached_after style at (visits_held h (take i items))) (visit_held h (get_or items i d))
      ++ shown_after style (reached_after style at (visits_held h (take (i + 1) items))) (visits_held h (drop (i + 1) items))
  shown_split =
      ap (λ (l : List HeldItem). shown_after style at (visits_held h l)) (sym (take-append-drop (i + 1) items))
      ∙ ap (shown_after style at) (map-append (visit_held h) (take (i + 1) items) (drop (i + 1) items))
      ∙ shown-append style at (visits_held h (take (i + 1) items)) (visits_held h (drop (i + 1) items))
      ∙ ap (λ (l : List ℕ). l
      ++ shown_after style (reached_after style at (visits_held h (take (i + 1) items))) (visits_held h (drop (i + 1) items)))
      shown_more

-- for the places past the last one
abbrev pub no_item : HeldItem
no_item = held.Byte 0
