-- What `copy` answers and writes.
use Rattle.dl_sections.proofs.Names.{◌*◌, ◌++◌, ◌∙◌, ◌∷◌, ◌≡◌, ◌≤◌, [], AllByRecursion, ap, append-nil, append_assoc, Appends, AreMade}
use Rattle.dl_sections.proofs.Names.{arith, concat, Copier, CopiesAs, copy_story, Copying, Dialect, EmitFault, ended_as}
use Rattle.dl_sections.proofs.Names.{ends, EndsAs, Err, foreign_in, goes, HasBegun, HasUnits, inl, inr, IsUnit, length}
use Rattle.dl_sections.proofs.Names.{List, Made, made_by, None, of_end, of_version, Ok, Option, Order, Progress, Ran, refl}
use Rattle.dl_sections.proofs.Names.{refusal, Result, Row, row_count, RunFault, same_from_push, section_visits, Settled, Some, Sound}
use Rattle.dl_sections.proofs.Names.{stop_in, stopped, StopsAt, Summary, sym, take, TellsOut, text_in, told_to, unit_of}
use Rattle.dl_sections.proofs.Names.{units_as, Visit, visited, VisitorStops, WithinUnit, Write, zero-add, ℕ}
use Rattle.dl_sections.proofs.Names.fault
use Rattle.dl_memory.specs.Refusals.{IsRefused}
use Rattle.dl_emit.specs.declared.program.TheConstants.{ROW}
use Rattle.dl_sections.proofs.CopierLemmas.{told_more}
use Rattle.dl_sections.proofs.CopyingSections.{StopIs, Now, Heard, heard_of, WantsBy}
use Rattle.dl_sections.proofs.Fronts.{none_is_some, value_same}
use Rattle.dl_sections.proofs.RangeLemmas.{KeepsRanges, too_long}
use Rattle.dl_rows.specs.Items.{a_byte, a_row, an_operation}
use Rattle.dl_sections.specs.Section.{NoneBefore, of_item}
use Rattle.dl_sections.proofs.FeedLemmas.{foreign_before, sound_before}
use Rattle.dl_sections.proofs.RowCounts.{few_rows_before, growth_more}
use Rattle.dl_sections.proofs.SectionLemmas.{has_front}

-- what stops at a visit adds no copy
stop_adds : (made : Made) (order : Order) (offset : ℕ) (rows : List Row) (text own : List ℕ) (visit : Visit)
    (f : RunFault)
    → visited made order (goes offset rows text) visit ≡ stopped own f → own ≡ text
stop_adds made order offset rows text own (of_version n version) f e = cc
stop_adds made order offset rows text own (of_end (Some h)) f e =
    by (unit_of order (made offset h) rows) (refusal (made offset h) rows) e where
      by : (unit : List ℕ) (o : Option EmitFault) → ended_as unit text offset o ≡ stopped own f → own ≡ text
      by unit None e = cc
      by unit (Some g) e = cc
stop_adds made order offset rows text own (of_item (a_byte x)) f e = cc
stop_adds made order offset rows text own (of_item (an_operation header o)) f e = cc
stop_adds made order offset rows text own (of_item (a_row header r)) f e = cc
stop_adds made order offset rows text own visit f e = cc

module _ {M : Type 0} (refuses : M → ℕ → Type 0) (dialect : Dialect) (limit : ℕ) (bytes : List ℕ) (left : Option (List ℕ))
    (first new : Copier M) (start now : Option (List ℕ)) (own : first.program.order ≡ dialect.order)
    (ranges : KeepsRanges dialect (made_by first.becomes)) where
  abbrev made : Made
  made = made_by first.becomes

  -- memory was refused, for no more bytes than this
  abbrev Refused : Type 0
  Refused = IsRefused (refuses first.memory.now) (ROW * length bytes)

  -- memory is wanted for the copy of the bytes at an offset
  abbrev Wants : (offset : ℕ) → List ℕ → Type 0
  Wants = WantsBy Refused (refuses first.memory.now) first.becomes dialect

  abbrev Copied : Result Summary RunFault → Type 0
  Copied result = CopiesAs made Wants dialect limit bytes left start now result

  abbrev HeardSo : (n : ℕ) (units : List (List ℕ)) (b : List ℕ) (more : List Visit) (text : List ℕ) → Progress → Type 0
  HeardSo = Heard Refused (refuses first.memory.now) first.becomes made dialect

  abbrev s : List ℕ
  s = take limit bytes

  heard_in : (units : List (List ℕ)) (b : List ℕ) (heard more : List Visit) → AllByRecursion (IsUnit dialect) units
      → section_visits dialect units b ≡ heard ++ more → HeardSo 0 units b more [] (told_to first heard)
  heard_in units b heard more each e =
      rw own (heard_of Refused (refuses first.memory.now) first.becomes made dialect 0 first.unit (length (concat units)) [] units b heard more each (omega arith) e)

  -- these units are copied, and their copies are out
  abbrev HasMade : List (List ℕ) → Type 0
  HasMade units = AreMade made dialect 0 units × Appends start now (units_as made dialect 0 units)

  -- without a fault all units are copied, and b isn't of another version
  all_copied : (units : List (List ℕ)) (b : List ℕ) → AllByRecursion (IsUnit dialect) units
      → Settled (copy_story refuses) first start now (section_visits dialect units b) (Copying first new start now)
      → (foreign_in dialect b ≡ None) × HasMade units
  all_copied units b each settled =
      let f = heard_in units b (section_visits dialect units b) [] each (simp append-nil) in
      let is = rw settled.tells.told at f.now in
      let all = is.1 refl in
      let same : units ≡ f.done = f.whole ∙ rw all.0 (append-nil f.done) in
      (all.1, rw same (f.copied, rw (settled.tells.told, is.0) at settled.out))

  text_is : {units : List (List ℕ)} {b : List ℕ} {more : List Visit} (p : Progress)
      (h : HeardSo 0 units b more [] p) → text_in p ≡ units_as made dialect 0 h.done
  text_is (goes offset rows t) h = h.now.0
  text_is (stopped t f) h = h.now.0

  failed_write : (units : List (List ℕ)) (b back : List ℕ) (heard more : List Visit) (out : ℕ)
      → HasUnits dialect s units (b ++ back) → section_visits dialect units b ≡ heard ++ more
      → TellsOut start now (text_in (told_to first heard)) (fault.Write out) → Copied (Err (fault.Write out))
  failed_write units b back heard more out has whole tells =
      let f = heard_in units b heard more has.each whole in (
        f.done,
        concat f.after ++ (b ++ back),
        has_front dialect s units f.done f.after (b ++ back) f.whole has,
        f.copied,
        rw (text_is (told_to first heard) f) at tells,
      )

  module _ (units : List (List ℕ)) (b back : List ℕ) (begun : HasBegun dialect s units b back) (f : RunFault)
      (stops : VisitorStops (copy_story refuses) first new start now (section_visits dialect units b) f) where
    has : HasUnits dialect s units (b ++ back)
    has = begun.has

    out_before : Appends start now stops.tells.text
    out_before = rw stops.tells.told at stops.out

    -- bytes after units, of which the first are c
    after_units : (done after : List (List ℕ)) (c tail : List ℕ) → units ≡ done ++ after → concat after ++ b ≡ c ++ tail
        → WithinUnit dialect c → NoneBefore dialect c → HasBegun dialect s done c (tail ++ back)
    after_units done after c tail all whole within none =
        let rest : concat after ++ (b ++ back) ≡ c ++ (tail ++ back) =
        cc (append_assoc (concat after) b back, append_assoc c tail back) in
        record { has = rw rest at (has_front dialect s units done after (b ++ back) all has); in_unit = within; none_before = none }

    no_memory : Sound dialect b → StopsAt refuses first (stops.before ++ stops.visit ∷ []) fault.NoMemory
        → Copied (Err fault.NoMemory)
    no_memory sound (before, visit, same, (offset, rows, text, there, growth)) =
        let h = heard_in units b stops.before (stops.visit ∷ stops.more) has.each stops.whole in
        let is = rw stops.tells.told at h.now in
        let visits = same_from_push stops.before before stops.visit visit same in
        let here : goes new.unit stops.tells.rows stops.tells.text ≡ goes offset rows text =
        sym stops.tells.told ∙ ap (told_to first) visits.0 ∙ there in
        let at : new.unit ≡ offset = cc in
        let few : row_count before ≤ length bytes =
        rw visits.0 at (few_rows_before dialect limit bytes units b back stops.before (stops.visit ∷ stops.more) has
        stops.whole) in
        let grows = growth_more (refuses first.memory.now) first.becomes offset visit
        (λ (refused : IsRefused (refuses first.memory.now) (ROW * row_count before)).
        (refused.0, omega (arith, refused.1, few), refused.2)) growth in
        let a = is.2 stops.visit stops.more refl (rw (visits.1, at) grows) begun.in_unit sound in (
          h.done,
          a.c,
          a.tail ++ back,
          after_units h.done h.after a.c a.tail h.whole a.whole a.within (sound_before dialect a.c a.sound),
          a.sound,
          a.not_foreign,
          inr (rw (h.at ∙ zero-add (length (concat h.done))) at a.wants),
          (h.copied, rw is.0 at out_before),
        )

    abbrev heard : List Visit
    heard = stops.before ++ stops.visit ∷ []

    told : HeardSo 0 units b stops.more [] (told_to first heard)
    told = heard_in units b heard stops.more has.each (stops.whole ∙ simp append_assoc)

    by_stop : HasMade told.done → (g : RunFault) → StopIs made dialect told.place told.after b g → Copied (Err g)
    by_stop out (fault.ForeignUnit offset) (c, more, version, whole, at, within, foreign) = (
      told.done,
      c,
      more ++ back,
      version,
      after_units told.done told.after c more told.whole whole within (foreign_before dialect c version foreign within),
      at ∙ told.at ∙ zero-add (length (concat told.done)),
      foreign,
      out,
    )
    by_stop out (fault.Emit offset g) (u, later, h, whole, at, header, refused) = (
      told.done,
      u,
      concat later ++ (b ++ back),
      h,
      has_front dialect s units (told.done ++ u ∷ []) later (b ++ back) (told.whole ∙ rw whole (simp append_assoc)) has,
      at ∙ told.at ∙ zero-add (length (concat told.done)),
      header,
      refused,
      too_long dialect made ranges offset u h g header refused,
      out,
    )
    by_stop out g stop = absurd stop

    stopped_there : stop_in (told_to first heard) ≡ Some f → Copied (Err f)
    stopped_there reason =
        by (told_to first heard) (sym (told_more stops.tells stops.visit)) told.now reason where
          by : (p : Progress)
              → visited made first.program.order (goes new.unit stops.tells.rows stops.tells.text) stops.visit ≡ p
              → Now Refused (refuses first.memory.now) first.becomes made dialect told.place told.after b stops.more (units_as made dialect 0 told.done) p
              → stop_in p ≡ Some f → Copied (Err f)
          by (goes offset rows text) at is reason = absurd (none_is_some reason)
          by (stopped text g) at is reason =
              let adds = stop_adds made first.program.order new.unit stops.tells.rows stops.tells.text text stops.visit
              g at in
              let same : g ≡ f = value_same g f reason in
              by_stop (told.copied, rw (← adds, is.0) at out_before) f (rw same at (is.1 begun.in_unit))

  settled : (units : List (List ℕ)) (b back : List ℕ) (f : RunFault)
      → EndsAs dialect limit bytes left units b back (Err f)
      → Settled (copy_story refuses) first start now (section_visits dialect units b) (Copying first new start now)
      → Copied (Err f)
  settled units b back fault.NoMemory ends s =
      let (no_version, all) = all_copied units b ends.0.has.each s in
      (units, b, back, ends.0, ends.1, no_version, inl ends.2, all)
  settled units b back (fault.ForeignUnit offset) ends s = absurd ends
  settled units b back (fault.Emit offset f) ends s = absurd ends
  settled units b back (fault.Write out) ends s = absurd ends
  settled units b back fault.NotFound ends s = absurd ends
  settled units b back fault.TwoSums ends s = absurd ends
  settled units b back fault.NoUnit ends s = absurd ends
  settled units b back f ends s =
      let (no_version, all) = all_copied units b ends.0.each s in (units, b, back, ends, no_version, all)

  pub copies : (result : Result Summary RunFault) → Ran (copy_story refuses) dialect limit bytes left first new start now result
      → Copied result
  copies (Ok summary) (inl (units, ends, is)) = (units, ends, (all_copied units [] ends.0.each is).1)
  copies (Ok summary) (inr (_, _, _, _, is)) = absurd is.tells
  copies (Err (fault.Write out)) ran =
      failed_write ran.0 ran.1 ran.2 ran.4.0 ran.4.1 out ran.3.has ran.4.2 ran.4.3
  copies (Err fault.NoMemory) ran = elim ran.3 [
    | inl ends ↦ settled ran.0 ran.1 ran.2 fault.NoMemory ends.0 ends.1
    | inr s ↦ no_memory ran.0 ran.1 ran.2 s.0 fault.NoMemory s.2 s.1 s.2.reason
  ]
  copies (Err f) ran = elim ran.3 [
    | inl ends ↦ settled ran.0 ran.1 ran.2 f ends.0 ends.1
    | inr s ↦ stopped_there ran.0 ran.1 ran.2 s.0 f s.2 s.2.reason
  ]
