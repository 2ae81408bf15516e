-- What a dump of a range is told, holds and prints. No promise rests on this file.
use Rattle.std.specs.Prelude.{◌≡◌, ⊤, ℕ, ◌+◌, true, false, if◌then◌else◌, List, [], ◌∷◌, ◌++◌, length, Option, None, Result, Ok, Err}
use Rattle.dl_field.specs.HeaderData.{HeaderData}
use Rattle.dl_head.specs.declared.header.HeaderLengths.{HeaderLengths}
use Rattle.dl_rows.specs.declared.row.Row.{Row}
use Rattle.dl_look.specs.Answer.{first_place}
use Rattle.dl_look.specs.declared.place.Place.{Place}
use Rattle.dl_memory.specs.Refusals.{IsRefused}
use Rattle.dl_print.specs.Output.{HasPrinted, Prints}
use Rattle.dl_print.specs.ValueText.{strings_of}
use Rattle.dl_print.specs.declared.fault.WriteFault.{WriteFault}
use Rattle.dl_sections.specs.declared.around.Damage.{Damage}
use Rattle.dl_sections.specs.declared.fault.RunFault.{RunFault}
use Rattle.dl_sections.specs.declared.fault.RunFault.TheVariants as fault
use Rattle.dl_sections.specs.DamageTold.{damages_told}
use Rattle.dl_sections.specs.Section.{Visit}
use Rattle.dl_sections.specs.Visiting.{Story}
use Rattle.dl_dump.specs.declared.held_sequence.HeldItem.TheVariants as held
use Rattle.dl_dump.specs.declared.range_dumping.RangeDumper.{RangeDumper}
use Rattle.dl_dump.specs.DetailText.{DetailStyle, reached_after, shown_after}
use Rattle.dl_dump.specs.RangeText.{Sequence, before_sequences, covers_between, held_along, range_text, rows_held}
use Rattle.dl_dump.specs.RangeText.{sequence_along, unit_lines, visits_held}

abbrev pub style_held : {M D : Type 0} → RangeDumper M D → DetailStyle
style_held d = record { details = d.details.now; strings = strings_of d.strings.now }

-- ---- calls

-- the sequences of a unit begin
pub record HasBegunUnit {M D : Type 0} (old new : RangeDumper M D) (unit : Option HeaderLengths) : Type 0 where
  pub others : new ≡ record old { unit = unit; items = new.items; is_refused = false }
  pub none : new.items.now.items ≡ []

-- a row more is held, or memory was refused
abbrev pub HoldsRow : {M D : Type 0} → (refuses : M → ℕ → Type 0) → (old new : RangeDumper M D) → Row
    → Result ⊤ RunFault → Type 0
HoldsRow refuses old new r (Ok u) =
    (new ≡ record old { items = new.items }) × (old.is_refused ≡ false)
    × (new.items.now.items ≡ old.items.now.items ++ held.Row r ∷ [])
HoldsRow refuses old new r (Err f) =
    (new ≡ record old { items = new.items }) × (new.items.now.items ≡ old.items.now.items) × (f ≡ fault.NoMemory)
    × (old.is_refused ≡ false → IsRefused (refuses old.memory.now) (length old.items.now.items + 1))

-- what is printed at the end of a sequence
abbrev pub ended_lines : {M D : Type 0} → RangeDumper M D → HeaderData → Place → List ℕ
ended_lines d h end =
    if covers_between d.range (first_place (rows_held d.items.now.items)) end
    then unit_lines (style_held d) d.at h d.unit
    ++ shown_after (style_held d) d.at (visits_held h d.items.now.items)
    else []

-- the sequence has ended
pub record HasEnded {M D : Type 0} (old new : RangeDumper M D) (h : HeaderData) (end : Place) : Type 0 where
  pub style : style_held new ≡ style_held old
  pub damages : new.damages ≡ old.damages
  pub memory : new.memory ≡ old.memory
  pub range : new.range ≡ old.range
  pub at : new.at ≡ reached_after (style_held old) old.at (visits_held h old.items.now.items)
  pub unit : new.unit ≡ (if covers_between old.range (first_place (rows_held old.items.now.items)) end then None else old.unit)
  pub none : new.items.now.items ≡ []
  pub whole : new.is_refused ≡ old.is_refused

pub record EndsSequence {M D : Type 0} (old new : RangeDumper M D) (before after : Option (List ℕ)) (h : HeaderData)
    (end : Place) (result : Result ⊤ WriteFault) : Type 0 where
  pub printed : Prints before after old.printer.now new.printer.now (ended_lines old h end) result
  pub ended : result ≡ Ok tt → HasEnded old new h end

-- ---- what a dumper was told

-- it has what was told of the current sequence, or memory was refused for it
pub record HasSequence {M D : Type 0} (refuses : M → ℕ → Type 0) (d : RangeDumper M D) (s : Sequence) : Type 0 where
  pub at : d.at ≡ s.at
  pub unit : d.unit ≡ s.unit
  pub whole : d.is_refused ≡ false → d.items.now.items ≡ s.items
  pub refused : d.is_refused ≡ true → IsRefused (refuses d.memory.now) (length s.items)

-- the text of the visits is printed
pub record HasRanged {M D : Type 0} (hears : D → D → List Damage → Type 0) (refuses : M → ℕ → Type 0)
    (first now : RangeDumper M D) (start held : Option (List ℕ)) (visits : List Visit) : Type 0 where
  pub style : style_held now ≡ style_held first
  pub damages : now.damages.ghost_name ≡ first.damages.ghost_name
  pub heard : hears first.damages.now now.damages.now (damages_told visits)
  pub memory : now.memory.now ≡ first.memory.now
  pub range : now.range ≡ first.range
  pub has : HasSequence refuses now (sequence_along (style_held first) first.range before_sequences visits)
  pub printed : HasPrinted start held (range_text (style_held first) first.range visits) now.printer.now

-- memory was refused for what was told of a sequence up to the last visit
abbrev pub WantsMemory : {M D : Type 0} → (refuses : M → ℕ → Type 0) → (first : RangeDumper M D) → List Visit → Type 0
WantsMemory refuses first visits =
    (before : List Visit) × (visit : Visit) × (visits ≡ before ++ visit ∷ [])
    × IsRefused (refuses first.memory.now) (length (held_along (style_held first) first.range before) + 1)

abbrev pub range_story : {M D : Type 0} → (D → D → List Damage → Type 0) → (refuses : M → ℕ → Type 0)
    → Story (RangeDumper M D)
range_story hears refuses = record {
  text = λ first visits. range_text (style_held first) first.range visits;
  tells = HasRanged hears refuses;
  is_done = λ first now start held visits. ⊥;
  refuses = λ first visits f. (f ≡ fault.NoMemory) × WantsMemory refuses first visits;
}
