-- What a visitor is told of the program of a unit in one call. No promise rests on this file.
use Rattle.std.specs.Prelude.{⊤, ◌≡◌, ◌⊎◌, ◌<◌, true, ℕ, ◌+◌, ◌^◌, List, [], ◌++◌, length, map, take, Option, Some, None, Result}
use Rattle.std.specs.Prelude.{Ok, Err, count_by}
use Rattle.dl_head.specs.declared.fault.Fault.{Fault}
use Rattle.dl_rows.specs.declared.row.Row.{Row}
use Rattle.dl_rows.specs.declared.reader.Event.TheVariants as event
use Rattle.dl_rows.specs.declared.reader.Fed.{Fed}
use Rattle.dl_rows.specs.Items.{Item, rows_of_items, unit_items}
use Rattle.dl_rows.specs.Sinks as sinks
use Rattle.dl_rows.specs.LineUnit.{events}
use Rattle.dl_rows.specs.ReaderAnswers.{FedAfter}
use Rattle.dl_rows.specs.Reading.{opening_answered, row_answered}
use Rattle.dl_sections.specs.declared.fault.RunFault.{RunFault}
use Rattle.dl_sections.specs.declared.fault.RunFault.TheVariants as fault
use Rattle.dl_sections.specs.declared.told.Told.{Told}
use Rattle.dl_sections.specs.declared.section.SectionUnits.{SectionUnits}
use Rattle.dl_sections.specs.Blaming.{BlamesWriter}
use Rattle.dl_sections.specs.Section.{of_item}
use Rattle.dl_sections.specs.Visiting.{Story, Hears}

abbrev pub ends : List Row → ℕ
ends rows = count_by (λ r. r.end_sequence) rows

-- the counts of the rows of a unit, as far as 64 bits hold them
pub record Counted (old_rows old_ends new_rows new_ends : ℕ) (rows : List Row) : Type 0 where
  pub of_rows : old_rows + length rows < 2 ^ 64 → new_rows ≡ old_rows + length rows
  pub of_ends : old_ends + ends rows < 2 ^ 64 → new_ends ≡ old_ends + ends rows

-- it was told these items since it was as at first, or up to the one at which it stopped
pub record HeardItems {W V : Type 0} (story : Story V) (Fails : Type 0) (contents : W → Option (List ℕ))
    (first now : Told W V) (items : List Item) (result : Result ⊤ RunFault) : Type 0 where
  pub output : now.output.ghost_name ≡ first.output.ghost_name
  pub visitor : now.visitor.ghost_name ≡ first.visitor.ghost_name
  pub hears : Hears story first.visitor.now now.visitor.now (contents first.output.now) (contents now.output.now)
      (map of_item items) result
  pub blames : BlamesWriter Fails result

-- how it goes on: as it was told, or after a failed write, of which the reader isn't told before the next row
abbrev pub GoesOnAs : {W V : Type 0} → Story V → (Fails : Type 0) → (W → Option (List ℕ)) → (first now : Told W V)
    → List Item → Option RunFault → Type 0
GoesOnAs story Fails contents first now items None =
    Counted first.rows first.sequences now.rows now.sequences (rows_of_items items)
    × HeardItems story Fails contents first now items (Ok (tt {0}))
GoesOnAs story Fails contents first now items (Some f) =
    (out : ℕ) × (f ≡ fault.Write out) × HeardItems story Fails contents first now items (Err f)

abbrev pub told_story : {W V : Type 0} → Story V → (Fails : Type 0) → (W → Option (List ℕ)) → Told W V
    → sinks.Story (Told W V)
told_story story Fails contents first = record {
  hears = λ now items. GoesOnAs story Fails contents first now items now.failed;
  stops = λ now items.
      (f : RunFault) × (now.failed ≡ Some f) × HeardItems story Fails contents first now items (Err f);
}

-- the reader has taken b, and takes so many bytes of the piece, of whose program the items come
pub record ItemsTaken (b piece : List ℕ) (old new : SectionUnits) (rows : List Row) (used : ℕ) (items : List Item)
    (fed : Result Fed Fault) : Type 0 where
  pub dialect : new.reader.dialect ≡ old.reader.dialect
  pub fed_after : FedAfter old.reader.dialect (events old.reader.dialect b ++ map event.Row rows) b piece used fed new.reader
  pub grown : unit_items old.reader.dialect (b ++ take used piece) ≡ unit_items old.reader.dialect b ++ items
  pub opening : opening_answered fed ≡ true → unit_items old.reader.dialect (b ++ take used piece) ≡ []

-- all of them were told, and no row is answered
pub record ItemsOf {V : Type 0} (story : Story V) (b piece : List ℕ) (old new : SectionUnits) (v w : V)
    (before after : Option (List ℕ)) (fed : Result Fed Fault) : Type 0 where
  pub rows : List Row
  pub used : ℕ
  pub items : List Item
  pub taken : ItemsTaken b piece old new rows used items fed
  pub same : new ≡ record old { reader = new.reader; sequences = new.sequences; rows = new.rows }
  pub counts : Counted old.rows old.sequences new.rows new.sequences rows
  pub hears : Hears story v w before after (map of_item items) (Ok (tt {0}))
  pub no_row : row_answered fed ≡ []

-- the visitor stopped at one of them: at the row that is answered, or a write failed
pub record StopsWithin {V : Type 0} (story : Story V) (b piece : List ℕ) (old new : SectionUnits) (v w : V)
    (before after : Option (List ℕ)) (f : RunFault) : Type 0 where
  pub rows : List Row
  pub used : ℕ
  pub items : List Item
  pub fed : Result Fed Fault
  pub taken : ItemsTaken b piece old new rows used items fed
  pub hears : Hears {A = ⊤} story v w before after (map of_item items) (Err f)
  pub at : ((g : Fed) × (fed ≡ Ok g)) ⊎ ((out : ℕ) × (f ≡ fault.Write out))

-- `feed_program`, where the reader has taken b
abbrev pub FeedsTold : {V : Type 0} → Story V
    → (b piece : List ℕ) (old new : SectionUnits) (v w : V) (before after : Option (List ℕ))
    → Result (Result Fed Fault) RunFault → Type 0
FeedsTold story b piece old new v w before after (Ok fed) = ItemsOf story b piece old new v w before after fed
FeedsTold story b piece old new v w before after (Err f) = StopsWithin story b piece old new v w before after f
