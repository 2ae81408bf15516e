-- What `copy` and `copy_to_5` are told and write. No promise rests on this file.
use Rattle.std.specs.Prelude.{◌≡◌, ◌+◌, ◌*◌, ◌≤◌, ℕ, List, [], ◌∷◌, ◌++◌, Option, Some, None, fold}
use Rattle.dl_num.specs.declared.fixed.Order.{Order}
use Rattle.dl_memory.specs.Refusals.{IsRefused}
use Rattle.dl_head.specs.Built.{with_standard_opcodes}
use Rattle.dl_dirs.specs.Compilation.{directory_by}
use Rattle.dl_field.specs.HeaderData.{HeaderData}
use Rattle.dl_rows.specs.declared.row.Row.{Row}
use Rattle.dl_emit.specs.declared.fault.EmitFault.{EmitFault}
use Rattle.dl_emit.specs.declared.program.TheConstants.{ROW}
use Rattle.dl_emit.specs.Grown.{IsGrown}
use Rattle.dl_emit.specs.WrittenUnit.{unit_of, refusal}
use Rattle.dl_rows.specs.Items.{a_row}
use Rattle.dl_sections.specs.declared.copying.Becomes.{Becomes}
use Rattle.dl_sections.specs.declared.copying.Becomes.TheVariants as becomes
use Rattle.dl_sections.specs.declared.copying.Copier.{Copier}
use Rattle.dl_sections.specs.Commands.{Made, to_5, WantsTables}
use Rattle.dl_sections.specs.declared.fault.RunFault.{RunFault}
use Rattle.dl_sections.specs.declared.fault.RunFault.TheVariants as fault
use Rattle.dl_print.specs.Output.{HasPrinted}
use Rattle.dl_sections.specs.Section.{Visit, of_header, of_version, of_item, of_open, of_end, of_damage}
use Rattle.dl_sections.specs.Visiting.{Story, header_told}

-- the offset of the last unit with a header; offset: that before the visits
abbrev pub offset_after : ℕ → List Visit → ℕ
offset_after offset [] = offset
offset_after offset (of_header n l h ∷ visits) = offset_after n visits
offset_after offset (visit ∷ visits) = offset_after offset visits

-- how many rows visits tell
abbrev pub row_count : List Visit → ℕ
row_count [] = 0
row_count (of_item (a_row header r) ∷ visits) = row_count visits + 1
row_count (visit ∷ visits) = row_count visits

-- ---- what visits come to

-- text: the copies of the units that are whole; the current unit has its header at the offset, and these rows. Or text
-- is that of the units before the first that can't be written, and why it can't
pub data Progress : Type 0 where
  goes : (offset : ℕ) (rows : List Row) (text : List ℕ) → Progress
  stopped : (text : List ℕ) (f : RunFault) → Progress

abbrev pub text_in : Progress → List ℕ
text_in (goes offset rows text) = text
text_in (stopped text f) = text

abbrev pub stop_in : Progress → Option RunFault
stop_in (goes offset rows text) = None
stop_in (stopped text f) = Some f

-- a unit of the offset is whole, whose copy is this one, unless it is refused
abbrev pub ended_as : (unit text : List ℕ) (offset : ℕ) (refused : Option EmitFault) → Progress
ended_as unit text offset None = goes offset [] (text ++ unit)
ended_as unit text offset (Some f) = stopped text (fault.Emit offset f)

abbrev pub visited : Made → Order → Progress → Visit → Progress
visited made order (stopped text f) visit = stopped text f
visited made order (goes offset rows text) (of_header n l h) = goes n [] text
visited made order (goes offset rows text) (of_version n version) = stopped text (fault.ForeignUnit n)
visited made order (goes offset rows text) (of_item (a_row header r)) = goes offset (rows ++ r ∷ []) text
visited made order (goes offset rows text) (of_item other) = goes offset rows text
visited made order (goes offset rows text) of_open = goes offset rows text
visited made order (goes offset rows text) (of_damage unit n kind) = goes offset [] text
visited made order (goes offset rows text) (of_end None) = goes offset [] text
visited made order (goes offset rows text) (of_end (Some h)) =
    ended_as (unit_of order (made offset h) rows) text offset (refusal (made offset h) rows)

abbrev pub comes_to : Made → Order → Progress → List Visit → Progress
comes_to made order p visits = fold (visited made order) p visits

-- ---- the copier

-- what it makes of the header of a unit
abbrev pub made_by : Becomes → Made
made_by becomes.Itself offset h = with_standard_opcodes h
made_by (becomes.Version5 directories) offset h = to_5 (directory_by directories) offset h

abbrev pub told_to : {M : Type 0} → Copier M → List Visit → Progress
told_to first visits = comes_to (made_by first.becomes) first.program.order (goes first.unit [] []) visits

-- each unit so far is printed, and the program of the current one grew by the rows since its header
pub record Copying {M : Type 0} (first now : Copier M) (start held : Option (List ℕ)) (visits : List Visit) : Type 0 where
  pub rows : List Row
  pub text : List ℕ
  pub becomes : now.becomes ≡ first.becomes
  pub memory : now.memory.now ≡ first.memory.now
  pub order : now.program.order ≡ first.program.order
  pub few : now.program.rows ≤ row_count visits
  pub told : told_to first visits ≡ goes now.unit rows text
  pub grown : (h : HeaderData) → header_told None visits ≡ Some h
      → IsGrown now.program now.program.order (made_by now.becomes now.unit h).params rows
  pub printed : HasPrinted start held text now.printer

-- memory was refused for the tables of the header of the unit at the offset, which are made anew
abbrev pub RenewsTables : (refuses : ℕ → Type 0) → Becomes → (offset : ℕ) → HeaderData → Type 0
RenewsTables refuses becomes.Itself offset h = ⊥
RenewsTables refuses (becomes.Version5 directories) offset h = WantsTables refuses (directory_by directories) offset h

-- memory was refused: for a row; or for the tables of the header of a unit that is whole, at the offset
abbrev pub IsGrowth : (Refused : Type 0) (refuses : ℕ → Type 0) → Becomes → (offset : ℕ) → Visit → Type 0
IsGrowth Refused refuses becomes offset (of_item (a_row header r)) = Refused
IsGrowth Refused refuses becomes offset (of_end (Some h)) = RenewsTables refuses becomes offset h
IsGrowth Refused refuses becomes offset other = ⊥

-- a growth was refused at the visit after these
abbrev pub IsGrowthAfter : {M : Type 0} → (refuses : M → ℕ → Type 0) (first : Copier M) (before : List Visit) → Visit → Type 0
IsGrowthAfter refuses first before visit =
    (offset : ℕ) × (rows : List Row) × (text : List ℕ) × (told_to first before ≡ goes offset rows text)
    × IsGrowth (IsRefused (refuses first.memory.now) (ROW * row_count before)) (refuses first.memory.now) first.becomes
    offset visit

-- a growth is refused at the last visit
abbrev pub StopsAt : {M : Type 0} → (refuses : M → ℕ → Type 0) (first : Copier M) (visits : List Visit) → RunFault → Type 0
StopsAt refuses first visits fault.NoMemory =
    (before : List Visit) × (visit : Visit) × (visits ≡ before ++ visit ∷ []) × IsGrowthAfter refuses first before visit
StopsAt refuses first visits f = stop_in (told_to first visits) ≡ Some f

-- unit after unit
abbrev pub copy_story : {M : Type 0} → (refuses : M → ℕ → Type 0) → Story (Copier M)
copy_story refuses = record {
  text = λ first visits. text_in (told_to first visits);
  tells = Copying;
  is_done = λ first new start now visits. ⊥;
  refuses = StopsAt refuses;
}
