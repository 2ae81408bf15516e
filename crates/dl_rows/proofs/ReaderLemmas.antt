-- What the public clauses of a reader need of what it stands for.
use Rattle.std.proofs.Common.{◌≡◌, ◌≢◌, ◌^◌, inl, inr, ℕ, ◌+◌, ◌-◌, min, List, [], length, Option, Some, None, Result}
use Rattle.std.proofs.Common.{Ok, Err, refl, sym, ap, ◌∙◌, arith, append-nil}
use Rattle.std.proofs.lemmas.Bool.{cases_eq}
use Rattle.dl_head.specs.declared.dialect.Dialect.{Dialect}
use Rattle.dl_head.specs.declared.fault.Fault.{Fault}
use Rattle.dl_table.specs.declared.fault.FaultKind.TheVariants.{Truncated}
use Rattle.dl_head.specs.declared.reader.HeadReader.{HeadReader}
use Rattle.dl_head.specs.Cells.{cells}
use Rattle.dl_field.specs.HeaderData.{header_cells, HeaderData}
use Rattle.dl_head.specs.Header.{foreign_in, header_in, unit_len}
use Rattle.dl_field.proofs.FieldLemmas.{none_some}
use Rattle.dl_head.proofs.HeaderCells.{header_holds_its_cells}
use Rattle.dl_head.proofs.HeaderLaws.{found_is_header, header_is_not_foreign}
use Rattle.dl_rows.specs.declared.reader.Finish.{Finish}
use Rattle.dl_rows.specs.declared.reader.Finish.TheVariants as finish
use Rattle.dl_rows.specs.declared.reader.UnitStage.{UnitStage}
use Rattle.dl_rows.specs.declared.reader.UnitStage.TheVariants as state
use Rattle.dl_rows.specs.declared.unit_body.BodyState.{BodyState}
use Rattle.dl_rows.specs.declared.unit_body.BodyState.TheVariants as body
use Rattle.dl_rows.specs.declared.unit_body.UnitBody.{UnitBody}
use Rattle.dl_rows.specs.declared.unit_body.UnitBytes.{UnitBytes}
use Rattle.dl_rows.specs.LineUnit.{IsUnit, rows_later, unit_rows}
use Rattle.dl_rows.specs.Reading.{WithinUnit, FinishIs}
use Rattle.dl_rows.specs.ReaderStates.{StandsAt}
use Rattle.dl_rows.specs.UnitBodies.{Counts, AfterHeader, InProgram, InForeign, BodyStands}
use Rattle.dl_rows.proofs.UnitLengths.{foreign_no_cells, foreign_unit, length_of_unit, some_same}
use Rattle.dl_rows.proofs.UnitBodyLemmas.{counts_within, header_at}
use Rattle.dl_rows.proofs.UnitQuiet.{foreign_quiet}
use Rattle.dl_rows.proofs.UnitWhole.{NoneRefused, unit_unless_refused}

-- a foreign unit has no header
pub foreign_no_header : (dialect : Dialect) (b : List ℕ) (version : ℕ) → foreign_in dialect b ≡ Some version
    → header_in dialect b ≡ None
foreign_no_header dialect b version foreign = on (header_in dialect b) refl where
  on : (o : Option (HeaderData × List ℕ)) → header_in dialect b ≡ o → header_in dialect b ≡ None
  on None e = e
  on (Some (h, rest)) e =
      let f = found_is_header dialect h b rest e in
      absurd (none_some (header_is_not_foreign dialect h f.0 rest f.2) (ap (foreign_in dialect) (sym f.1) ∙ foreign))

-- where there is no header, there are no rows
pub no_rows : (dialect : Dialect) (b : List ℕ) → header_in dialect b ≡ None → unit_rows dialect b ≡ []
no_rows dialect b none = ap (rows_later dialect.order) none

-- the header that a reader after it has
pub at_of : {dialect : Dialect} {h : HeaderData} {b : List ℕ} (s : BodyState) → BodyStands dialect h s b
    → AfterHeader dialect h b
at_of (body.InProgram t) is = is.at
at_of (body.Stopped stop) is = is.at

pub header_here : (dialect : Dialect) (h : HeaderData) (s : BodyState) (b : List ℕ) → BodyStands dialect h s b
    → (program : List ℕ) × (header_in dialect b ≡ Some (h, program))
header_here dialect h s b is = (let a : AfterHeader dialect h b = at_of s is in (a.program, header_at a))

-- its cells are those of the bytes
pub cells_here : (dialect : Dialect) (h : HeaderData) (s : BodyState) (b : List ℕ) → BodyStands dialect h s b
    → cells dialect b ≡ header_cells h
cells_here dialect h s b is =
    (let a : AfterHeader dialect h b = at_of s is in
    ap (cells dialect) a.whole ∙ (header_holds_its_cells dialect h a.header a.program a.spells).0)

module _ (dialect : Dialect) (b : List ℕ) where
  -- no byte after the unit is taken
  pub within_here : (s : UnitStage) → StandsAt dialect s b → WithinUnit dialect b
  within_here (state.InHeader head) s = λ n len. s.stands.within n
      (ap (λ (d : Dialect). unit_len d b) s.same_dialect ∙ len)
  within_here (state.StoppedInHeader stop) s = s.in_unit
  within_here (state.Foreign bytes) s = counts_within s.1.counts
  within_here (state.AfterHeader h lengths (body.InProgram t)) s = counts_within s.in_body.counts
  within_here (state.AfterHeader h lengths (body.Stopped stop)) s = counts_within s.in_body.counts

-- the cells that a reader of the header holds
pub cells_at : (dialect : Dialect) (head : HeadReader) (b : List ℕ) (n : ℕ) → head.dialect ≡ dialect
    → n ≡ min (cells head.dialect b) (2 ^ 64 - 1) → n ≡ min (cells dialect b) (2 ^ 64 - 1)
cells_at dialect head b n same is = is ∙ ap (λ (d : Dialect). min (cells d b) (2 ^ 64 - 1)) same

-- those of a foreign unit
pub no_cells : (dialect : Dialect) (version : ℕ) (b : List ℕ) → foreign_in dialect b ≡ Some version
    → 0 ≡ min (cells dialect b) (2 ^ 64 - 1)
no_cells dialect version b foreign = sym (ap (λ (n : ℕ). min n (2 ^ 64 - 1))
    (foreign_no_cells dialect version b foreign))

-- ---- `finish`

-- bytes that are counted, and of which none is refused
finish_counted : {dialect : Dialect} {t : UnitBytes} {b : List ℕ} {result : Result Finish Fault}
    → Counts dialect t b → b ≢ [] → NoneRefused dialect b → (t.left ≡ 0 → IsUnit dialect b)
    → (t.left ≡ 0 → result ≡ Ok finish.Whole)
    → (t.left ≢ 0 → result ≡ Err (record { offset = t.taken; kind = Truncated })) → FinishIs dialect b result
finish_counted {dialect} {t} {b} counts some sound whole is_whole is_cut = elim (cases_eq t.left 0) [
  | inl none ↦ rw (is_whole none) (whole none)
  | inr more ↦ rw (is_cut more) (inr (
    ap (λ (n : ℕ). record { offset = n; kind = Truncated }) counts.taken,
    some,
    λ unit. (let e = some_same (t.taken + t.left) (length b) (sym counts.left ∙ length_of_unit dialect b unit) in
        more (omega (arith, e, counts.taken))),
    λ place kind refused. sound b [] place kind (sym (append-nil b)) refused,
  ))
]

pub finish_foreign : {dialect : Dialect} {version : ℕ} {t : UnitBytes} {b : List ℕ} {result : Result Finish Fault}
    → InForeign dialect version t b → (t.left ≡ 0 → result ≡ Ok finish.Whole)
    → (t.left ≢ 0 → result ≡ Err (record { offset = t.taken; kind = Truncated })) → FinishIs dialect b result
finish_foreign {dialect} {version} {t} {b} is = finish_counted is.counts
    (λ none. none_some {a = version} refl (ap (foreign_in dialect) (sym none) ∙ is.foreign))
    (foreign_quiet dialect b version (t.taken + t.left) is.foreign is.counts.left (omega (arith, is.counts.taken)))
    (λ none. inl (
      version,
      foreign_unit dialect version b (is.counts.left ∙ ap (λ (n : ℕ). Some n) (omega (arith, none, is.counts.taken)))
          is.foreign,
    ))

pub finish_program : {dialect : Dialect} {h : HeaderData} {t : UnitBody} {b : List ℕ} {result : Result Finish Fault}
    → InProgram dialect h t b → (t.bytes.left ≡ 0 → result ≡ Ok finish.Whole)
    → (t.bytes.left ≢ 0 → result ≡ Err (record { offset = t.bytes.taken; kind = Truncated }))
    → FinishIs dialect b result
finish_program {dialect} {h} {t} {b} is = finish_counted is.counts
    (λ none. none_some {a = (h, is.at.program)} (ap (header_in dialect) none) (header_at is.at)) is.sound
    (λ none.
    (unit_unless_refused dialect b (is.counts.left ∙ ap (λ (n : ℕ). Some n) (omega (arith, none, is.counts.taken)))).1
    is.sound)
