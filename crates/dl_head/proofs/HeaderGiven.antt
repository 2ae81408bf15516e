-- The header that a reader gives, and the cells that it holds.
use Rattle.std.proofs.Common.{◌≡◌, ◌≢◌, ℕ, List, [], Option, Some, None, refl, sym, subst, ◌∙◌, append-nil}
use Rattle.dl_head.specs.declared.reader.HeadReader.{HeadReader}
use Rattle.dl_head.specs.declared.reader.HeadStep.{HeadStep}
use Rattle.dl_head.specs.declared.reader.HeadStep.TheVariants as answer
use Rattle.dl_table.specs.TableData.{TableData}
use Rattle.dl_field.specs.HeaderData.{HeaderData, header_cells}
use Rattle.dl_field.specs.declared.params.Params.{Params}
use Rattle.dl_head.specs.Header.{IsHeader}
use Rattle.dl_head.specs.Cells.{cells}
use Rattle.dl_head.specs.Place.{held_cells}
use Rattle.dl_head.specs.Standing.{ending, IsDone, Stands, StandsFor}
use Rattle.dl_head.specs.Reading.{Answers, Gives}
use Rattle.dl_field.proofs.FieldLemmas.{none_some}
use Rattle.dl_head.proofs.HeaderCells.{header_holds_its_cells}
use Rattle.dl_head.proofs.TakenBytes.{live_more}
use Rattle.dl_head.proofs.OneAnswer.{one_answer}

header_same : (g h : HeaderData) → ◌≡◌ {A = Option HeaderData} (Some g) (Some h) → g ≡ h
header_same g h e = cc

-- a header is there only from Done on
pub made : (r : HeadReader) (b : List ℕ) (h : HeaderData) → StandsFor r b → r.header ≡ Some h → IsHeader r.dialect h b
made r b h s is = on (ending r.phase) s.stands where
  on : (o : Option HeadStep) → Stands r o b → IsHeader r.dialect h b
  on None t = absurd (none_some t.1.header is)
  on (Some answer.Done) t = subst (λ (g : HeaderData). IsHeader r.dialect g b) (header_same t.h h (sym t.header ∙ is)) t.is
  on (Some (answer.Foreign v)) t = absurd (none_some t.1.header is)
  on (Some (answer.Fault f)) t = absurd (none_some t.1.header is)
  on (Some answer.More) t = absurd t
  on (Some answer.NoMemory) t = absurd t

-- and then at once
unmade : (r : HeadReader) (b : List ℕ) (h : HeaderData) → StandsFor r b → r.header ≡ None → IsHeader r.dialect h b → ⊥
unmade r b h s is w = on (ending r.phase) refl s.stands where
  other : (a : HeadStep) → Answers r.dialect b a → answer.Done ≢ a → ⊥
  other a t differs = differs (one_answer r.dialect b answer.Done a (h, w) t)

  on : (o : Option HeadStep) → ending r.phase ≡ o → Stands r o b → ⊥
  on None e t = other answer.More (live_more r b e t.0) (λ d. cc)
  on (Some answer.Done) e t = none_some is t.header
  on (Some (answer.Foreign v)) e t = other (answer.Foreign v) t.0 (λ d. cc)
  on (Some (answer.Fault f)) e t = other (answer.Fault f) t.0 (λ d. cc)
  on (Some answer.More) e t = t
  on (Some answer.NoMemory) e t = t

-- a header is complete
pub done_at : (r : HeadReader) (b : List ℕ) (h : HeaderData) → StandsFor r b → IsHeader r.dialect h b → IsDone r b
done_at r b h s w = on (ending r.phase) refl s.stands where
  other : (a : HeadStep) → Answers r.dialect b a → answer.Done ≢ a → ⊥
  other a t differs = differs (one_answer r.dialect b answer.Done a (h, w) t)

  on : (o : Option HeadStep) → ending r.phase ≡ o → Stands r o b → IsDone r b
  on None e t = absurd (other answer.More (live_more r b e t.0) (λ d. cc))
  on (Some answer.Done) e t = t
  on (Some (answer.Foreign v)) e t = absurd (other (answer.Foreign v) t.0 (λ d. cc))
  on (Some (answer.Fault f)) e t = absurd (other (answer.Fault f) t.0 (λ d. cc))
  on (Some answer.More) e t = absurd t
  on (Some answer.NoMemory) e t = absurd t

pub gives_of : (r : HeadReader) (o : Option HeaderData) → r.header ≡ o → Gives r.dialect r o
gives_of r (Some h) e = λ b s. made r b h s e
gives_of r None e = λ b s h. unmade r b h s e

-- ---- cells

pub made_cells : (r : HeadReader) (b : List ℕ) (h : HeaderData) → StandsFor r b → r.header ≡ Some h
    → cells r.dialect b ≡ header_cells h
made_cells r b h s is = rw (← append-nil b) (header_holds_its_cells r.dialect h b [] (made r b h s is)).0

pub held_so_far : (r : HeadReader) (b : List ℕ) → StandsFor r b → r.header ≡ None → held_cells r ≡ cells r.dialect b
held_so_far r b s is = on (ending r.phase) s.stands where
  on : (o : Option HeadStep) → Stands r o b → held_cells r ≡ cells r.dialect b
  on None t = t.1.cells_are
  on (Some answer.Done) t = absurd (none_some is t.header)
  on (Some (answer.Foreign v)) t = t.1.cells_are
  on (Some (answer.Fault f)) t = t.1.cells_are
  on (Some answer.More) t = absurd t
  on (Some answer.NoMemory) t = absurd t

pub header_parts : {p q : Params} {d e f g : TableData} → p ≡ q → d ≡ e → f ≡ g
    → ◌≡◌ {A = HeaderData} (record { params = p; directories = d; files = f })
    (record { params = q; directories = e; files = g })
header_parts {p} {q} {d} {e} {f} {g} a b c = cc
