-- Bytes come to one thing alone.
use Rattle.std.proofs.Common.{◌≡◌, ℕ, List, [], length, Option, Some, None, refl, sym, ap, ◌∙◌, append-nil}
use Rattle.dl_head.specs.declared.dialect.Dialect.{Dialect}
use Rattle.dl_head.specs.declared.fault.Fault.{Fault}
use Rattle.dl_table.specs.declared.fault.FaultKind.{FaultKind}
use Rattle.dl_head.specs.declared.reader.HeadStep.{HeadStep}
use Rattle.dl_head.specs.declared.reader.HeadStep.TheVariants as answer
use Rattle.dl_field.specs.HeaderData.{HeaderData}
use Rattle.dl_field.specs.Layout.{Layout, following_all}
use Rattle.dl_head.specs.HeaderLayout.{header_layout}
use Rattle.dl_head.specs.Header.{cut, IsHeader, foreign_in}
use Rattle.dl_head.specs.Refusal.{HeaderRefused}
use Rattle.dl_head.specs.Reading.{Answers, OneAnswer}
use Rattle.dl_field.proofs.FieldLemmas.{none_some}
use Rattle.dl_head.proofs.HeaderLaws.{header_is_not_foreign}
use Rattle.dl_head.proofs.QuietLemmas.{header_is_not_refused}
use Rattle.dl_head.proofs.RefusalLaws.{decided_on, foreign_last, one_header_refusal}

header_not_foreign : (dialect : Dialect) (h : HeaderData) (b : List ℕ) → IsHeader dialect h b
    → foreign_in dialect b ≡ None
header_not_foreign dialect h b w = rw (← append-nil b) (header_is_not_foreign dialect h b [] w)

header_not_refused : (dialect : Dialect) (h : HeaderData) (b : List ℕ) (at : ℕ) (kind : FaultKind)
    → IsHeader dialect h b → HeaderRefused dialect b at kind → ⊥
header_not_refused dialect h b at kind w r = header_is_not_refused dialect h b [] b [] at kind w refl r

foreign_not_refused : (dialect : Dialect) (v : ℕ) (b : List ℕ) (at : ℕ) (kind : FaultKind)
    → foreign_in dialect b ≡ Some v → HeaderRefused dialect b at kind → ⊥
foreign_not_refused dialect v b at kind e r =
    let c = cut dialect b in
    none_some (ap (λ (l : Layout). decided_on dialect.order (length b) c.items c.rest l)
    (foreign_last (following_all (header_layout dialect) c.items) v e)) r.decided

version_same : (v u : ℕ) → ◌≡◌ {A = Option ℕ} (Some v) (Some u) → v ≡ u
version_same v u e = cc

fault_same : (f g : Fault) → f.offset ≡ g.offset → f.kind ≡ g.kind → answer.Fault f ≡ answer.Fault g
fault_same f g a b = λ i. answer.Fault (record { offset = a i; kind = b i })

same_fault : (dialect : Dialect) (b : List ℕ) (f g : Fault) → HeaderRefused dialect b f.offset f.kind
    → HeaderRefused dialect b g.offset g.kind → answer.Fault f ≡ answer.Fault g
same_fault dialect b f g x y = let s = one_header_refusal dialect b b [] [] f.offset g.offset f.kind g.kind refl x y in
    fault_same f g s.1 s.2

-- what goes on has come to nothing
pub more_alone : (dialect : Dialect) (b : List ℕ) (q : HeadStep) → Answers dialect b answer.More → Answers dialect b q
    → answer.More ≡ q
more_alone dialect b answer.More m a = refl
more_alone dialect b answer.Done m a = absurd (m.0 a.0 a.1)
more_alone dialect b (answer.Foreign v) m a = absurd (none_some m.1 a)
more_alone dialect b (answer.Fault f) m a = absurd (m.2 f.offset f.kind a)
more_alone dialect b answer.NoMemory m a = absurd a

pub one_answer : OneAnswer
one_answer dialect b answer.Done answer.Done x y = refl
one_answer dialect b answer.Done (answer.Foreign v) x y = absurd (none_some (header_not_foreign dialect x.0 b x.1) y)
one_answer dialect b answer.Done (answer.Fault f) x y = absurd (header_not_refused dialect x.0 b f.offset f.kind x.1 y)
one_answer dialect b (answer.Foreign v) answer.Done x y = absurd (none_some (header_not_foreign dialect y.0 b y.1) x)
one_answer dialect b (answer.Foreign v) (answer.Foreign u) x y =
    ap (λ (k : ℕ). answer.Foreign k) (version_same v u (sym x ∙ y))
one_answer dialect b (answer.Foreign v) (answer.Fault f) x y =
    absurd (foreign_not_refused dialect v b f.offset f.kind x y)
one_answer dialect b (answer.Fault f) answer.Done x y = absurd (header_not_refused dialect y.0 b f.offset f.kind y.1 x)
one_answer dialect b (answer.Fault f) (answer.Foreign v) x y =
    absurd (foreign_not_refused dialect v b f.offset f.kind y x)
one_answer dialect b (answer.Fault f) (answer.Fault g) x y = same_fault dialect b f g x y
one_answer dialect b answer.More q x y = more_alone dialect b q x y
one_answer dialect b p answer.More x y = sym (more_alone dialect b p y x)
one_answer dialect b answer.NoMemory q x y = absurd x
one_answer dialect b p answer.NoMemory x y = absurd y
