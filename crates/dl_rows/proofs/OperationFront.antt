-- No good operation stands at the front of bytes that go on in one, nor of those that begin with a bad one.
use Rattle.std.proofs.Common.{◌≡◌, ℕ, ◌≤◌, List, [], ◌∷◌, ◌++◌, Option, None, Err, refl, sym, ap, ◌∙◌, inl, inr, arith}
use Rattle.std.proofs.lemmas.List.{append-nil}
use Rattle.dl_num.specs.declared.fixed.Order.{Order}
use Rattle.dl_num.specs.Front.{SpellsNowhere, SpellsFirst}
use Rattle.dl_field.specs.declared.params.Params.{Params}
use Rattle.dl_table.specs.declared.fault.FaultKind.{FaultKind}
use Rattle.dl_table.specs.Value.{Judgement, good, bad}
use Rattle.dl_rows.specs.declared.operation.Operation.{Operation}
use Rattle.dl_rows.specs.OperationSpelt.{operation_spelt, good_one}
use Rattle.dl_rows.proofs.FirstLemmas.{split_front}
use Rattle.dl_rows.proofs.OperationLaws.{spelt_is_spelled}
use Rattle.dl_rows.proofs.SpeltFirst.{spells_first}

-- no front of the bytes spells a good operation
abbrev pub NoneGood : Order → Params → List ℕ → Type 0
NoneGood order h b = SpellsNowhere (λ w. good_one (operation_spelt order h w)) b

pub nowhere_good : (order : Order) (h : Params) (b : List ℕ) → SpellsNowhere (operation_spelt order h) b
    → NoneGood order h b
nowhere_good order h b none front back e = ap good_one (none front back e)

pub not_good : (j : Judgement Operation) → ((o : Operation) → j ≡ good o → ⊥)
    → ◌≡◌ {A = Option Operation} (good_one j) None
not_good j bars = grind arith

-- bytes that begin with a bad operation spell no good one
bad_then : (order : Order) (h : Params) (o : Operation) (w u : List ℕ) (k : FaultKind) → 1 ≤ h.opcode_base
    → ◌≡◌ {A = Judgement Operation} (operation_spelt order h w) (bad k) → operation_spelt order h (w ++ u) ≡ good o → ⊥
bad_then order h o w [] k some is e =
    let f : ◌≡◌ {A = Judgement Operation} (bad k) (good o) =
    sym is ∙ ap (operation_spelt order h) (sym (append-nil w)) ∙ e in absurd cc
bad_then order h o w (x ∷ u) k some is e =
    let first = spells_first order h o (w ++ x ∷ u) some ((spelt_is_spelled order h o (w ++ x ∷ u) some).1 e) in
    let f : ◌≡◌ {A = Judgement Operation} (bad k) None = sym is ∙ first.shortest w x u refl in absurd cc

pub bad_is_none : (order : Order) (h : Params) (w tail : List ℕ) (k : FaultKind) → 1 ≤ h.opcode_base
    → SpellsFirst (operation_spelt order h) w (Err k) → NoneGood order h (w ++ tail)
bad_is_none order h w tail k some first front back e =
    not_good (operation_spelt order h front) (λ o is. elim (split_front w tail front back e) [
      | inl p ↦ (let f : ◌≡◌ {A = Judgement Operation} None (good o) = sym (first.shortest front p.0 p.1 p.2) ∙ is in
          absurd cc)
      | inr q ↦ bad_then order h o w q.0 k some first.spells (ap (operation_spelt order h) (sym q.1) ∙ is)
    ])
