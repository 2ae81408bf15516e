-- The operations that were taken from the front of a program, none of which ends a sequence.
use Rattle.std.proofs.Common.{◌≡◌, ℕ, ◌+◌, ◌-◌, ◌≤◌, true, false, cond, List, [], ◌∷◌, ◌++◌, length, drop, Option, Some}
use Rattle.std.proofs.Common.{None, Ok, refl, sym, ap, subst, ◌∙◌, arith, length-append}
use Rattle.std.proofs.lemmas.List.{drop_at}
use Rattle.dl_num.specs.declared.fixed.Order.{Order}
use Rattle.dl_num.specs.Front.{SpellsFirst}
use Rattle.dl_field.specs.declared.params.Params.{Params}
use Rattle.dl_rows.specs.declared.operation.Operation.{Operation}
use Rattle.dl_rows.specs.declared.operation.Operation.TheVariants as op
use Rattle.dl_rows.specs.Matrix.{is_end, is_address}
use Rattle.dl_rows.specs.OperationSpelt.{operation_spelt}
use Rattle.dl_rows.specs.Spelling.{IsExtended}
use Rattle.dl_rows.proofs.OperationLaws.{spelt_is_spelled}
use Rattle.dl_object.specs.Sequences.{Spelled, bytes_of}
use Rattle.dl_object.specs.Kept.{address_place}
use Rattle.dl_object.specs.Fronts.{NoEnd, Runs, FrontIs, IsWithin, PlaceWithin, with_address}
use Rattle.dl_object.specs.declared.sequence.Front.TheVariants as front
use Rattle.dl_object.proofs.RunLemmas.{spelled_first, runs_bytes, runs_len, runs_push, no_end_push}

-- b is operations and then rest; the place of their first address is that one
pub record SoFar (order : Order) (h : Params) (b rest : List ℕ) (address : Option ℕ) : Type 0 where
  pub operations : List Spelled
  pub none : NoEnd operations
  pub runs : Runs order h b operations rest
  pub place : address ≡ address_place h 0 operations

-- the place of the first address, with one operation more
address_more : (h : Params) (at : ℕ) (s : List Spelled) (o : Spelled) (place : ℕ)
    → place ≡ at + length (bytes_of s) + (length o.bytes - h.address_size)
    → address_place h at (s ++ o ∷ []) ≡ with_address (address_place h at s) o.operation place
address_more h at [] o place e =
    let same : at + (length o.bytes - h.address_size) ≡ place = omega arith in
    ap (λ (n : ℕ). cond (is_address o.operation) (Some n) None) same
address_more h at (p ∷ s) o place e =
    let next : place ≡ at + length p.bytes + length (bytes_of s) + (length o.bytes - h.address_size) =
    e ∙ ap (λ (n : ℕ). at + n + (length o.bytes - h.address_size)) (length-append p.bytes (bytes_of s)) ∙ omega arith in
    let later = address_more h (at + length p.bytes) s o place next in
    elim (is_address p.operation) as (λ b.
    cond b (Some (at + (length p.bytes - h.address_size))) (address_place h (at + length p.bytes) (s ++ o ∷ []))
    ≡ with_address (cond b (Some (at + (length p.bytes - h.address_size))) (address_place h (at + length p.bytes) s))
    o.operation place) [
      | true ↦ refl
      | false ↦ later
    ]

address_within : (h : Params) (at n : ℕ) (s : List Spelled) → at + length (bytes_of s) ≤ n
    → PlaceWithin n (address_place h at s)
address_within h at n [] le = tt
address_within h at n (o ∷ s) le =
    let sum = length-append o.bytes (bytes_of s) in
    let here : at + (length o.bytes - h.address_size) ≤ n = omega (arith, sum) in
    let later = address_within h (at + length o.bytes) n s (omega (arith, sum)) in
    elim (is_address o.operation) as (λ b.
    PlaceWithin n (cond b (Some (at + (length o.bytes - h.address_size))) (address_place h (at + length o.bytes) s))) [
      | true ↦ here
      | false ↦ later
    ]

pub is_end_of : (o : Operation) → is_end o ≡ true → o ≡ op.EndSequence
is_end_of op.EndSequence e = refl
is_end_of (op.Special b) e = absurd cc
is_end_of op.Copy e = absurd cc
is_end_of (op.AdvancePc n) e = absurd cc
is_end_of (op.AdvanceLine i) e = absurd cc
is_end_of (op.SetFile n) e = absurd cc
is_end_of (op.SetColumn n) e = absurd cc
is_end_of op.NegateStatement e = absurd cc
is_end_of op.SetBasicBlock e = absurd cc
is_end_of op.ConstAddPc e = absurd cc
is_end_of (op.FixedAdvancePc n) e = absurd cc
is_end_of op.SetPrologueEnd e = absurd cc
is_end_of op.SetEpilogueBegin e = absurd cc
is_end_of (op.SetIsa n) e = absurd cc
is_end_of (op.SetAddress n) e = absurd cc
is_end_of (op.SetDiscriminator n) e = absurd cc
is_end_of op.Skipped e = absurd cc

-- it sets no address
with_end : (address : Option ℕ) (o : Operation) (place : ℕ) → is_end o ≡ true → with_address address o place ≡ address
with_end (Some first) o place e = refl
with_end None o place e = ap (λ (p : Operation). cond (is_address p) (Some place) None) (is_end_of o e)

-- end_sequence has a zero byte, a length and an opcode
pub end_len : (order : Order) (h : Params) (w : List ℕ) (o : Operation) → 1 ≤ h.opcode_base
    → operation_spelt order h w ≡ Some (Ok o) → is_end o ≡ true → 3 ≤ length w
end_len order h w o some spelt ends =
    let e : operation_spelt order h w ≡ Some (Ok op.EndSequence) = spelt ∙ ap (λ (p : Operation). Some (Ok p)) (is_end_of o ends) in
    let x : IsExtended w (1 ∷ []) = (spelt_is_spelled order h op.EndSequence w some).1 e in
    let front = x.spells.0 in
    let size : length x.size ≡ length front + 1 =
    ap length x.spells.2.bytes ∙ length-append front (x.spells.1 ∷ []) in
    let body = length-append x.size (1 ∷ []) in
    let whole : length w ≡ length (x.size ++ 1 ∷ []) + 1 = ap length x.bytes ∙ omega arith in
    omega (arith, size, body, whole)

module _ (order : Order) (h : Params) (b rest : List ℕ) (address : Option ℕ) (so : SoFar order h b rest address)
    (w tail : List ℕ) (o : Operation) (split : rest ≡ w ++ tail)
    (first : SpellsFirst (operation_spelt order h) w (Ok o)) where
  abbrev spelled_o : Spelled
  spelled_o = record { operation = o; bytes = w }

  len_w : length rest ≡ length w + length tail
  len_w = ap length split ∙ length-append w tail

  -- an operation more
  pub so_far_more : (place : ℕ) → is_end o ≡ false
      → place ≡ (length b - length rest) + ((length rest - length tail) - h.address_size)
      → SoFar order h b tail (with_address address o place)
  so_far_more place goes e =
      let all = runs_len order h b so.operations rest so.runs in
      let lens = len_w in
      let at : place ≡ 0 + length (bytes_of so.operations) + (length w - h.address_size) = omega (arith, all, lens, e) in
      record {
        operations = so.operations ++ spelled_o ∷ [];
        none = no_end_push so.operations spelled_o so.none goes;
        runs = runs_push order h b so.operations spelled_o rest tail so.runs split (spelled_first order h w o first);
        place = ap (λ (a : Option ℕ). with_address a o place) so.place
            ∙ sym (address_more h 0 so.operations spelled_o place at);
      }

  -- the operation that ends the sequence
  module _ (some : 1 ≤ h.opcode_base) (ends : is_end o ≡ true) where
    abbrev s : List Spelled
    s = so.operations ++ spelled_o ∷ []

    runs : Runs order h b s tail
    runs = runs_push order h b so.operations spelled_o rest tail so.runs split (spelled_first order h w o first)

    len_s : length b - length tail ≡ length (bytes_of s)
    len_s = let all = runs_len order h b s tail runs in omega (arith, all)

    pub so_far_ends : FrontIs order h b (front.Sequence (record { len = length b - length tail; address = address }))
    so_far_ends = (
      s,
      record { front = so.operations; last = spelled_o; is = refl; none = so.none; ends = ends },
      subst (λ (z : List ℕ). Runs order h b s z) (sym after) runs,
      len_s,
      so.place ∙ sym (with_end (address_place h 0 so.operations) o place ends)
          ∙ sym (address_more h 0 so.operations spelled_o place refl),
    )
      where
        place : ℕ
        place = 0 + length (bytes_of so.operations) + (length w - h.address_size)

        after : drop (length b - length tail) b ≡ tail
        after =
            ap (λ (z : List ℕ). drop (length b - length tail) z) (runs_bytes order h b s tail runs)
            ∙ drop_at (bytes_of s) tail (length b - length tail) (sym len_s)

    pub so_far_within : IsWithin (length b) (front.Sequence (record { len = length b - length tail; address = address }))
    so_far_within =
        let all = runs_len order h b so.operations rest so.runs in
        let lens = len_w in
        let long = end_len order h w o some first.spells ends in (
          omega (arith, all, lens, long),
          omega arith,
          subst (PlaceWithin (length b - length tail)) (sym so.place)
              (address_within h 0 (length b - length tail) so.operations (omega (arith, all, lens))),
        )
