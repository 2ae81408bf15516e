-- What is kept of operations, one visit more, and what is found at one.
use Rattle.std.proofs.Common.{◌≡◌, ◌∙◌, ℕ, List, [], ◌∷◌, ◌++◌, Bool, true, false, refl, sym, ap, ap₂, subst, inl, inr}
use Rattle.std.proofs.Common.{append-nil, append_assoc, arith, map}
use Rattle.std.specs.Prelude.{fold, nat_lt, if◌then◌else◌}
use Rattle.std.proofs.lemmas.Bool.{cases_Bool, le-ltb, lt-ltb, ltb-false, ltb-true}
use Rattle.std.proofs.lemmas.List.Sums.{fold-append}
use Rattle.dl_field.specs.HeaderData.{HeaderData}
use Rattle.dl_field.specs.declared.params.Params.{Params}
use Rattle.dl_look.specs.declared.place.Place.{Place}
use Rattle.dl_print.specs.ValueText.{Strings}
use Rattle.dl_rows.specs.Items.{a_byte, an_operation}
use Rattle.dl_rows.specs.declared.operation.Operation.{Operation}
use Rattle.dl_sections.specs.Section.{Visit, of_item}
use Rattle.dl_findings.specs.Counting.{at_most_64_bits}
use Rattle.dl_findings.specs.declared.finding.Found.TheVariants as found
use Rattle.dl_operation_rules.specs.declared.advance.Moved.{Moved}
use Rattle.dl_operation_rules.specs.declared.operations.Operations.{Operations}
use Rattle.dl_operation_rules.specs.Judging.{IsGood, wraps}
use Rattle.dl_operation_rules.specs.Keeping.{Knows}
use Rattle.dl_operation_rules.specs.Operations.{UnitSeen, moved_by, nothing_seen, seen, seen_with, with_bytes}
use Rattle.dl_lint.specs.Findings.{findings_at}
use Rattle.dl_lint.specs.declared.question.LintQuestion.{LintQuestion}
use Rattle.dl_lint.specs.OperationRules.{at_operation, long_found, wrapped_found}

-- ---- visits

pub seen-push : (visits : List Visit) (v : Visit) → seen (visits ++ v ∷ []) ≡ seen_with (seen visits) v
seen-push visits v = fold-append seen_with nothing_seen visits (v ∷ [])

-- one visit more
pub knows_on : (operations : Operations) (visits : List Visit) (v : Visit) → Knows operations (seen_with (seen visits) v)
    → Knows operations (seen (visits ++ v ∷ []))
knows_on operations visits v knows = subst (Knows operations) (sym (seen-push visits v)) knows

of_bytes : (s : UnitSeen) (bytes : List ℕ) → fold seen_with s (map of_item (map a_byte bytes)) ≡ with_bytes s bytes
of_bytes s [] = ap (λ (l : List ℕ). record s { bytes = l }) (sym (append-nil s.bytes))
of_bytes s (b ∷ bytes) =
    of_bytes (with_bytes s (b ∷ [])) bytes
    ∙ ap (λ (l : List ℕ). record s { bytes = l }) (append_assoc s.bytes (b ∷ []) bytes)

pub seen_bytes : (visits : List Visit) (bytes : List ℕ)
    → seen (visits ++ map of_item (map a_byte bytes)) ≡ with_bytes (seen visits) bytes
seen_bytes visits bytes =
    fold-append seen_with nothing_seen visits (map of_item (map a_byte bytes)) ∙ of_bytes (seen visits) bytes

-- bytes more
pub knows_bytes : (operations : Operations) (visits : List Visit) (bytes : List ℕ) → Knows operations (with_bytes (seen visits) bytes)
    → Knows operations (seen (visits ++ map of_item (map a_byte bytes)))
knows_bytes operations visits bytes knows = subst (Knows operations) (sym (seen_bytes visits bytes)) knows

-- ---- what is found

-- a number of bytes that is found, and one that isn't
module _ (visits : List Visit) (n bytes : ℕ) (is : bytes ≡ at_most_64_bits n) (b : Bool) (long : b ≡ nat_lt 10 bytes) where
  as_many : nat_lt 10 bytes ≡ nat_lt 10 n
  as_many = elim (cases_Bool (nat_lt 10 n)) [
    | inl many ↦ lt-ltb 10 bytes (omega (arith, is, ltb-true 10 n many)) ∙ sym many
    | inr few ↦ le-ltb 10 bytes (omega (arith, is, ltb-false 10 n few)) ∙ sym few
  ]

  pub not_long : b ≡ false → [] ≡ long_found visits n
  not_long isnt =
      ap (λ (x : Bool). if x then at_operation visits (found.LongNumber (at_most_64_bits n)) ∷ [] else [])
      (sym isnt ∙ long ∙ as_many)

  pub is_long : b ≡ true → at_operation visits (found.LongNumber bytes) ∷ [] ≡ long_found visits n
  is_long so =
      ap (λ (m : ℕ). at_operation visits (found.LongNumber m) ∷ []) is
      ∙ ap (λ (x : Bool). if x then at_operation visits (found.LongNumber (at_most_64_bits n)) ∷ [] else [])
      (sym so ∙ long ∙ as_many)

-- an advance that goes past the size of an address, and one that doesn't
module _ (visits : List Visit) (p p' : Params) (at place : Place) (o : Operation) (moved : Moved) (b : Bool) (same : p' ≡ p)
    (stands : at ≡ place) (moves : moved ≡ moved_by p at o) (wrap : b ≡ wraps p' moved o) where
  as_wraps : b ≡ wraps p (moved_by p place o) o
  as_wraps =
      wrap ∙ ap₂ (λ (q : Params) (m : Moved). wraps q m o) same moves
      ∙ ap (λ (a : Place). wraps p (moved_by p a o) o) stands

  pub not_wrapped : b ≡ false → [] ≡ wrapped_found visits p place o
  not_wrapped isnt =
      ap (λ (x : Bool). if x then at_operation visits (found.WrappedAddress place.address p.address_size) ∷ [] else [])
      (sym isnt ∙ as_wraps)

  pub is_wrapped : b ≡ true
      → at_operation visits (found.WrappedAddress at.address p'.address_size) ∷ [] ≡ wrapped_found visits p place o
  is_wrapped so =
      ap₂ (λ (a : Place) (q : Params). at_operation visits (found.WrappedAddress a.address q.address_size) ∷ []) stands same
      ∙ ap (λ (x : Bool). if x then at_operation visits (found.WrappedAddress place.address p.address_size) ∷ [] else [])
      (sym so ∙ as_wraps)

-- nothing, at an operation at which the rules of operations find nothing
pub none_at_operation : (s : Strings) (q : LintQuestion) (visits : List Visit) (h : HeaderData) (o : Operation)
    → IsGood h.params (seen visits) o → findings_at s q visits (of_item (an_operation h o)) ≡ []
none_at_operation s q visits h o good = rw (good.short, good.within, good.known) refl
