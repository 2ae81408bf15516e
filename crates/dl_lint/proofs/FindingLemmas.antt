-- What is found at one visit more.
use Rattle.std.proofs.Common.{◌≡◌, ◌∙◌, ℕ, ◌+◌, List, [], ◌∷◌, ◌++◌, refl, sym, ap, ap₂, append-nil, append_assoc, arith}
use Rattle.std.proofs.Common.{◌-◌, ◌≤◌, suc, ◌<◌}
use Rattle.std.specs.Prelude.{flat_map, map}
use Rattle.std.proofs.lemmas.List.Concat.{flat_map-append}
use Rattle.std.specs.List.{range_with_len}
use Rattle.dl_print.specs.ValueText.{Strings}
use Rattle.dl_rows.specs.Items.{a_byte}
use Rattle.dl_sections.specs.DamageTold.{damages_told}
use Rattle.dl_sections.specs.Section.{Visit, of_item}
use Rattle.dl_lint.specs.Findings.{chosen, findings_after, findings_at, findings_in}
use Rattle.dl_findings.specs.FindingTold.{finding_told, findings_text}
use Rattle.dl_findings.specs.declared.finding_told.FindingForm.{FindingForm}
use Rattle.dl_findings.specs.declared.finding.Finding.{Finding}
use Rattle.dl_lint.specs.declared.question.LintQuestion.{LintQuestion}

module _ (s : Strings) (q : LintQuestion) where
  pub findings-append : (before a b : List Visit)
      → findings_after s q before (a ++ b) ≡ findings_after s q before a ++ findings_after s q (before ++ a) b
  findings-append before [] b = ap (λ (l : List Visit). findings_after s q l b) (sym (append-nil before))
  findings-append before (v ∷ a) b =
      let here = chosen q.rules (findings_at s q before v) in
      ap (λ (l : List Finding). here ++ l) (findings-append (before ++ v ∷ []) a b)
      ∙ sym (append_assoc here (findings_after s q (before ++ v ∷ []) a)
      (findings_after s q ((before ++ v ∷ []) ++ a) b))
      ∙ ap (λ (l : List Visit). (here ++ findings_after s q (before ++ v ∷ []) a) ++ findings_after s q l b)
      (append_assoc before (v ∷ []) a)

  -- where nothing is found at more
  pub found_none : (visits more : List Visit) → findings_after s q visits more ≡ [] → findings_in s q (visits ++ more) ≡ findings_in s q visits
  found_none visits more none =
      findings-append [] visits more
      ∙ ap (λ (l : List Finding). findings_in s q visits ++ l) none ∙ append-nil (findings_in s q visits)

  -- one visit more
  pub findings-push : (visits : List Visit) (v : Visit)
      → findings_in s q (visits ++ v ∷ []) ≡ findings_in s q visits ++ chosen q.rules (findings_at s q visits v)
  findings-push visits v =
      findings-append [] visits (v ∷ [])
      ∙ ap (λ (l : List Finding). findings_in s q visits ++ l) (append-nil (chosen q.rules (findings_at s q visits v)))

  -- nothing is found at bytes
  pub none_at_bytes : (before : List Visit) (bytes : List ℕ) → findings_after s q before (map of_item (map a_byte bytes)) ≡ []
  none_at_bytes before [] = refl
  none_at_bytes before (b ∷ bytes) = none_at_bytes (before ++ of_item (a_byte b) ∷ []) bytes

pub text-append : (form : FindingForm) (a b : List Finding)
    → findings_text form (a ++ b) ≡ findings_text form a ++ findings_text form b
text-append form a b = flat_map-append (finding_told form) a b

-- no damage is told by bytes
pub no_damage : (bytes : List ℕ) → damages_told (map of_item (map a_byte bytes)) ≡ []
no_damage [] = refl
no_damage (b ∷ bytes) = no_damage bytes

-- ---- numbers, one after the other

pub next_numbers : (f : ℕ → List Finding) (first i count : ℕ) → i < count
    → flat_map f (range_with_len (first + i) (count - i))
    ≡ f (first + i) ++ flat_map f (range_with_len (first + (i + 1)) (count - (i + 1)))
next_numbers f first i count lt =
    let e : count - i ≡ suc (count - (i + 1)) = omega arith in
    let a : first + i + 1 ≡ first + (i + 1) = omega arith in
    ap (λ (n : ℕ). flat_map f (range_with_len (first + i) n)) e
    ∙ ap (λ (m : ℕ). f (first + i) ++ flat_map f (range_with_len m (count - (i + 1)))) a

pub all_numbers : (f : ℕ → List Finding) (first count first' count' : ℕ) → first ≡ first' → count ≡ count'
    → flat_map f (range_with_len first' count') ≡ flat_map f (range_with_len (first + 0) (count - 0))
all_numbers f first count first' count' a b =
    let e : first' ≡ first + 0 = omega (arith, a) in
    let n : count' ≡ count - 0 = omega (arith, b) in
    ap₂ (λ (x y : ℕ). flat_map f (range_with_len x y)) e n

pub no_numbers : (f : ℕ → List Finding) (first i count : ℕ) → count ≤ i → flat_map f (range_with_len (first + i) (count - i)) ≡ []
no_numbers f first i count le =
    let e : count - i ≡ 0 = omega arith in
    ap (λ (n : ℕ). flat_map f (range_with_len (first + i) n)) e
