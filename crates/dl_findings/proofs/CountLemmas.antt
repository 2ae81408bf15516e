-- One finding more among those that are counted.
use Rattle.std.proofs.Common.{◌≡◌, ◌∙◌, ℕ, ◌+◌, List, [], ◌∷◌, ◌++◌, Bool, true, false, sym, ap, arith}
use Rattle.std.proofs.Common.{◌<◌, ◌⊎◌, ◌≢◌, length, inl, inr, get_or-set_other}
use Rattle.std.specs.Prelude.{◌==◌, if◌then◌else◌, slice_index_or, slice_set}
use Rattle.std.proofs.lemmas.Bool.{cases_Bool, eqb-true, eqb-false}
use Rattle.std.proofs.lemmas.Grind.{get_or-set_at}
use Rattle.std.specs.List.{count_by}
use Rattle.std.proofs.lemmas.List.Sums.{sum_by-append}
use Rattle.dl_findings.specs.Counting.{at_most_64_bits, how_many}
use Rattle.dl_findings.specs.FindingText.{rule_of}
use Rattle.dl_findings.specs.RuleNames.{rule_place}
use Rattle.dl_findings.specs.declared.finding.Finding.{Finding}
use Rattle.dl_findings.specs.declared.rule.Rule.{Rule}
use Rattle.dl_findings.specs.declared.rule.Rule.TheVariants as rule

no_more : (n : ℕ) → 0 + n ≡ n
no_more n = omega arith

pub count-push : {X : Type 0} (p : X → Bool) (xs : List X) (x : X)
    → count_by p (xs ++ x ∷ []) ≡ count_by p xs + (if p x then 1 else 0)
count-push p xs x =
    sum_by-append (λ y. if p y then 1 else 0) xs (x ∷ [])
    ∙ ap (λ (n : ℕ). count_by p xs + n) (no_more (if p x then 1 else 0))

capped : (n k : ℕ) → at_most_64_bits (n + k) ≡ at_most_64_bits (at_most_64_bits n + k)
capped n k = omega arith

again : (n : ℕ) → at_most_64_bits (at_most_64_bits n + 0) ≡ at_most_64_bits n
again n = omega arith

abbrev is_of : Rule → Finding → Bool
is_of r f = rule_place r == rule_place (rule_of f.found)

how_many-push : (r : Rule) (findings : List Finding) (f : Finding)
    → how_many r (findings ++ f ∷ [])
    ≡ at_most_64_bits (how_many r findings + (if rule_place r == rule_place (rule_of f.found) then 1 else 0))
how_many-push r findings f =
    ap at_most_64_bits (count-push (is_of r) findings f)
    ∙ capped (count_by (is_of r) findings) (if is_of r f then 1 else 0)

pub place-lt : (r : Rule) → rule_place r < 19
place-lt rule.FileIndex = omega arith
place-lt rule.DirectoryIndex = omega arith
place-lt rule.FallingPlace = omega arith
place-lt rule.NoEnd = omega arith
place-lt rule.EmptySequence = omega arith
place-lt rule.Overlap = omega arith
place-lt rule.DeadSequence = omega arith
place-lt rule.MissingText = omega arith
place-lt rule.DuplicateFile = omega arith
place-lt rule.UnusedFile = omega arith
place-lt rule.Md5Missing = omega arith
place-lt rule.LongNumber = omega arith
place-lt rule.Padding = omega arith
place-lt rule.WrappedAddress = omega arith
place-lt rule.LineWrapped = omega arith
place-lt rule.NoStatement = omega arith
place-lt rule.SplitInstruction = omega arith
place-lt rule.UnknownOpcode = omega arith
place-lt rule.NoCode = omega arith

-- one finding more
module _ (of : List ℕ) (findings : List Finding) (f : Finding) where
  pub counts_more : (place count : ℕ) → length of ≡ 19 → place ≡ rule_place (rule_of f.found)
      → count ≡ at_most_64_bits (slice_index_or of place 0 + 1)
      → ((r : Rule) → slice_index_or of (rule_place r) 0 ≡ how_many r findings)
      → (r : Rule) → slice_index_or (slice_set of place count) (rule_place r) 0 ≡ how_many r (findings ++ f ∷ [])
  counts_more place count long is counted counts r = by (cases_Bool (rule_place r == rule_place (rule_of f.found))) where
    within : rule_place (rule_of f.found) < 19
    within = place-lt (rule_of f.found)

    push : how_many r (findings ++ f ∷ [])
        ≡ at_most_64_bits (how_many r findings + (if rule_place r == rule_place (rule_of f.found) then 1 else 0))
    push = how_many-push r findings f

    by : ((rule_place r == rule_place (rule_of f.found)) ≡ true) ⊎ ((rule_place r == rule_place (rule_of f.found)) ≡ false)
        → slice_index_or (slice_set of place count) (rule_place r) 0 ≡ how_many r (findings ++ f ∷ [])
    by (inl same) =
        let e : rule_place r ≡ place = eqb-true (rule_place r) (rule_place (rule_of f.found)) same ∙ sym is in
        let n : slice_index_or (slice_set of place count) (rule_place r) 0 ≡ count =
        get_or-set_at of place (rule_place r) count 0 e (omega (arith, within, is, long)) in
        n ∙ counted ∙ ap (λ (k : ℕ). at_most_64_bits (slice_index_or of k 0 + 1)) (sym e)
        ∙ ap (λ (k : ℕ). at_most_64_bits (k + 1)) (counts r)
        ∙ sym (push ∙ ap (λ (b : Bool). at_most_64_bits (how_many r findings + (if b then 1 else 0))) same)
    by (inr other) =
        let ne : rule_place r ≢ place = λ e. eqb-false (rule_place r) (rule_place (rule_of f.found)) other (e ∙ is) in
        get_or-set_other of place (rule_place r) count 0 ne
        ∙ counts r
        ∙ sym (push ∙ ap (λ (b : Bool). at_most_64_bits (how_many r findings + (if b then 1 else 0))) other
        ∙ again (count_by (λ (x : Finding). rule_place r == rule_place (rule_of x.found)) findings))
