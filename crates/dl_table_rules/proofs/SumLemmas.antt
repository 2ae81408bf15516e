-- Files without an MD5 sum.
use Rattle.std.proofs.Common.{◌≡◌, ◌≢◌, ◌∙◌, ℕ, ◌+◌, ◌≤◌, Bool, true, false, List, [], ◌∷◌, ◌++◌, length}
use Rattle.std.proofs.Common.{refl, sym, ap, ap₂, arith, inl, inr, zero, suc}
use Rattle.std.specs.Prelude.{cond, if◌then◌else◌, nat_lt, not}
use Rattle.std.proofs.lemmas.Bool.{cases_Bool, ltb-false}
use Rattle.std.proofs.lemmas.List.{append-nil}
use Rattle.std.specs.List.{filter, range_with_len}
use Rattle.dl_field.specs.HeaderData.{HeaderData}
use Rattle.dl_head.specs.Numbers.{first_number}
use Rattle.dl_findings.specs.declared.finding.Found.TheVariants as found
use Rattle.dl_table_rules.specs.Keeping.{counted}
use Rattle.dl_table_rules.specs.Sums.{has_sum, sums_found, told_without, without_sum}
use Rattle.dl_table_rules.specs.TableFindings.{in_header}
use Rattle.dl_table_rules.specs.Unused.{file_numbers}
use Rattle.dl_table_rules.specs.declared.files_named.FileNumbers.{FileNumbers}
use Rattle.dl_table_rules.proofs.NamedLemmas.{filter-push}

abbrev pub lacks_sum : HeaderData → ℕ → Bool
lacks_sum h n = not (has_sum h n)

-- ---- one file more

module _ (h : HeaderData) where
  abbrev pub upto : (count : ℕ) → List ℕ
  upto count = filter (lacks_sum h) (range_with_len (first_number h.params) count)

  more : (count file : ℕ) (b : Bool) → file ≡ first_number h.params + count → has_sum h file ≡ b
      → upto (count + 1) ≡ upto count ++ (if not b then file ∷ [] else [])
  more count file b at is =
      filter-push (lacks_sum h) (first_number h.params) count
      ∙ ap (λ (n : ℕ). upto count ++ (if lacks_sum h n then n ∷ [] else [])) (sym at)
      ∙ ap (λ (c : Bool). upto count ++ (if not c then file ∷ [] else [])) is

  pub one_without : (count file : ℕ) → file ≡ first_number h.params + count → has_sum h file ≡ false
      → upto (count + 1) ≡ upto count ++ file ∷ []
  one_without count file at is = more count file false at is

  pub one_with : (count file : ℕ) → file ≡ first_number h.params + count → has_sum h file ≡ true
      → upto (count + 1) ≡ upto count
  one_with count file at is = more count file true at is ∙ append-nil (upto count)

-- ---- what is told

count_within : (p : ℕ → Bool) (numbers : List ℕ) → length (filter p numbers) ≤ length numbers
count_within p [] = omega arith
count_within p (n ∷ numbers) = elim (cases_Bool (p n)) [
  | inl passes ↦ rw passes (omega (arith, count_within p numbers))
  | inr fails ↦ rw fails (omega (arith, count_within p numbers))
]

range-length : (first count : ℕ) → length (range_with_len first count) ≡ count
range-length first zero = refl
range-length first (suc count) = omega (arith, range-length (first + 1) count)

told : (offset : ℕ) (numbers : List ℕ) (w : FileNumbers) → w ≡ counted numbers → w.files ≢ 0
    → in_header offset (found.Md5Missing w.files w.first) ∷ [] ≡ told_without offset numbers
told offset [] w is some = absurd (some (ap (λ u. u.files) is))
told offset (n ∷ numbers) w is some =
    ap₂ (λ (files first : ℕ). in_header offset (found.Md5Missing files first) ∷ []) (ap (λ u. u.files) is) (ap (λ u. u.first) is)

fewer : (h : HeaderData) (w : FileNumbers) → w ≡ counted (without_sum h) → w.files ≢ length h.files.entries
    → nat_lt (length (without_sum h)) (length h.files.entries) ≡ true
fewer h w is other = elim (cases_Bool (nat_lt (length (without_sum h)) (length h.files.entries))) [
  | inl less ↦ less
  | inr isnt ↦
      absurd (other (
      ap (λ u. u.files) is ∙ files_of (without_sum h)
      ∙ omega (
        arith,
        ltb-false (length (without_sum h)) (length h.files.entries) isnt,
        count_within (lacks_sum h) (file_numbers h),
        range-length (first_number h.params) (length h.files.entries),
      )
      ))
] where
  files_of : (numbers : List ℕ) → (counted numbers).files ≡ length numbers
  files_of [] = refl
  files_of (n ∷ numbers) = refl

-- some have a sum, and others none
pub some_told : (offset : ℕ) (h : HeaderData) (w : FileNumbers) → w ≡ counted (without_sum h) → w.files ≢ 0
    → w.files ≢ length h.files.entries
    → in_header offset (found.Md5Missing w.files w.first) ∷ [] ≡ sums_found offset h
some_told offset h w is some other =
    told offset (without_sum h) w is some
    ∙ sym (ap (λ b. cond b (told_without offset (without_sum h)) []) (fewer h w is other))
