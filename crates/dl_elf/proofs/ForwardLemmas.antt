-- Relocations of later sections, one section header further on.
use Rattle.std.proofs.Common.{◌≡◌, ℕ, ◌+◌, ◌<◌, ◌≤◌, false, ◌&&◌, ◌==◌, not, nat_lt, List, Some, sym}
use Rattle.std.proofs.Common.{arith, inl, inr}
use Rattle.std.proofs.lemmas.Bool.{and_cases, and_left, and_parts, and_right, cases_Bool, cases_lt, eqb-true, ltb-false}
use Rattle.std.proofs.lemmas.Bool.{ne_eqb, not-true}
use Rattle.dl_elf.specs.declared.file.Elf.{Elf}
use Rattle.dl_elf.specs.declared.section.SectionHeader.{SectionHeader}
use Rattle.dl_elf.specs.Elf.{has_relocations, relocates}
use Rattle.dl_elf.specs.Sections.{section_in}
use Rattle.dl_elf.specs.Forward.{NoneForward, passed, relocates_later}

not_later : (number later : ℕ) (s : SectionHeader) → relocates_later number s ≡ false → number < later
    → relocates later s ≡ false
not_later number later s none less =
    let kind = has_relocations s in
    elim (and_cases (nat_lt number s.info) kind none) [
      | inl upto ↦ (let before : s.info ≤ number = ltb-false number s.info upto in
          and_left (s.info == later) kind
          (ne_eqb s.info later (λ (same : s.info ≡ later). absurd (omega (arith, same, before, less)))))
      | inr other ↦ and_right (s.info == later) kind other
    ]

-- after section `number`, which s is
pub passed_forward : (e : Elf) (f : List ℕ) (number n : ℕ) (s : SectionHeader) → Some s ≡ section_in e.header f number
    → NoneForward e f n → NoneForward e f (passed number s n)
passed_forward e f number n s here none =
    elim (cases_Bool ((n == number) && not (relocates_later number s))) [
      | inl next ↦ rw next (λ k from below. elim (cases_lt k n) [
        | inl less ↦ none k from less
        | inr more ↦ (let p = and_parts (n == number) (not (relocates_later number s)) next in
            let at : n ≡ number = eqb-true n number p.0 in
            let same : k ≡ number = omega (arith, at, below, more) in
            let none_later = not-true (relocates_later number s) p.1 in
            rw same (s, sym here, λ later less. not_later number later s none_later less))
      ])
      | inr stays ↦ rw stays none
    ]

-- no further than that section
pub passed_upto : (number n : ℕ) (s : SectionHeader) → n ≤ number → passed number s n ≤ number + 1
passed_upto number n s upto = elim (cases_Bool ((n == number) && not (relocates_later number s))) [
  | inl next ↦ rw next (omega arith)
  | inr stays ↦ rw stays (omega (arith, upto))
]

-- before the first section there is none
pub none_at_first : (e : Elf) (f : List ℕ) (n : ℕ) → n ≡ 1 → NoneForward e f n
none_at_first e f n first = λ k from below. absurd (omega (arith, first, from, below))
