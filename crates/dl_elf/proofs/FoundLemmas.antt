-- The section of a name, one section header further on.
use Rattle.std.proofs.Common.{◌≡◌, ◌≢◌, ℕ, ◌+◌, ◌<◌, ◌≤◌, false, List, Option, Some, None, ◌-◌, replicate, refl, sym}
use Rattle.std.proofs.Common.{ap, ◌∙◌, arith, inl, inr, subst}
use Rattle.std.proofs.lemmas.Bool.{cases_Bool, cases_lt}
use Rattle.std.proofs.lemmas.List.{get_or-replicate}
use Rattle.dl_elf.specs.declared.file.Elf.{Elf}
use Rattle.dl_elf.specs.declared.section.SectionHeader.{SectionHeader}
use Rattle.dl_elf.specs.declared.name.SectionName.{SectionName}
use Rattle.dl_elf.specs.declared.named.NamedSection.{NamedSection}
use Rattle.dl_elf.specs.Sections.{section_in}
use Rattle.dl_elf.specs.Found.{AreFound, IsNamed, IsWantedAt, NoneBefore, IsFirst, FoundBefore, Found, index_of}
use Rattle.dl_elf.specs.Slots.{begins_with_name, name_front, noted, slot_at, slot_of, name_at}
use Rattle.dl_elf.specs.SlotsFound.{AreFoundBefore}
use Rattle.dl_elf.proofs.NameLemmas.{begins-named, named-begins, name_at-index_of, index_of-small}
use Rattle.dl_num.proofs.LebFrontLemmas.{true_false}

-- none before n, and not n itself
pub none_more : (e : Elf) (f : List ℕ) (name : SectionName) (n : ℕ) → NoneBefore e f name n → ¬ IsWantedAt e f name n
    → NoneBefore e f name (n + 1)
none_more e f name n none not_here = λ k from below. elim (cases_lt k n) [
  | inl less ↦ none k from less
  | inr more ↦ (let same : k ≡ n = omega (arith, below, more) in rw same not_here)
]

-- the section that was found stays the first
pub first_more : (e : Elf) (f : List ℕ) (name : SectionName) (n : ℕ) (s : NamedSection) → IsFirst e f name n s
    → IsFirst e f name (n + 1) s
first_more e f name n s first = record {
  is_name = first.is_name;
  from = first.from;
  before = omega (arith, first.before);
  header = first.header;
  wanted = first.wanted;
  none_before = first.none_before;
}

-- section n isn't wanted
pub found_more : (e : Elf) (f : List ℕ) (name : SectionName) (n : ℕ) (slot : Option NamedSection)
    → FoundBefore e f name n slot
    → ¬ IsWantedAt e f name n → FoundBefore e f name (n + 1) slot
found_more e f name n None none not_here = none_more e f name n none not_here
found_more e f name n (Some s) first not_here = first_more e f name n s first

-- it lies outside the file
pub outside_not_wanted : (e : Elf) (f : List ℕ) (name : SectionName) (n : ℕ)
    → ◌≡◌ {A = Option SectionHeader} None (section_in e.header f n) → ¬ IsWantedAt e f name n
outside_not_wanted e f name n out =
    λ (s, is, wanted). let no : ◌≡◌ {A = Option SectionHeader} None (Some s) = out ∙ is in absurd cc

-- it is of type NOBITS
pub nobits_not_wanted : (e : Elf) (f : List ℕ) (name : SectionName) (n : ℕ) (header : SectionHeader)
    → Some header ≡ section_in e.header f n → header.section_type ≡ 8 → ¬ IsWantedAt e f name n
nobits_not_wanted e f name n header here nobits =
    λ (s, is, wanted). let same : header ≡ s = cc (here ∙ is) in wanted.0 (ap (λ h. h.section_type) (sym same) ∙ nobits)

-- it has another name
pub other_not_wanted : (e : Elf) (f : List ℕ) (name : SectionName) (n : ℕ) (header : SectionHeader) (b : List ℕ)
    → Some header ≡ section_in e.header f n
    → b ≡ name_front e f header 20 → begins_with_name b name ≡ false → ¬ IsWantedAt e f name n
other_not_wanted e f name n header b here is other = λ (s, there, wanted).
    let same : s ≡ header = cc (here ∙ there) in
    let P : SectionHeader → Type 0 = λ h. IsNamed e f name h in
    let named : IsNamed e f name header = subst P same wanted.1 in
    true_false (named-begins e f name header b is named) other

-- section n is kept where it is the first of the name
pub found_noted : (e : Elf) (f : List ℕ) (name : SectionName) (n : ℕ) (header : SectionHeader) (b : List ℕ)
    (slot : Option NamedSection) → 1 ≤ n
    → Some header ≡ section_in e.header f n → header.section_type ≢ 8 → b ≡ name_front e f header 20
    → FoundBefore e f name n slot → FoundBefore e f name (n + 1) (noted b n header name slot)
found_noted e f name n header b (Some s) from here bits is first = first_more e f name n s first
found_noted e f name n header b None from here bits is none = elim (cases_Bool (begins_with_name b name)) [
  | inl begins ↦ (rw begins (record {
    is_name = refl;
    from = from;
    before = omega arith;
    header = sym here;
    wanted = (bits, begins-named e f name header b is begins);
    none_before = none;
  }))
  | inr other ↦ (rw other (none_more e f name n none (other_not_wanted e f name n header b here is other)))
]

-- the slots at the end are the sections of the names
pub all_found : (e : Elf) (f : List ℕ) (slots : List (Option NamedSection)) → AreFoundBefore e f e.count slots
    → AreFound e f (slot_of slots)
all_found e f slots found = λ name.
    let P : SectionName → Type 0 = λ m. Found e f m (slot_of slots name) in
    subst P (name_at-index_of name) (found (index_of name) (index_of-small name))

-- before number 1 there is none
none_before_one : (e : Elf) (f : List ℕ) (name : SectionName) (slot : Option NamedSection) → slot ≡ None
    → FoundBefore e f name 1 slot
none_before_one e f name None is = λ k from below. absurd (omega (arith, from, below))
none_before_one e f name (Some s) is = absurd cc

pub empty_found : (e : Elf) (f : List ℕ) (slots : List (Option NamedSection)) → slots ≡ replicate 16 None
    → AreFoundBefore e f 1 slots
empty_found e f slots is =
    λ k less. none_before_one e f (name_at k) (slot_at slots k) (ap (λ xs. slot_at xs k) is
    ∙ get_or-replicate 16 k None None less)

-- before number 0 there is none either
none_before_zero : (e : Elf) (f : List ℕ) (name : SectionName) (slot : Option NamedSection)
    → FoundBefore e f name 1 slot → FoundBefore e f name 0 slot
none_before_zero e f name None none = λ k from below. absurd (omega (arith, from, below))
none_before_zero e f name (Some s) first =
    let from : 1 ≤ s.number =
    first.from in let before : s.number < 1 = first.before in absurd (omega (arith, from, before))

-- the pass has come to its end
pub found_at_end : (e : Elf) (f : List ℕ) (n : ℕ) (slots : List (Option NamedSection)) → 1 ≤ n → e.count ≤ n
    → n - 1 ≤ e.count - 1
    → AreFoundBefore e f n slots → AreFoundBefore e f e.count slots
found_at_end e f n slots from past upto found = λ k less. elim (cases_lt 0 e.count) [
  | inl some ↦ (let same : n ≡ e.count = omega (arith, past, upto, some, from) in
      let P : ℕ → Type 0 = λ m. FoundBefore e f (name_at k) m (slot_at slots k) in subst P same (found k less))
  | inr empty ↦ (let none : 0 ≡ e.count = omega (arith, empty) in let one : n ≡ 1 = omega (arith, upto, from, none) in
      let P : ℕ → Type 0 = λ m. FoundBefore e f (name_at k) m (slot_at slots k) in
      subst P none (none_before_zero e f (name_at k) (slot_at slots k) (subst P one (found k less))))
]
