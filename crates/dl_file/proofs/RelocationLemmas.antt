-- Sections of relocations, one section header further on.
use Rattle.std.proofs.Common.{◌≡◌, ℕ, zero, suc, ◌+◌, ◌-◌, ◌<◌, ◌≤◌, true, false}
use Rattle.std.proofs.Common.{Bool, if◌then◌else◌, List, [], ◌∷◌, length, Option}
use Rattle.std.proofs.Common.{Some, None, Result, Ok, Err, arith, inl, inr, refl, sym, ap, ◌∙◌}
use Rattle.std.proofs.lemmas.Bool.{cases_lt, le-ltb, lt-ltb}
use Rattle.std.proofs.lemmas.Option.{none-some, same_Some}
use Rattle.dl_elf.specs.declared.file.Elf.{Elf}
use Rattle.dl_elf.specs.declared.named.NamedSection.{NamedSection}
use Rattle.dl_elf.specs.declared.section.SectionHeader.{SectionHeader}
use Rattle.dl_elf.specs.declared.fault.ElfFault.{ElfFault}
use Rattle.dl_elf.specs.declared.fault.ElfFault.TheVariants as fault
use Rattle.dl_elf.specs.declared.fault.Part.TheVariants as part
use Rattle.dl_elf.specs.Elf.{relocates}
use Rattle.dl_elf.specs.Forward.{IsBackward}
use Rattle.dl_elf.specs.Sections.{section_in}
use Rattle.dl_file.specs.LineTable.{Content, held_bytes, line_by, plain_content}
use Rattle.dl_file.specs.OneByOne.{relocated_at, relocated_if, relocated_upto, relocations_at, relocations_in}
use Rattle.dl_file.specs.OneByOne.{relocations_upto, sum_of}
use Rattle.dl_file.specs.Relocations.{HasRelocations, and_then, by_each, relocated_by, relocation_sections, relocations_of}
use Rattle.dl_file.proofs.ListedLemmas.{listed}

-- ---- how many there are

-- those of section n, after those before it
pub next_counted : (e : Elf) (f : List ℕ) (number n sections more : ℕ) → 1 ≤ n
    → relocations_upto e f number (n - 1) ≡ Some sections → relocations_at e f number n ≡ Some more
    → relocations_upto e f number (n + 1 - 1) ≡ Some (sections + more)
next_counted e f number n sections more from so_far next =
    let on : n + 1 - 1 ≡ suc (n - 1) = omega (arith, from) in
    let back : suc (n - 1) ≡ n = omega (arith, from) in
    ap (λ k. relocations_upto e f number k) on
    ∙ (ap (λ r. sum_of r (relocations_at e f number (suc (n - 1)))) so_far
    ∙ (ap (λ k. sum_of (Some sections) (relocations_at e f number k)) back ∙ ap (sum_of (Some sections)) next))

-- none, where sections 1 to n have none of a later section, and stand before section `number`
pub none_before : (e : Elf) (f : List ℕ) (number n : ℕ)
    → ((k : ℕ) → 1 ≤ k → k < n + 1 → IsBackward e f k × (k < number)) → relocations_upto e f number n ≡ Some 0
none_before e f number zero backward = refl
none_before e f number (suc n) backward =
    let p = backward (suc n) (omega arith) (omega arith) in
    let none : relocations_at e f number (suc n) ≡ Some 0 =
    ap (relocations_in number) p.0.1 ∙ ap (λ b. Some (if b then 1 else 0)) (p.0.2 number p.1) in
    ap (λ r. sum_of r (relocations_at e f number (suc n)))
    (none_before e f number n (λ k from less. backward k from (omega (arith, less))))
    ∙ ap (sum_of (Some 0)) none

-- a section header that isn't there decides, whatever follows
none_stays : (e : Elf) (f : List ℕ) (number end n : ℕ) → n ≤ end
    → ◌≡◌ {A = Option ℕ} (relocations_upto e f number n) None
    → ◌≡◌ {A = Option ℕ} (relocations_upto e f number end) None
none_stays e f number zero n le is =
    let none : zero ≡ n = omega (arith, le) in
    ap (λ k. relocations_upto e f number k) none ∙ is
none_stays e f number (suc end) n le is = elim (cases_lt n (suc end)) [
  | inl less ↦ ap (λ r. sum_of r (relocations_at e f number (suc end)))
      (none_stays e f number end n (omega (arith, less)) is)
  | inr more ↦ (let same : suc end ≡ n = omega (arith, le, more) in ap (λ k. relocations_upto e f number k) same ∙ is)
]

-- section header n isn't there, and those before it are
pub counted_to_end : (e : Elf) (f : List ℕ) (number n sections : ℕ) → 1 ≤ n → n < e.count
    → relocations_upto e f number (n - 1) ≡ Some sections → ◌≡◌ {A = Option ℕ} (relocations_at e f number n) None
    → ◌≡◌ {A = Option ℕ} (relocations_upto e f number (e.count - 1)) None
counted_to_end e f number n sections from less so_far next =
    let back : suc (n - 1) ≡ n = omega (arith, from) in
    none_stays e f number (e.count - 1) (suc (n - 1)) (omega (arith, from, less))
    (ap (λ r. sum_of r (relocations_at e f number (suc (n - 1)))) so_far
    ∙ (ap (λ k. sum_of (Some sections) (relocations_at e f number k)) back ∙ ap (sum_of (Some sections)) next))

-- all section headers were looked at
pub counted_whole : (e : Elf) (f : List ℕ) (number n sections : ℕ) → n - 1 ≤ e.count - 1 → e.count ≤ n
    → relocations_upto e f number (n - 1) ≡ Some sections → relocations_upto e f number (e.count - 1) ≡ Some sections
counted_whole e f number n sections within past is =
    let end : e.count - 1 ≡ n - 1 = omega (arith, within, past) in ap (λ k. relocations_upto e f number k) end ∙ is

pub some_relocations : (e : Elf) (f : List ℕ) (number n : ℕ) → relocations_of e f number ≡ Some n → ¬ (n ≡ 0)
    → HasRelocations e f number
some_relocations e f number zero told some = absurd (some refl)
some_relocations e f number (suc n) told some = (n, told)

-- ---- what they make of the line section

-- with none
pub line_alone : (e : Elf) (f : List ℕ) (line : NamedSection) (whole : Content)
    → relocations_of e f line.number ≡ Some 0 → line_by e f line whole (relocation_sections e f line.number) ≡ Ok whole
line_alone e f line whole told =
    let l = listed e f line 0 told in
    ap (line_by e f line whole) l.are ∙ by l.sections l.many
  where
    by : (sections : List SectionHeader) → length sections ≡ 0 → line_by e f line whole (Some sections) ≡ Ok whole
    by [] none = refl
    by (s ∷ more) none = absurd (omega (arith, none))

-- with more than are taken
pub line_refused : (e : Elf) (f : List ℕ) (line : NamedSection) (whole : Content) (n : ℕ)
    → relocations_of e f line.number ≡ Some n → 16 < n
    → line_by e f line whole (relocation_sections e f line.number) ≡ Err (fault.Damaged (part.Relocations line.name))
line_refused e f line whole n told many =
    let l = listed e f line n told in
    ap (line_by e f line whole) l.are ∙ by l.sections l.many
  where
    by : (sections : List SectionHeader) → length sections ≡ n
        → line_by e f line whole (Some sections) ≡ Err (fault.Damaged (part.Relocations line.name))
    by [] so_many = absurd (omega (arith, so_many, many))
    by (s ∷ more) so_many = rw (lt-ltb 16 (length (s ∷ more)) (omega (arith, so_many, many))) refl

-- with as many as are taken
pub line_taken : (e : Elf) (f : List ℕ) (line : NamedSection) (whole : Content) (n : ℕ)
    → relocations_of e f line.number ≡ Some n → ¬ (n ≡ 0) → n ≤ 16
    → line_by e f line whole (relocation_sections e f line.number)
    ≡ plain_content (and_then (λ b. relocated_upto e f line b (e.count - 1)) (held_bytes whole))
line_taken e f line whole n told some few =
    let l = listed e f line n told in
    ap (line_by e f line whole) l.are ∙ by l.sections l.many l.relocated
  where
    made : (sections : List SectionHeader) (first : Result (List ℕ) ElfFault)
        → ((b : List ℕ) → ¬ (n ≡ 0)
        → by_each (relocated_by e f line.name) sections b ≡ relocated_upto e f line b (e.count - 1))
        → and_then (by_each (relocated_by e f line.name) sections) first
        ≡ and_then (λ b. relocated_upto e f line b (e.count - 1)) first
    made sections (Ok b) relocated = relocated b some
    made sections (Err first) relocated = refl

    by : (sections : List SectionHeader) → length sections ≡ n
        → ((b : List ℕ) → ¬ (n ≡ 0)
        → by_each (relocated_by e f line.name) sections b ≡ relocated_upto e f line b (e.count - 1))
        → line_by e f line whole (Some sections)
        ≡ plain_content (and_then (λ b. relocated_upto e f line b (e.count - 1)) (held_bytes whole))
    by [] so_many relocated = absurd (some (sym so_many))
    by (s ∷ more) so_many relocated =
        rw (le-ltb 16 (length (s ∷ more)) (omega (arith, so_many, few)))
        (ap plain_content (made (s ∷ more) (held_bytes whole) relocated))

pub line_made : (e : Elf) (f : List ℕ) (line : NamedSection) (whole : Content) (n : ℕ) (b : List ℕ)
    → relocations_of e f line.number ≡ Some n → ¬ (n ≡ 0) → n ≤ 16 → held_bytes whole ≡ Ok b
    → line_by e f line whole (relocation_sections e f line.number) ≡ plain_content (relocated_upto e f line b (e.count - 1))
line_made e f line whole n b told some few held =
    line_taken e f line whole n told some few
    ∙ ap (λ r. plain_content (and_then (λ b. relocated_upto e f line b (e.count - 1)) r)) held

pub line_unread : (e : Elf) (f : List ℕ) (line : NamedSection) (whole : Content) (n : ℕ) (why : ElfFault)
    → relocations_of e f line.number ≡ Some n → ¬ (n ≡ 0) → n ≤ 16 → held_bytes whole ≡ Err why
    → line_by e f line whole (relocation_sections e f line.number) ≡ Err why
line_unread e f line whole n why told some few held =
    line_taken e f line whole n told some few
    ∙ ap (λ r. plain_content (and_then (λ b. relocated_upto e f line b (e.count - 1)) r)) held

pub no_sum : (m n : Option ℕ) → sum_of m n ≡ Some 0 → (m ≡ Some 0) × (n ≡ Some 0)
no_sum None n is = absurd (none-some 0 is)
no_sum (Some m) None is = absurd (none-some 0 is)
no_sum (Some m) (Some n) is =
    let sum : m + n ≡ 0 = same_Some (m + n) 0 is in
    let first : m ≡ 0 = omega (arith, sum) in
    let second : n ≡ 0 = omega (arith, sum) in (ap Some first, ap Some second)

pub not_one : (b : Bool) → ◌≡◌ {A = Option ℕ} (Some (if b then 1 else 0)) (Some 0) → b ≡ false
not_one false is = refl
not_one true is = absurd (omega (arith, same_Some {A = ℕ} 1 0 is))

not_relocated : (e : Elf) (f : List ℕ) (line : NamedSection) (s : Option SectionHeader) (b : List ℕ)
    → relocations_in line.number s ≡ Some 0 → relocated_if e f line s b ≡ Ok b
not_relocated e f line None b is = absurd (none-some 0 is)
not_relocated e f line (Some s) b is = rw (not_one (relocates line.number s) is) refl

-- sections of which none is of relocations
pub none_relocated : (e : Elf) (f : List ℕ) (line : NamedSection) (b : List ℕ) (n : ℕ)
    → relocations_upto e f line.number n ≡ Some 0 → relocated_upto e f line b n ≡ Ok b
none_relocated e f line b zero is = refl
none_relocated e f line b (suc n) is =
    let p = no_sum (relocations_upto e f line.number n) (relocations_at e f line.number (suc n)) is in
    ap (and_then (relocated_at e f line (suc n))) (none_relocated e f line b n p.0)
    ∙ not_relocated e f line (section_in e.header f (suc n)) b p.1

-- those of section n, after those before it
pub next_relocated : (e : Elf) (f : List ℕ) (line : NamedSection) (b : List ℕ) (n : ℕ) (before after : List ℕ) → 1 ≤ n
    → relocated_upto e f line b (n - 1) ≡ Ok before → relocated_at e f line n before ≡ Ok after
    → relocated_upto e f line b (n + 1 - 1) ≡ Ok after
next_relocated e f line b n before after from so_far next =
    let on : n + 1 - 1 ≡ suc (n - 1) = omega (arith, from) in
    let back : suc (n - 1) ≡ n = omega (arith, from) in
    ap (λ k. relocated_upto e f line b k) on
    ∙ (ap (and_then (relocated_at e f line (suc (n - 1)))) so_far
    ∙ (ap (λ k. relocated_at e f line k before) back ∙ next))

-- a fault decides, whatever follows
fault_stays : (e : Elf) (f : List ℕ) (line : NamedSection) (b : List ℕ) (end n : ℕ) (first : ElfFault) → n ≤ end
    → relocated_upto e f line b n ≡ Err first → relocated_upto e f line b end ≡ Err first
fault_stays e f line b zero n first le is =
    let none : zero ≡ n = omega (arith, le) in
    ap (λ k. relocated_upto e f line b k) none ∙ is
fault_stays e f line b (suc end) n first le is = elim (cases_lt n (suc end)) [
  | inl less ↦ ap (and_then (relocated_at e f line (suc end)))
      (fault_stays e f line b end n first (omega (arith, less)) is)
  | inr more ↦ (let same : suc end ≡ n = omega (arith, le, more) in ap (λ k. relocated_upto e f line b k) same ∙ is)
]

-- section n has a fault, and those before it have none
pub relocated_to_fault : (e : Elf) (f : List ℕ) (line : NamedSection) (b : List ℕ) (n : ℕ) (before : List ℕ) (first : ElfFault)
    → 1 ≤ n → n < e.count → relocated_upto e f line b (n - 1) ≡ Ok before → relocated_at e f line n before ≡ Err first
    → relocated_upto e f line b (e.count - 1) ≡ Err first
relocated_to_fault e f line b n before first from less so_far next =
    let back : suc (n - 1) ≡ n = omega (arith, from) in
    fault_stays e f line b (e.count - 1) (suc (n - 1)) first (omega (arith, from, less))
    (ap (and_then (relocated_at e f line (suc (n - 1)))) so_far
    ∙ (ap (λ k. relocated_at e f line k before) back ∙ next))

-- all sections were looked at
pub relocated_whole : (e : Elf) (f : List ℕ) (line : NamedSection) (b : List ℕ) (n : ℕ) (after : List ℕ) → n - 1 ≤ e.count - 1
    → e.count ≤ n → relocated_upto e f line b (n - 1) ≡ Ok after → relocated_upto e f line b (e.count - 1) ≡ Ok after
relocated_whole e f line b n after within past is =
    let end : e.count - 1 ≡ n - 1 = omega (arith, within, past) in ap (λ k. relocated_upto e f line b k) end ∙ is
