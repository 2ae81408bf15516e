-- The places that relocations change, one section header further on, and the answer of a file.
use Rattle.std.proofs.Common.{◌≡◌, ℕ, zero, suc, ◌+◌, ◌-◌, ◌<◌, ◌≤◌, false, nat_lt, List, [], length, Option}
use Rattle.std.proofs.Common.{Some, None, Result, Ok, Err, MatchResult, arith, inl, inr, refl, sym, ap, subst, ◌∙◌}
use Rattle.std.specs.Prelude.{IfOk, IfErr}
use Rattle.std.proofs.lemmas.Bool.{cases_lt, le-ltb}
use Rattle.std.proofs.lemmas.Option.{none-some}
use Rattle.dl_elf.specs.declared.file.Elf.{Elf}
use Rattle.dl_elf.specs.declared.named.NamedSection.{NamedSection}
use Rattle.dl_elf.specs.declared.section.SectionHeader.{SectionHeader}
use Rattle.dl_elf.specs.declared.fault.ElfFault.{ElfFault}
use Rattle.dl_elf.specs.declared.fault.ElfFault.TheVariants as fault
use Rattle.dl_elf.specs.Answers.{Answers}
use Rattle.dl_elf.specs.Elf.{file_header, relocates}
use Rattle.dl_elf.specs.Found.{AreFound, Sections}
use Rattle.dl_elf.specs.Sections.{opened, section_in}
use Rattle.dl_reloc.specs.declared.placed.Placed.{Placed}
use Rattle.dl_file.specs.LineTable.{line_section, option_or}
use Rattle.dl_file.specs.OneByOne.{placed_at, placed_if, placed_upto, relocations_at, relocations_in, relocations_upto}
use Rattle.dl_file.specs.OneByOne.{wide_at, wide_upto}
use Rattle.dl_file.specs.Relocations.{HasRelocations, and_then, relocations_of}
use Rattle.dl_file.specs.Answering.{StopsListing}
use Rattle.dl_file.specs.Places.{ArePlaces, StopsPlaces, line_places, places_of, places_with}
use Rattle.dl_file.proofs.ListedLemmas.{listed}
use Rattle.dl_file.proofs.LineTableLemmas.{MemoryIsFree, header_free}
use Rattle.dl_file.proofs.RelocationLemmas.{no_sum, not_one}

-- ---- the section with numbers that don't fit

wide_stays : (e : Elf) (f : List ℕ) (number end n : ℕ) (s : SectionHeader) → n ≤ end
    → wide_upto e f number n ≡ Some s → wide_upto e f number end ≡ Some s
wide_stays e f number zero n s le is =
    let none : zero ≡ n = omega (arith, le) in
    ap (wide_upto e f number) none ∙ is
wide_stays e f number (suc end) n s le is = elim (cases_lt n (suc end)) [
  | inl less ↦ ap (λ o. option_or o (wide_at e f number (suc end)))
      (wide_stays e f number end n s (omega (arith, less)) is)
  | inr more ↦ (let same : suc end ≡ n = omega (arith, le, more) in ap (wide_upto e f number) same ∙ is)
]

-- section n is one, and none before it
pub wide_is : (e : Elf) (f : List ℕ) (number n : ℕ) (s : SectionHeader) → 1 ≤ n → n < e.count
    → wide_upto e f number (n - 1) ≡ None → wide_at e f number n ≡ Some s
    → wide_upto e f number (e.count - 1) ≡ Some s
wide_is e f number n s from less none is =
    let back : suc (n - 1) ≡ n = omega (arith, from) in
    wide_stays e f number (e.count - 1) (suc (n - 1)) s (omega (arith, from, less))
    (ap (λ o. option_or o (wide_at e f number (suc (n - 1)))) none ∙ (ap (wide_at e f number) back ∙ is))

-- one more that is none
pub wide_more : (e : Elf) (f : List ℕ) (number n : ℕ) → 1 ≤ n → wide_upto e f number (n - 1) ≡ None
    → wide_at e f number n ≡ None → wide_upto e f number (n + 1 - 1) ≡ None
wide_more e f number n from none is =
    let on : n + 1 - 1 ≡ suc (n - 1) = omega (arith, from) in
    let back : suc (n - 1) ≡ n = omega (arith, from) in
    ap (wide_upto e f number) on
    ∙ (ap (λ o. option_or o (wide_at e f number (suc (n - 1)))) none ∙ (ap (wide_at e f number) back ∙ is))

-- all section headers were looked at
pub wide_whole : (e : Elf) (f : List ℕ) (number n : ℕ) → n - 1 ≤ e.count - 1 → e.count ≤ n
    → wide_upto e f number (n - 1) ≡ None → wide_upto e f number (e.count - 1) ≡ None
wide_whole e f number n within past none =
    let end : e.count - 1 ≡ n - 1 = omega (arith, within, past) in ap (wide_upto e f number) end ∙ none

-- ---- the sections of relocations

not_listed : (e : Elf) (f : List ℕ) (line : NamedSection) (s : Option SectionHeader) (b : List Placed)
    → relocations_in line.number s ≡ Some 0 → placed_if e f line s b ≡ Ok b
not_listed e f line None b is = absurd (none-some 0 is)
not_listed e f line (Some s) b is = rw (not_one (relocates line.number s) is) refl

-- sections of which none is of relocations
pub none_placed : (e : Elf) (f : List ℕ) (line : NamedSection) (n : ℕ)
    → relocations_upto e f line.number n ≡ Some 0 → placed_upto e f line n ≡ Ok []
none_placed e f line zero is = refl
none_placed e f line (suc n) is =
    let p = no_sum (relocations_upto e f line.number n) (relocations_at e f line.number (suc n)) is in
    ap (and_then (placed_at e f line (suc n))) (none_placed e f line n p.0)
    ∙ not_listed e f line (section_in e.header f (suc n)) [] p.1

-- those of section n, after those before it
pub next_listed : (e : Elf) (f : List ℕ) (line : NamedSection) (n : ℕ) (before after : List Placed) → 1 ≤ n
    → placed_upto e f line (n - 1) ≡ Ok before → placed_at e f line n before ≡ Ok after
    → placed_upto e f line (n + 1 - 1) ≡ Ok after
next_listed e f line n before after from so_far next =
    let on : n + 1 - 1 ≡ suc (n - 1) = omega (arith, from) in
    let back : suc (n - 1) ≡ n = omega (arith, from) in
    ap (placed_upto e f line) on
    ∙ (ap (and_then (placed_at e f line (suc (n - 1)))) so_far
    ∙ (ap (λ k. placed_at e f line k before) back ∙ next))

-- a fault decides, whatever follows
fault_stays : (e : Elf) (f : List ℕ) (line : NamedSection) (end n : ℕ) (first : ElfFault) → n ≤ end
    → placed_upto e f line n ≡ Err first → placed_upto e f line end ≡ Err first
fault_stays e f line zero n first le is =
    let none : zero ≡ n = omega (arith, le) in
    ap (placed_upto e f line) none ∙ is
fault_stays e f line (suc end) n first le is = elim (cases_lt n (suc end)) [
  | inl less ↦ ap (and_then (placed_at e f line (suc end)))
      (fault_stays e f line end n first (omega (arith, less)) is)
  | inr more ↦ (let same : suc end ≡ n = omega (arith, le, more) in ap (placed_upto e f line) same ∙ is)
]

-- section n has a fault, and those before it have none
pub listed_to_fault : (e : Elf) (f : List ℕ) (line : NamedSection) (n : ℕ) (before : List Placed) (first : ElfFault)
    → 1 ≤ n → n < e.count → placed_upto e f line (n - 1) ≡ Ok before → placed_at e f line n before ≡ Err first
    → placed_upto e f line (e.count - 1) ≡ Err first
listed_to_fault e f line n before first from less so_far next =
    let back : suc (n - 1) ≡ n = omega (arith, from) in
    fault_stays e f line (e.count - 1) (suc (n - 1)) first (omega (arith, from, less))
    (ap (and_then (placed_at e f line (suc (n - 1)))) so_far
    ∙ (ap (λ k. placed_at e f line k before) back ∙ next))

-- ---- the line section, by how many sections of relocations it has

pub places_listed : (e : Elf) (f : List ℕ) (line : NamedSection) (n : ℕ)
    → relocations_of e f line.number ≡ Some n → ¬ (n ≡ 0) → n ≤ 16
    → line_places e f line ≡ placed_upto e f line (e.count - 1)
places_listed e f line n told some few =
    let l = listed e f line n told in
    let past : nat_lt 16 (length l.sections) ≡ false = le-ltb 16 (length l.sections) (omega (arith, l.many, few)) in
    ap (places_with e f line) l.are ∙ rw past (l.placed some)

-- ---- faults

-- what holds of an answer, where more is known of it
pub ok_map : {A E : Type 0} {P Q : A → Type 0} (r : Result A E) → ((a : A) → P a → Q a) → IfOk r P → IfOk r Q
ok_map (Ok a) more holds = more a holds
ok_map (Err e) more holds = tt

pub err_map : {A E : Type 0} {P Q : E → Type 0} (r : Result A E) → ((e : E) → P e → Q e) → IfErr r P → IfErr r Q
err_map (Ok a) more holds = tt
err_map (Err e) more holds = more e holds

-- the fault of a part is that of the whole
pub fault_listed : (answer whole : Result (List Placed) ElfFault) (Memory Needed : Type 0) (why : ElfFault)
    → (answer ≡ Err why → whole ≡ Err why) → (Memory → Needed) → StopsListing answer Memory why
    → StopsListing whole Needed why
fault_listed answer whole Memory Needed (fault.Read error) told needs is = tt
fault_listed answer whole Memory Needed fault.NoMemory told needs is = needs is
fault_listed answer whole Memory Needed other told needs is = told is

-- ---- a file

-- what the sections of the names come to is what the file comes to
pub are_places : (f : List ℕ) (e : Elf) (at : Sections) (answer : Result (List Placed) ElfFault) → Ok e ≡ opened f
    → AreFound e f at → answer ≡ places_of e f (line_section at) → ArePlaces f answer
are_places f e at answer is found told =
    let P : Result Elf ElfFault → Type 0 =
    λ r. MatchResult r (λ e. (at : Sections) × AreFound e f at × (answer ≡ places_of e f (line_section at)))
    (λ first. answer ≡ Err first) in
    subst P is (at, found, told)

-- the fault of a file whose headers can't be read
pub places_fault : (f : List ℕ) (why : ElfFault) → Answers (opened f) (Err why) → StopsPlaces f why
places_fault f (fault.Read error) is = tt
places_fault f fault.NoMemory is = absurd (subst MemoryIsFree (sym is) (header_free f (file_header f)))
places_fault f other is =
    let P : Result Elf ElfFault → Type 0 =
    λ r. MatchResult r (λ e. (at : Sections) × AreFound e f at
    × (◌≡◌ {A = Result (List Placed) ElfFault} (Err other) (places_of e f (line_section at))))
    (λ first. ◌≡◌ {A = Result (List Placed) ElfFault} (Err other) (Err first)) in
    subst P is refl

-- the fault of its line section
pub stops_places : (f : List ℕ) (e : Elf) (at : Sections) (line : NamedSection) (why : ElfFault) → Ok e ≡ opened f
    → AreFound e f at → Some line ≡ line_section at
    → StopsListing (line_places e f line) (HasRelocations e f line.number) why → StopsPlaces f why
stops_places f e at line (fault.Read error) is found named stops = tt
stops_places f e at line fault.NoMemory is found named stops = (e, sym is, at, found, line, sym named, stops)
stops_places f e at line other is found named stops =
    are_places f e at (Err other) is found (sym stops ∙ ap (places_of e f) named)
