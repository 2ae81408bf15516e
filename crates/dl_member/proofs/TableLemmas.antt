-- Files without a line table.
use Rattle.std.proofs.Common.{arith, ◌≡◌, ◌⊎◌, ◌∙◌, ℕ, Bool, true, false, List, Option, Some, None, Ok, Err, refl, sym, inl, inr, subst}
use Rattle.std.specs.Prelude.{is_some, not, MatchBool}
use Rattle.std.specs.declared.io.Error.{Error}
use Rattle.dl_elf.specs.Answers.{Answers, IfRead}
use Rattle.dl_elf.specs.Found.{AreFound, FoundBefore, NoneBefore, Sections}
use Rattle.dl_elf.specs.Sections.{opened}
use Rattle.dl_elf.specs.declared.fault.ElfFault.{ElfFault}
use Rattle.dl_elf.specs.declared.fault.ElfFault.TheVariants.{NotElf, Read}
use Rattle.dl_elf.specs.declared.file.Elf.{Elf}
use Rattle.dl_elf.specs.declared.name.SectionName.{SectionName}
use Rattle.dl_elf.specs.declared.name.SectionName.TheVariants.{DebugLine, DebugLineDwo, ZdebugLine}
use Rattle.dl_elf.specs.declared.named.NamedSection.{NamedSection}
use Rattle.dl_file.specs.LineTable.{line_section, option_or}
use Rattle.dl_open.specs.Files.{MayFail}
use Rattle.dl_member.specs.NoTable.{HasNoTable}

-- a section that is found is so again
none_found : (e : Elf) (f : List ℕ) (name : SectionName) (n : ℕ) (o : Option NamedSection) → FoundBefore e f name n o
    → NoneBefore e f name n → o ≡ None
none_found e f name n None found none = refl
none_found e f name n (Some s) found none = absurd (none s.number found.from found.before (s.header, found.header, found.wanted))

-- neither of two is there
neither : {A : Type 0} (a b : Option A) → option_or a b ≡ None → (a ≡ None) × (b ≡ None)
neither None b none = (refl, none)
neither (Some x) b none = absurd cc

found_none : (e : Elf) (f : List ℕ) (name : SectionName) (at other : Sections) → AreFound e f at → AreFound e f other → other name ≡ None
    → at name ≡ None
found_none e f name at other found others none =
    none_found e f name e.count (at name) (found name) (subst (FoundBefore e f name e.count) none (others name))

-- two findings agree on whether there is a line section
no_section : (e : Elf) (f : List ℕ) (at other : Sections) → AreFound e f at → AreFound e f other → line_section other ≡ None
    → line_section at ≡ None
no_section e f at other found others none =
    let first = neither (other DebugLine) (option_or (other ZdebugLine) (other DebugLineDwo)) none in
    let second = neither (other ZdebugLine) (other DebugLineDwo) first.1 in
    rw (
      found_none e f DebugLine at other found others first.0,
      found_none e f ZdebugLine at other found others second.0,
      found_none e f DebugLineDwo at other found others second.1,
    ) refl

some_none : {A : Type 0} (o : Option A) → o ≡ None → is_some o ≡ true → ⊥
some_none None none some = absurd cc
some_none (Some x) none some = absurd cc

is_none : {A : Type 0} (o : Option A) → false ≡ is_some o → o ≡ None
is_none None none = refl
is_none (Some x) none = absurd cc

pub has_table : (f : List ℕ) (e : Elf) (at : Sections) → opened f ≡ Ok e → AreFound e f at → is_some (line_section at) ≡ true
    → HasNoTable f → ⊥
has_table f e at is found some (inl not_elf) = absurd cc
has_table f e at is found some (inr (other, opens, others, are, none)) =
    let same : other ≡ e = grind (arith, sym opens ∙ is) in
    let nowhere = no_section e f at others found (subst (λ x. AreFound x f others) same are) none in
    absurd (some_none (line_section at) nowhere some)

pub other_fault : (f : List ℕ) (fault : ElfFault) → opened f ≡ Err fault → (fault ≡ NotElf → ⊥) → HasNoTable f → ⊥
other_fault f fault is other (inl not_elf) = other (grind (arith, sym is ∙ not_elf))
other_fault f fault is other (inr (e, opens, at, are, none)) = absurd cc

-- by whether a line section was found
pub found_or_not : (f : List ℕ) (e : Elf) (at : Sections) (has : Bool) (fails : Error → Type 0) → has ≡ is_some (line_section at)
    → Ok e ≡ opened f → AreFound e f at → MatchBool (not has) (HasNoTable f) (MayFail fails ⊎ ¬ HasNoTable f)
found_or_not f e at true fails is opens found = inr (has_table f e at (sym opens) found (sym is))
found_or_not f e at false fails is opens found = inr (e, sym opens, at, found, is_none (line_section at) is)

-- by the fault that opening a file is
pub not_opened : (f : List ℕ) (fault : ElfFault) (not_elf : Bool) (fails : Error → Type 0)
    → MatchBool not_elf (fault ≡ NotElf) (fault ≡ NotElf → ⊥) → Answers {A = Elf} (opened f) (Err fault)
    → IfRead {A = Elf} fails (Err fault) → MatchBool not_elf (HasNoTable f) (MayFail fails ⊎ ¬ HasNoTable f)
not_opened f fault true fails is answer read = inl (sym (subst (λ x. Answers {A = Elf} (opened f) (Err x)) is answer))
not_opened f (Read error) false fails other answer read = inl (error, read)
not_opened f fault false fails other answer read = inr (other_fault f fault (sym answer) other)
