-- How many places relocations change at most, and for how many memory is refused.
use Rattle.std.proofs.Common.{◌≡◌, ℕ, zero, suc, ◌+◌, ◌*◌, ◌-◌, ◌<◌, ◌≤◌, Bool, true, false, List, [], drop, length, Option, Some, None, Result, Ok, Err}
use Rattle.std.proofs.Common.{arith, refl, sym, ap, subst, ◌∙◌, length-take, length-drop}
use Rattle.std.specs.Prelude.{⊤, OnErr, OnOk, if◌then◌else◌, is_err}
use Rattle.std.proofs.Math.Nat.{add-mul, mul-le-mul_right}
use Rattle.dl_elf.specs.Elf.{is_object, relocates}
use Rattle.dl_elf.specs.Sections.{range_within, section_bytes, section_in, section_range}
use Rattle.dl_elf.specs.declared.fault.ElfFault.{ElfFault}
use Rattle.dl_elf.specs.declared.file.Elf.{Elf}
use Rattle.dl_elf.specs.declared.section.SectionHeader.{SectionHeader}
use Rattle.dl_memory.specs.Refusals.{IsRefused}
use Rattle.dl_memory.specs.declared.memory.NoMemory.{NoMemory}
use Rattle.dl_reloc.specs.declared.placed.Placed.{Placed}
use Rattle.dl_file.specs.OneByOne.{AreFew, GrowsBy, relocations_at, relocations_in, relocations_upto, sum_of}
use Rattle.dl_file.specs.Relocations.{bytes_in, relocations_of}
use Rattle.dl_file.proofs.ListedLemmas.{counted_in_object}

-- a section that lies in the file has no more bytes than that
pub section_most : (s : SectionHeader) (f bytes : List ℕ) → Some bytes ≡ bytes_in f s → length bytes ≤ length f
section_most s f bytes is = by (range_within (section_range s) f) is where
  by : (b : Bool) → Some bytes ≡ (if b then Some (section_bytes s f) else None) → length bytes ≤ length f
  by false is = absurd (cc is)
  by true is =
      let own : bytes ≡ section_bytes s f = cc is in
      let range = section_range s in
      omega (arith, ap length own, length-take range.size (drop range.offset f), length-drop range.offset f)

-- memory was refused for no more
pub refused_most : (refuses : ℕ → Type 0) (few most : ℕ) → few ≤ most → IsRefused refuses few → IsRefused refuses most
refused_most refuses few most le (n, within, refused) = (n, omega (arith, le, within), refused)

-- ---- one section of relocations more

-- what it adds, by its section header
pub grows_one : (number : ℕ) (s : SectionHeader) (each : ℕ) (before after : List Placed) → relocates number s ≡ true
    → length after ≤ length before + each → GrowsBy (relocations_in number (Some s)) each before after
grows_one number s each before after is few = (1, rw is refl, omega (arith, few))

pub grows_at : (e : Elf) (f : List ℕ) (number at : ℕ) (found : Option SectionHeader) (s : SectionHeader)
    (r : Result ⊤ ElfFault) (each : ℕ) (before after : List Placed) → found ≡ Some s → found ≡ section_in e.header f at
    → relocates number s ≡ true → OnOk r (length after ≤ length before + each)
    → OnOk r (GrowsBy (relocations_at e f number at) each before after)
grows_at e f number at found s (Ok u) each before after is own relocated few =
    subst (λ (o : Option SectionHeader). GrowsBy (relocations_in number o) each before after) (sym is ∙ own)
    (grows_one number s each before after relocated few)
grows_at e f number at found s (Err why) each before after is own relocated few = tt

-- so many sections up to one of them are no more than up to a later one
fewer_before : (e : Elf) (f : List ℕ) (number n more k m : ℕ) → relocations_upto e f number n ≡ Some k
    → relocations_upto e f number (more + n) ≡ Some m → k ≤ m
fewer_before e f number n zero k m is all =
    let here : zero + n ≡ n = omega arith in
    let eq : k ≡ m = cc (sym is ∙ (ap (relocations_upto e f number) (sym here) ∙ all)) in omega (arith, eq)
fewer_before e f number n (suc more) k m is all =
    by (λ (b : ℕ) (at : relocations_upto e f number (more + n) ≡ Some b). fewer_before e f number n more k b is at)
    (relocations_upto e f number (more + n)) refl (relocations_at e f number (suc (more + n)))
    (let on : suc (more + n) ≡ suc more + n = omega arith in ap (relocations_upto e f number) on ∙ all)
  where
    by : ((b : ℕ) → relocations_upto e f number (more + n) ≡ Some b → k ≤ b) → (before : Option ℕ)
        → relocations_upto e f number (more + n) ≡ before → (here : Option ℕ) → sum_of before here ≡ Some m → k ≤ m
    by fewer None at here sum = absurd (cc sum)
    by fewer (Some b) at None sum = absurd (cc sum)
    by fewer (Some b) at (Some h) sum = let eq : b + h ≡ m = cc sum in omega (arith, eq, fewer b at)

-- the sections up to one of them, and that one
up_to : (e : Elf) (f : List ℕ) (number at n k : ℕ) → 1 ≤ at → relocations_upto e f number (at - 1) ≡ Some n
    → relocations_at e f number at ≡ Some k → relocations_upto e f number at ≡ Some (n + k)
up_to e f number at n k from before here =
    let back : suc (at - 1) ≡ at = omega (arith, from) in
    ap (relocations_upto e f number) (sym back)
    ∙ (ap (λ (o : Option ℕ). sum_of o (relocations_at e f number (suc (at - 1)))) before
    ∙ ap (λ (o : Option ℕ). sum_of (Some n) o) (ap (relocations_at e f number) back ∙ here))

-- one section more was looked at
pub grows_on : (e : Elf) (f : List ℕ) (number at each : ℕ) (before after : List Placed) → 1 ≤ at
    → GrowsBy (relocations_upto e f number (at - 1)) each [] before → GrowsBy (relocations_at e f number at) each before after
    → GrowsBy (relocations_upto e f number (at + 1 - 1)) each [] after
grows_on e f number at each before after from (n, told, few) (k, here, more) =
    let on : at + 1 - 1 ≡ at = omega arith in (
      n + k,
      ap (relocations_upto e f number) on ∙ up_to e f number at n k from told here,
      omega (arith, few, more, add-mul n k each),
    )

-- memory was refused at a section of relocations, of which there are few
pub refused_here : (refuses : ℕ → Type 0) (e : Elf) (f : List ℕ) (number at each : ℕ) (places : List Placed) → 1 ≤ at
    → at < e.count → AreFew (relocations_upto e f number (e.count - 1))
    → GrowsBy (relocations_upto e f number (at - 1)) each [] places → relocations_at e f number at ≡ Some 1
    → IsRefused refuses (length places + each) → IsRefused refuses (16 * each)
refused_here refuses e f number at each places from less (m, all, most) (n, told, few) here refused =
    let end : e.count - 1 - at + at ≡ e.count - 1 = omega (arith, from, less) in
    let within = fewer_before e f number at (e.count - 1 - at) (n + 1) m (up_to e f number at n 1 from told here)
    (ap (relocations_upto e f number) end ∙ all) in
    let sixteen : (n + 1) * each ≤ 16 * each = mul-le-mul_right each (omega (arith, within, most)) in
    refused_most refuses (length places + each) (16 * each) (omega (arith, few, sixteen, add-mul n 1 each)) refused

-- there are few, where their number is known
pub are_few : (e : Elf) (f : List ℕ) (number n : ℕ) → relocations_of e f number ≡ Some n → ¬ (n ≡ 0) → n ≤ 16
    → AreFew (relocations_upto e f number (e.count - 1))
are_few e f number n told some few = by (is_object e.header) refl where
  by : (object : Bool) → is_object e.header ≡ object → AreFew (relocations_upto e f number (e.count - 1))
  by true object = (n, sym (counted_in_object e f number object) ∙ told, few)
  by false linked =
      let none : Some 0 ≡ Some n = sym (rw linked refl) ∙ told in absurd (some (cc none))

-- ---- the entries of a section of relocations

-- their places were put behind the others
pub few_pushed : (r pushed : Result ⊤ NoMemory) (old new after : List Placed) (entries items f : List ℕ) → pushed ≡ r
    → is_err pushed ≡ false → OnOk r (length new ≤ length old + length entries) → after ≡ new → entries ≡ items
    → length items ≤ length f → length after ≤ length old + length f
few_pushed (Ok u) pushed old new after entries items f is fine few same own all =
    omega (arith, few, ap length same, ap length own, all)
few_pushed (Err e) pushed old new after entries items f is fine few same own all =
    let bad : true ≡ false = sym (ap is_err is) ∙ fine in absurd (cc bad)

-- or memory was refused for them
pub entries_refused : (refuses : ℕ → Type 0) (r pushed : Result ⊤ NoMemory) (old : List Placed) (entries items f : List ℕ)
    (many : ℕ) → pushed ≡ r → is_err pushed ≡ true → OnErr r (IsRefused refuses (length old + many)) → many ≤ length entries
    → entries ≡ items → length items ≤ length f → IsRefused refuses (length old + length f)
entries_refused refuses (Ok u) pushed old entries items f many is failed refused few own all =
    let bad : false ≡ true = sym (ap is_err is) ∙ failed in absurd (cc bad)
entries_refused refuses (Err e) pushed old entries items f many is failed refused few own all =
    refused_most refuses (length old + many) (length old + length f) (omega (arith, few, ap length own, all)) refused
