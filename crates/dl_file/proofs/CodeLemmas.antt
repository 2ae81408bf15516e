-- The addresses of code, one section further on.
use Rattle.std.proofs.Common.{◌≡◌, ℕ, suc, ◌+◌, ◌-◌, ◌≤◌, List, [], ◌∷◌, ◌++◌, Option, Some, None, Err, arith, ap, ◌∙◌, length, length-append}
use Rattle.dl_elf.specs.declared.file.Elf.{Elf}
use Rattle.dl_file.specs.declared.code.ExecutableRange.{ExecutableRange}
use Rattle.dl_file.specs.declared.code.CodeFault.{CodeFault}
use Rattle.dl_file.specs.declared.code.CodeFault.TheVariants.{NoMemory}
use Rattle.dl_file.specs.Code.{IfCodeRefused, executable_range_at, executable_ranges}
use Rattle.dl_file.specs.OneByOne.{and_range, ranges_upto}
use Rattle.dl_file.proofs.ListedLemmas.{ranges_listed}

ranges_more : (e : Elf) (f : List ℕ) (n : ℕ) (ranges : List ExecutableRange) (range : Option ExecutableRange) → 1 ≤ n
    → ranges ≡ ranges_upto e f (n - 1)
    → range ≡ executable_range_at e f n → and_range ranges range ≡ ranges_upto e f (n + 1 - 1)
ranges_more e f n ranges range from is told =
    let back : n ≡ suc (n - 1) = omega (arith, from) in
    let on : suc (n - 1) ≡ n + 1 - 1 = omega (arith, from) in
    ap (λ r. and_range r range) is ∙ (ap (λ r. and_range (ranges_upto e f (n - 1)) r) told
    ∙ (ap (λ i. and_range (ranges_upto e f (n - 1)) (executable_range_at e f i)) back ∙ ap (λ i. ranges_upto e f i) on))

pub ranges_pushed : (e : Elf) (f : List ℕ) (n : ℕ) (ranges : List ExecutableRange) (range : ExecutableRange) → 1 ≤ n
    → ranges ≡ ranges_upto e f (n - 1)
    → Some range ≡ executable_range_at e f n → ranges ++ range ∷ [] ≡ ranges_upto e f (n + 1 - 1)
ranges_pushed e f n ranges range = ranges_more e f n ranges (Some range)

pub ranges_same : (e : Elf) (f : List ℕ) (n : ℕ) (ranges : List ExecutableRange) → 1 ≤ n
    → ranges ≡ ranges_upto e f (n - 1)
    → None ≡ executable_range_at e f n → ranges ≡ ranges_upto e f (n + 1 - 1)
ranges_same e f n ranges = ranges_more e f n ranges None

pub ranges_whole : (e : Elf) (f : List ℕ) (n : ℕ) (ranges : List ExecutableRange) → n - 1 ≤ e.count - 1 → e.count ≤ n
    → ranges ≡ ranges_upto e f (n - 1)
    → ranges ≡ executable_ranges e f
ranges_whole e f n ranges within past is =
    let end : n - 1 ≡ e.count - 1 = omega (arith, within, past) in is ∙ ap (λ i. ranges_upto e f i) end ∙ ranges_listed e f (e.count - 1)

-- ---- how many there may be

pub one_more : (n : ℕ) (before after : List ExecutableRange) (range : ExecutableRange) → 1 ≤ n → length before ≤ n - 1
    → after ≡ before ++ range ∷ [] → length after ≤ n + 1 - 1
one_more n before after range from few is =
    omega (arith, from, few, ap length is, length-append before (range ∷ []))

pub none_more : (n : ℕ) (before after : List ExecutableRange) → 1 ≤ n → length before ≤ n - 1 → after ≡ before
    → length after ≤ n + 1 - 1
none_more n before after from few is = omega (arith, from, few, ap length is)

-- want of memory that is handed on
pub code_refused : (P Q : Type 0) (why : CodeFault) → (P → Q) → IfCodeRefused {A = Unit {0}} P (Err why)
    → IfCodeRefused {A = Unit {0}} Q (Err why)
code_refused P Q NoMemory wider refused = wider refused
code_refused P Q other wider refused = tt
