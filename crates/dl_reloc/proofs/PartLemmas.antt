-- Entries that follow others: each stands in all of them as it does in its part.
use Rattle.std.proofs.Common.{◌≡◌, ℕ, zero, suc, ◌+◌, ◌*◌, ◌≤◌, List, ◌++◌, length, Ok, Err}
use Rattle.std.proofs.Common.{arith, ap, ◌∙◌, refl, sym, length-append}
use Rattle.std.proofs.lemmas.Nat.{le-div}
use Rattle.std.proofs.Math.Nat.{add-mul, div-mul-le_self}
use Rattle.dl_reloc.specs.declared.target.Class.{Class}
use Rattle.dl_reloc.specs.declared.target.Class.TheVariants.{Bits32, Bits64}
use Rattle.dl_reloc.specs.declared.target.AddendPlace.{AddendPlace}
use Rattle.dl_reloc.specs.declared.target.AddendPlace.TheVariants.{Rela, Rel}
use Rattle.dl_reloc.specs.declared.target.Target.{Target}
use Rattle.dl_reloc.specs.declared.apply.RelocationFault.{RelocationFault}
use Rattle.dl_reloc.specs.Entries.{count, entry_size, entry_in}
use Rattle.dl_reloc.specs.Relocated.{applied, and_then, entry_at, applied_upto, relocated, AreWhole}
use Rattle.dl_reloc.proofs.AppliedLemmas.{fault_stays}
use Rattle.dl_reloc.proofs.TableLemmas.{back_item, count_parts, count_whole, front_item}

some : (class : Class) (form : AddendPlace) → 1 ≤ entry_size class form
some Bits32 Rel = omega arith
some Bits32 Rela = omega arith
some Bits64 Rel = omega arith
some Bits64 Rela = omega arith

-- ---- entries

-- what the first entries make does not depend on those after them
front_applied : (t : Target) (form : AddendPlace) (xs ys symbols : List ℕ) (n : ℕ) (b : List ℕ)
    → n * entry_size t.class form ≤ length xs
    → applied_upto t form (xs ++ ys) symbols n b ≡ applied_upto t form xs symbols n b
front_applied t form xs ys symbols zero b within = refl
front_applied t form xs ys symbols (suc n) b within =
    let size = entry_size t.class form in
    let less : n * size + size ≤ length xs = omega (arith, add-mul n 1 size, within) in
    ap (λ e. and_then (applied t symbols (entry_in t form e))
    (applied_upto t form (xs ++ ys) symbols n b)) (front_item size n xs ys less)
    ∙ ap (and_then (applied t symbols (entry_at t form xs n)))
    (front_applied t form xs ys symbols n b (omega (arith, less)))

-- what the entries after the first m make of what these made
back_applied : (t : Target) (form : AddendPlace) (xs ys symbols : List ℕ) (m n k : ℕ) (b made : List ℕ) → k ≡ n + m
    → length xs ≡ m * entry_size t.class form → applied_upto t form xs symbols m b ≡ Ok made
    → applied_upto t form (xs ++ ys) symbols k b ≡ applied_upto t form ys symbols n made
back_applied t form xs ys symbols m zero k b made sum whole so_far =
    let none : k ≡ m = omega (arith, sum) in
    ap (λ i. applied_upto t form (xs ++ ys) symbols i b) none
    ∙ (front_applied t form xs ys symbols m b (omega (arith, whole)) ∙ so_far)
back_applied t form xs ys symbols m (suc n) k b made sum whole so_far =
    let size = entry_size t.class form in
    let one : k ≡ suc (n + m) = omega (arith, sum) in
    ap (λ i. applied_upto t form (xs ++ ys) symbols i b) one
    ∙ (ap (λ e. and_then (applied t symbols (entry_in t form e))
    (applied_upto t form (xs ++ ys) symbols (n + m) b)) (back_item size m n xs ys whole)
    ∙ ap (and_then (applied t symbols (entry_at t form ys n)))
    (back_applied t form xs ys symbols m n (n + m) b made refl whole so_far))

-- all entries of both parts
pub parts_relocated : (t : Target) (form : AddendPlace) (xs ys symbols b made : List ℕ) → AreWhole t form xs
    → relocated t form xs symbols b ≡ Ok made
    → relocated t form (xs ++ ys) symbols b ≡ relocated t form ys symbols made
parts_relocated t form xs ys symbols b made whole is =
    let size = entry_size t.class form in
    let m = whole.0 in
    let first = count_whole size m xs (some t.class form) whole.1 in
    back_applied t form xs ys symbols m (count size ys) (count size (xs ++ ys)) b made
    (count_parts size m xs ys (some t.class form) whole.1) whole.1
    (sym (ap (λ k. applied_upto t form xs symbols k b) first) ∙ is)

-- a fault of the first part, whatever follows
pub part_fault : (t : Target) (form : AddendPlace) (xs ys symbols b : List ℕ) (fault : RelocationFault)
    → relocated t form xs symbols b ≡ Err fault → relocated t form (xs ++ ys) symbols b ≡ Err fault
part_fault t form xs ys symbols b fault is =
    let size = entry_size t.class form in
    let longer : length xs ≤ length (xs ++ ys) = omega (arith, length-append xs ys) in
    fault_stays t form (xs ++ ys) symbols (count size (xs ++ ys)) (count size xs) b fault
    (le-div (count size xs) (length (xs ++ ys)) size (some t.class form)
    (omega (arith, longer, div-mul-le_self (length xs) size)))
    (front_applied t form xs ys symbols (count size xs) b (div-mul-le_self (length xs) size) ∙ is)
