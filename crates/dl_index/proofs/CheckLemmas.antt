-- What the pass over the columns and tables of an index finds.
use Rattle.std.proofs.Common.{◌≡◌, ℕ, zero, suc, ◌+◌, ◌-◌, ◌*◌, ◌^◌, ◌<◌, ◌≤◌, Bool, true, false, nat_le, max, List, MatchBool, Decides, refl, sym, subst, ◌∙◌, arith, ⊎_elim}
use Rattle.std.proofs.lemmas.Bool.{false≢true}
use Rattle.std.proofs.lemmas.Bool.Decides.{nat_tests}
use Rattle.std.proofs.lemmas.Bool.{cases_eq}
use Rattle.dl_index.specs.Checked.{NamesTexts}
use Rattle.dl_index.specs.Layout.{field, part, files_in, texts_in, count_in, start_in, base_in}
use Rattle.dl_index.specs.LookUp.{Rise}
use Rattle.dl_index.specs.IsIndex.{IsOrdered, TextsAreThere, IsIndex, HasFault}
use Rattle.dl_index.specs.declared.fault.IndexFault.{IndexFault}
use Rattle.dl_index.specs.declared.fault.IndexFault.TheVariants.{NotAnIndex, Version, Damaged}
use Rattle.dl_index.specs.declared.fault.IndexPart.TheVariants.{Length, Place, Sum, Order, File, Text}

-- one more start, which is above the last one
pub rise_more : (start : ℕ → ℕ) (k : ℕ) → 0 < k → Rise start k → start (k - 1) < start k → Rise start (k + 1)
rise_more start k some rise above j i less within =
    ⊎_elim
    (λ same.
    subst
    (λ n. start j < start n)
    (let e : k ≡ i = same in e)
    (⊎_elim
    (λ here. subst (λ n. start n < start k) (let e : k - 1 ≡ j = here in e) above)
    (λ ne. (let r = rise j (k - 1) (omega arith) (omega arith) in omega arith))
    (cases_eq (k - 1) j)))
    (λ ne. rise j i less (omega arith))
    (cases_eq k i)

-- the number at a place is not above a count
pub read_at : (table : List ℕ) (n p q count : ℕ) → n ≡ field p 4 table → p ≡ q → n ≤ count → field q 4 table ≤ count
read_at table n p q count read same below =
    subst (λ i. field i 4 table ≤ count) same (subst (λ m. m ≤ count) read below)

read_at' : (table : List ℕ) (n p q count : ℕ) → n ≡ field p 4 table → p ≡ q → field q 4 table ≤ count → n ≤ count
read_at' table n p q count read same below =
    subst (λ m. m ≤ count) (sym read) (subst (λ i. field i 4 table ≤ count) (sym same) below)

pub three_texts : (table : List ℕ) (count f first second third : ℕ) → first ≡ field (f * 24 + 8) 4 table
    → second ≡ field (f * 24 + 12) 4 table → third ≡ field (f * 24 + 16) 4 table → first ≤ count → second ≤ count
    → third ≤ count → NamesTexts table count f
three_texts table count f first second third a b c p q r zero small =
    read_at table first (f * 24 + 8) (f * 24 + 8 + 0) count a (omega arith) p
three_texts table count f first second third a b c p q r (suc zero) small =
    read_at table second (f * 24 + 12) (f * 24 + 8 + 4) count b (omega arith) q
three_texts table count f first second third a b c p q r (suc (suc zero)) small =
    read_at table third (f * 24 + 16) (f * 24 + 8 + 8) count c (omega arith) r
three_texts table count f first second third a b c p q r (suc (suc (suc i))) small = absurd (omega arith)

pub judged : (r : Bool) (Q P : Type 0) → Decides r Q → (Q → P) → (P → Q) → MatchBool r P (¬ P)
judged true Q P d to from = to (d.0 refl)
judged false Q P d to from = λ p. false≢true (d.1 (from p))

pub Decides-le : (m n : ℕ) → Decides (nat_le m n) (m ≤ n)
Decides-le m n = (λ t. grind (arith, nat_tests), λ h. grind (arith, nat_tests))

pub names_by : (table : List ℕ) (count f first second third n : ℕ) → first ≡ field (f * 24 + 8) 4 table
    → second ≡ field (f * 24 + 12) 4 table → third ≡ field (f * 24 + 16) 4 table
    → n ≡ max (max first second) third → MatchBool (nat_le n count) (NamesTexts table count f) (¬ (NamesTexts table count f))
names_by table count f first second third n a b c greatest =
    judged
    (nat_le n count)
    (n ≤ count)
    (NamesTexts table count f)
    (Decides-le n count)
    (λ below.
    three_texts table count f first second third a b c (omega arith) (omega arith) (omega arith))
    (λ names.
    (let p = read_at' table first (f * 24 + 8) (f * 24 + 8 + 0) count a (omega arith) (names 0 (omega arith)) in
    let q = read_at' table second (f * 24 + 12) (f * 24 + 8 + 4) count b (omega arith) (names 1 (omega arith)) in
    let r = read_at' table third (f * 24 + 16) (f * 24 + 8 + 8) count c (omega arith) (names 2 (omega arith)) in
    omega arith))

pub all_texts : (b table : List ℕ) (count : ℕ) → table ≡ part b 6 → count ≡ texts_in b
    → ((f : ℕ) → f < files_in b → NamesTexts table count f) → TextsAreThere b
all_texts b table count is counts names f i less small =
    subst
    (λ t. field (f * 24 + 8 + i * 4) 4 t ≤ texts_in b)
    is
    (subst (λ n. field (f * 24 + 8 + i * 4) 4 table ≤ n) counts (names f less i small))

pub ordered_by : (b : List ℕ) (base n : ℕ) → 0 < count_in b → start_in b 0 ≡ 0 → Rise (start_in b) (count_in b)
    → base ≡ base_in b → base < 2 ^ 64 → n ≡ start_in b (count_in b - 1)
    → MatchBool (nat_le n (2 ^ 64 - 1 - base)) (IsOrdered b) (¬ (IsOrdered b))
ordered_by b base n some first rise is below last =
    judged
    (nat_le n (2 ^ 64 - 1 - base))
    (n ≤ 2 ^ 64 - 1 - base)
    (IsOrdered b)
    (Decides-le n (2 ^ 64 - 1 - base))
    (λ upto.
    record {
      first = λ more. first;
      rise = rise;
      top = λ k within.
          (let to_last : start_in b k ≤ start_in b (count_in b - 1) =
          ⊎_elim
          (λ same. subst (λ i. start_in b k ≤ start_in b i) same (omega arith))
          (λ ne. (let r = rise k (count_in b - 1) (omega arith) (omega arith) in omega arith))
          (cases_eq k (count_in b - 1)) in
          omega arith);
    })
    (λ ordered. (let top = ordered.top (count_in b - 1) (omega arith) in omega arith))

-- no check fails of what is an index
pub no_fault : (b : List ℕ) (fault : IndexFault) → IsIndex b → HasFault b fault → ⊥
no_fault b NotAnIndex is has = has is.headed.whole.header.magic
no_fault b (Version n) is has = has.3 (sym has.2 ∙ is.headed.whole.header.version)
no_fault b (Damaged Length) is has =
    let enough = is.headed.whole.header.len in
    ⊎_elim (λ short. omega arith) (λ other. other.1 is.headed.whole.len) has.1
no_fault b (Damaged Place) is has = has.1 is.headed.placed
no_fault b (Damaged Sum) is has = has.2 (is.headed.sum, is.sum)
no_fault b (Damaged Order) is has = has.2 is.ordered
no_fault b (Damaged File) is has = has.3 is.files
no_fault b (Damaged Text) is has = has.4 is.texts
