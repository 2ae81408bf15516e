-- The values of symbols, of a table in parts.
use Rattle.std.proofs.Common.{◌≡◌, ℕ, zero, suc, ◌+◌, ◌*◌, ◌≤◌, List, [], ◌∷◌, ◌++◌, length, arith, ap, ◌∙◌, refl, sym}
use Rattle.std.proofs.Common.{append-nil, append_assoc}
use Rattle.std.proofs.Math.Nat.{add-mul}
use Rattle.dl_num.specs.declared.fixed.Order.{Order}
use Rattle.dl_reloc.specs.declared.target.Class.{Class}
use Rattle.dl_reloc.specs.declared.target.Class.TheVariants.{Bits32, Bits64}
use Rattle.dl_reloc.specs.Entries.{AreWholeSymbols, count, item, symbol_size, symbol_values, value_in, values_upto}
use Rattle.dl_reloc.proofs.TableLemmas.{back_item, count_parts, count_whole, front_item}

some : (class : Class) → 1 ≤ symbol_size class
some Bits32 = omega arith
some Bits64 = omega arith

-- those of the first symbols do not depend on what follows
front_values : (class : Class) (order : Order) (xs ys : List ℕ) (n : ℕ) → n * symbol_size class ≤ length xs
    → values_upto class order (xs ++ ys) n ≡ values_upto class order xs n
front_values class order xs ys zero within = refl
front_values class order xs ys (suc n) within =
    let size = symbol_size class in
    let less : n * size + size ≤ length xs = omega (arith, add-mul n 1 size, within) in
    ap (λ e. values_upto class order (xs ++ ys) n ++ value_in class order e ∷ []) (front_item size n xs ys less)
    ∙ ap (λ vs. vs ++ value_in class order (item size n xs) ∷ []) (front_values class order xs ys n (omega (arith, less)))

-- and then come those of the second part
back_values : (class : Class) (order : Order) (xs ys : List ℕ) (m n k : ℕ) → k ≡ n + m
    → length xs ≡ m * symbol_size class
    → values_upto class order (xs ++ ys) k ≡ values_upto class order xs m ++ values_upto class order ys n
back_values class order xs ys m zero k sum whole =
    let none : k ≡ m = omega (arith, sum) in
    ap (values_upto class order (xs ++ ys)) none
    ∙ (front_values class order xs ys m (omega (arith, whole)) ∙ sym (append-nil (values_upto class order xs m)))
back_values class order xs ys m (suc n) k sum whole =
    let size = symbol_size class in
    let one : k ≡ suc (n + m) = omega (arith, sum) in
    let last = value_in class order (item size n ys) ∷ [] in
    ap (values_upto class order (xs ++ ys)) one
    ∙ (ap (λ e. values_upto class order (xs ++ ys) (n + m) ++ value_in class order e ∷ [])
    (back_item size m n xs ys whole)
    ∙ (ap (λ vs. vs ++ last) (back_values class order xs ys m n (n + m) refl whole)
    ∙ append_assoc (values_upto class order xs m) (values_upto class order ys n) last))

pub parts_values : (class : Class) (order : Order) (xs ys : List ℕ) → AreWholeSymbols class xs
    → symbol_values class order (xs ++ ys) ≡ symbol_values class order xs ++ symbol_values class order ys
parts_values class order xs ys whole =
    let size = symbol_size class in
    let m = whole.0 in
    let first = count_whole size m xs (some class) whole.1 in
    back_values class order xs ys m (count size ys) (count size (xs ++ ys))
    (count_parts size m xs ys (some class) whole.1) whole.1
    ∙ ap (λ k. values_upto class order xs k ++ symbol_values class order ys) (sym first)
