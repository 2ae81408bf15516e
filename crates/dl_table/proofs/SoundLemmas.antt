-- Tables and headers that can be made, one entry at a time.
use Rattle.std.proofs.Common.{◌≡◌, ℕ, ◌/◌, ◌^◌, ◌<◌, ◌≤◌, List, [], ◌∷◌, ◌++◌, length, map, Option, None, refl, sym, ap}
use Rattle.std.proofs.Common.{subst, arith}
use Rattle.std.specs.List.{AllByRecursion, AllByRecursion-prop}
use Rattle.std.proofs.Props.{props}
use Rattle.dl_table.specs.declared.form.Format.{Format}
use Rattle.dl_table.specs.declared.table.Pair.{Pair}
use Rattle.dl_table.specs.declared.table.held.StoredValue.{StoredValue}
use Rattle.dl_table.specs.TableData.{TableData}
use Rattle.dl_table.specs.Value.{Value}
use Rattle.dl_table.specs.Built.{wrong_value, entry_fault, entry_fault_of}
use Rattle.dl_table.specs.Held.{table_of, value_held, IsWhole}
use Rattle.dl_table.specs.Sound.{AreContents, IsSoundTable}
use Rattle.dl_table.proofs.HeldLemmas.{length-rows}
use Rattle.dl_table.proofs.RowLemmas.{table_of-push}

pub all_push : {A : Type 0} (P : A → Type 0) (xs : List A) (x : A) → AllByRecursion P xs → P x
    → AllByRecursion P (xs ++ x ∷ [])
all_push P [] x all p = (p, tt)
all_push P (y ∷ xs) x all p = (all.0, all_push P xs x all.1 p)

pub right_entry : (pairs : List Pair) (o : Option ℕ) → (pairs ≡ [] → ⊥) → o ≡ None → entry_fault_of pairs o ≡ None
right_entry [] o some e = absurd (some refl)
right_entry (p ∷ pairs) o some e = rw e refl

-- there are no more entries than values
pub few_entries : (format : Format) (pairs : List Pair) (values : List StoredValue) (pool : List ℕ)
    → length (table_of format pairs values pool).entries ≤ length values
few_entries format pairs values pool =
    omega (arith, length-rows (length values / length pairs) (length pairs) (map (value_held pool) values))

-- a table without entries
pub sound_empty : (format : Format) (pairs : List Pair) (values : List StoredValue) (pool : List ℕ) → AreContents pairs
    → values ≡ [] → IsSoundTable (table_of format pairs values pool)
sound_empty format pairs values pool contents none =
    let no_rows : 0 / length pairs ≡ 0 = omega arith in
    subst (λ (v : List StoredValue). IsSoundTable (table_of format pairs v pool)) (sym none)
    (record { contents = contents; entries = rw no_rows tt; count = rw no_rows (omega arith) })

-- an entry more
pub sound_push : (format : Format) (pairs : List Pair) (values v : List StoredValue) (pool p : List ℕ)
    (new : List Value) → 0 < length pairs → IsWhole (length values) (length pairs) → length new ≡ length pairs
    → map (value_held p) v ≡ map (value_held pool) values ++ new → length v < 2 ^ 64
    → wrong_value format 0 pairs new ≡ None → IsSoundTable (table_of format pairs values pool)
    → IsSoundTable (table_of format pairs v p)
sound_push format pairs values v pool p new some whole each is small right sound =
    let t = table_of format pairs values pool in
    let grown = table_of-push format pairs values v pool p new some whole each is in
    let none : pairs ≡ [] → ⊥ = (λ e. let size = ap length e in omega arith) in
    let entry : entry_fault t new ≡ None = right_entry pairs (wrong_value format 0 pairs new) none right in
    let few : length (t.entries ++ new ∷ []) < 2 ^ 64 =
    omega (arith, few_entries format pairs v p, ap (λ (d : TableData). length d.entries) grown) in
    subst IsSoundTable (sym grown)
    (record {
      contents = sound.contents;
      entries = all_push (λ (values : List Value). entry_fault t values ≡ None)
          t.entries new sound.entries entry;
      count = few;
    })

-- a table is sound in one way
pub sound_prop : (t : TableData) → IsProp (IsSoundTable t)
sound_prop t =
    let contents = AllByRecursion-prop (λ (p : Pair). p.content < 2 ^ 64) (λ p. hlevel props) t.pairs in
    let entries = AllByRecursion-prop (λ (values : List Value). entry_fault t values ≡ None) (λ values. hlevel props)
    t.entries in
    hlevel (props, contents, entries)
