-- Which sequence is the first that covers a place.
use Rattle.std.proofs.Common.{◌≡◌, ◌∙◌, ℕ, zero, suc, ◌+◌, ◌<◌, true, false, List, [], ◌∷◌, length, take, Option, Some, None}
use Rattle.std.proofs.Common.{refl, ap, arith}
use Rattle.std.specs.Prelude.{if◌then◌else◌, cond, ◌||◌, slice_get}
use Rattle.std.specs.List.{find, list_any}
use Rattle.dl_look.specs.declared.code_ranges.AddressRange.{AddressRange}
use Rattle.dl_look.specs.declared.place.Place.{Place}
use Rattle.dl_look.specs.Cuts.{first_from}
use Rattle.dl_sequence_rules.specs.declared.ended.Ended.{Ended}
use Rattle.dl_sequence_rules.specs.Alone.{ended_at}
use Rattle.dl_sequence_rules.specs.Covering.{covers_place, touches}
use Rattle.dl_sequence_rules.specs.Cutting.{one_touches, owner_touches, spans_of}

-- the sequence of this number is the first that covers x
pub record Owned (sequences : List Ended) (x : Place) (j : ℕ) : Type 0 where
  pub within : j < length sequences
  pub covers : covers_place x (ended_at sequences j) ≡ true
  pub before : (i : ℕ) → i < j → covers_place x (ended_at sequences i) ≡ false

before_cons : (s : Ended) (sequences : List Ended) (x : Place) (j : ℕ) → covers_place x s ≡ false
    → ((i : ℕ) → i < j → covers_place x (ended_at sequences i) ≡ false) → (i : ℕ) → i < suc j
    → covers_place x (ended_at (s ∷ sequences) i) ≡ false
before_cons s sequences x j none rest zero lt = none
before_cons s sequences x j none rest (suc i) lt = rest i (omega arith)

pub owned : (n m : ℕ) (sequences : List Ended) (x : Place) → first_from n (spans_of sequences) x ≡ Some m
    → (j : ℕ) × (m ≡ n + j) × Owned sequences x j
owned n m [] x is = cc
owned n m (s ∷ sequences) x is =
    elim (covers_place x s) as (λ b. covers_place x s ≡ b
    → (if b then Some n else first_from (suc n) (spans_of sequences) x) ≡ Some m
    → (j : ℕ) × (m ≡ n + j) × Owned (s ∷ sequences) x j) [
      | true ↦ λ e is. (
        0,
        (let z : n ≡ m = cc in omega arith),
        record { within = omega arith; covers = e; before = λ i lt. absurd (omega arith) },
      )
      | false ↦ λ e is. (let rest = owned (suc n) m sequences x is in let own = rest.2 in (
        suc rest.0,
        (let z = rest.1 in omega arith),
        record {
          within = (let w = own.within in omega arith);
          covers = own.covers;
          before = before_cons s sequences x rest.0 e own.before;
        },
      ))
    ] refl is

pub none_owns : (n : ℕ) (sequences : List Ended) (x : Place) → first_from n (spans_of sequences) x ≡ None → (i : ℕ)
    → i < length sequences → covers_place x (ended_at sequences i) ≡ false
none_owns n [] x is i lt = absurd (omega arith)
none_owns n (s ∷ sequences) x is zero lt =
    elim (covers_place x s) as (λ b. (if b then Some n else first_from (suc n) (spans_of sequences) x) ≡ None → b ≡ false) [
      | true ↦ λ is. cc
      | false ↦ λ is. refl
    ] is
none_owns n (s ∷ sequences) x is (suc i) lt =
    elim (covers_place x s) as (λ b. (if b then Some n else first_from (suc n) (spans_of sequences) x) ≡ None
    → covers_place x (ended_at sequences i) ≡ false) [
      | true ↦ λ is. cc
      | false ↦ λ is. none_owns (suc n) sequences x is i (omega arith)
    ] is

-- of the sequences before one, it is the first that covers x
pub found_first : (sequences : List Ended) (x : Place) (j at : ℕ) → Owned sequences x j → j < at
    → find (covers_place x) (take at sequences) ≡ Some (ended_at sequences j)
found_first [] x j at own lt = absurd (let w = own.within in omega arith)
found_first (s ∷ sequences) x j zero own lt = absurd (omega arith)
found_first (s ∷ sequences) x zero (suc at) own lt =
    ap (λ b. cond b (Some s) (find (covers_place x) (take at sequences))) own.covers
found_first (s ∷ sequences) x (suc j) (suc at) own lt =
    ap (λ b. cond b (Some s) (find (covers_place x) (take at sequences))) (own.before 0 (omega arith))
    ∙ found_first sequences x j at (record {
      within = (let w = own.within in omega arith);
      covers = own.covers;
      before = λ i less. own.before (suc i) (omega arith);
    }) (omega arith)

pub any_before : (sequences : List Ended) (x : Place) (i at : ℕ) → i < at → i < length sequences
    → covers_place x (ended_at sequences i) ≡ true → list_any (covers_place x) (take at sequences) ≡ true
any_before [] x i at lt within covers = absurd (omega arith)
any_before (s ∷ sequences) x i zero lt within covers = absurd (omega arith)
any_before (s ∷ sequences) x zero (suc at) lt within covers =
    ap (λ b. b || list_any (covers_place x) (take at sequences)) covers
any_before (s ∷ sequences) x (suc i) (suc at) lt within covers =
    let rest = any_before sequences x i at (omega arith) (omega arith) covers in
    elim (covers_place x s) as (λ b. (b || list_any (covers_place x) (take at sequences)) ≡ true) [ true ↦ refl | false ↦ rest ]

pub one_before : (sequences : List Ended) (x : Place) (at : ℕ) → list_any (covers_place x) (take at sequences) ≡ true
    → (i : ℕ) × (i < at) × (i < length sequences) × (covers_place x (ended_at sequences i) ≡ true)
one_before [] x zero any = cc
one_before [] x (suc at) any = cc
one_before (s ∷ sequences) x zero any = cc
one_before (s ∷ sequences) x (suc at) any =
    elim (covers_place x s) as (λ b. covers_place x s ≡ b → (b || list_any (covers_place x) (take at sequences)) ≡ true
    → (i : ℕ) × (i < suc at) × (i < length (s ∷ sequences)) × (covers_place x (ended_at (s ∷ sequences) i) ≡ true)) [
      | true ↦ λ e any. (0, omega arith, omega arith, e)
      | false ↦ λ e any. (let rest = one_before sequences x at any in
          (suc rest.0, (let w = rest.1 in omega arith), (let w = rest.2 in omega arith), rest.3))
    ] refl any

-- ---- ranges that the owner of a cut touches

any_at : (r : AddressRange) (sequences : List Ended) (j : ℕ) → one_touches r (slice_get sequences j) ≡ true
    → list_any (touches r) sequences ≡ true
any_at r [] j is = cc
any_at r (s ∷ sequences) zero is = ap (λ b. b || list_any (touches r) sequences) is
any_at r (s ∷ sequences) (suc j) is =
    let rest = any_at r sequences j is in
    elim (touches r s) as (λ b. (b || list_any (touches r) sequences) ≡ true) [ true ↦ refl | false ↦ rest ]

pub any_of_owner : (r : AddressRange) (sequences : List Ended) (owner : Option ℕ)
    → owner_touches sequences r owner ≡ true → list_any (touches r) sequences ≡ true
any_of_owner r sequences None is = cc
any_of_owner r sequences (Some j) is = any_at r sequences j is
