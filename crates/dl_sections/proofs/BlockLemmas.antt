-- Blocks of a section, one after the other.
use Rattle.std.proofs.Common.{◌≡◌, ◌≤◌, ℕ, ◌+◌, List, [], ◌∷◌, ◌++◌, length, map, None, arith, refl}
use Rattle.std.proofs.Common.{ap, append_assoc, append-nil, length-append, add-zero, zero-add}
use Rattle.std.specs.List.{AllByRecursion, concat}
use Rattle.std.proofs.lemmas.Grind.{flat_map-append}
use Rattle.dl_head.specs.declared.dialect.Dialect.{Dialect}
use Rattle.dl_table.specs.declared.fault.FaultKind.{FaultKind}
use Rattle.dl_rows.specs.LineUnit.{IsUnit}
use Rattle.dl_rows.specs.Refusal.{Refused}
use Rattle.dl_sections.specs.Around.{Block, whole, damaged, block_bytes, IsBlock, bytes_of, whole_unit, units_around, faults_in}
use Rattle.dl_sections.specs.Around.{block_visits, blocks_visits, begun, visits_around}
use Rattle.dl_sections.specs.Section.{of_damage, units_visits, visits}
use Rattle.dl_sections.specs.UnitsRead.{Before, visits_since}
use Rattle.dl_sections.specs.Visiting.{header_told}
use Rattle.dl_sections.proofs.Fronts.{none_is_some}
use Rattle.dl_sections.proofs.HeadersTold.{header_told-append, none_at_end}
use Rattle.dl_sections.proofs.UnitsLemmas.{all_both}

-- ---- lists of blocks

pub faults_in-append : (n : ℕ) (a b : List Block)
    → faults_in n (a ++ b) ≡ faults_in n a ++ faults_in (n + length (bytes_of a)) b
faults_in-append n [] b = rw add-zero refl
faults_in-append n (whole u ∷ a) b =
    rw (
      faults_in-append (n + length u) a b,
      (let e : n + length u + length (bytes_of a) ≡ n + length (u ++ bytes_of a) =
          omega (arith, length-append u (bytes_of a)) in e),
    ) refl
faults_in-append n (damaged front back at kind ∷ a) b =
    rw (
      faults_in-append (n + length (front ++ back)) a b,
      (let e : n + length (front ++ back) + length (bytes_of a) ≡ n + length ((front ++ back) ++ bytes_of a) =
          omega (arith, length-append (front ++ back) (bytes_of a)) in e),
    ) refl

pub blocks_visits-append : (dialect : Dialect) (n : ℕ) (a b : List Block)
    → blocks_visits dialect n (a ++ b) ≡ blocks_visits dialect n a ++ blocks_visits dialect (n + length (bytes_of a)) b
blocks_visits-append dialect n [] b = rw add-zero refl
blocks_visits-append dialect n (block ∷ a) b =
    rw (
      blocks_visits-append dialect (n + length (block_bytes block)) a b,
      (let e : n + length (block_bytes block) + length (bytes_of a) ≡ n + length (block_bytes block ++ bytes_of a) =
          omega (arith, length-append (block_bytes block) (bytes_of a)) in e),
      append_assoc,
    ) refl

-- ---- units are blocks

pub bytes_of_units : (units : List (List ℕ)) → bytes_of (map whole units) ≡ concat units
bytes_of_units [] = refl
bytes_of_units (u ∷ units) = ap (λ (l : List ℕ). u ++ l) (bytes_of_units units)

pub units_of_units : (units : List (List ℕ)) → units_around (map whole units) ≡ units
units_of_units [] = refl
units_of_units (u ∷ units) = ap (λ (l : List (List ℕ)). u ∷ l) (units_of_units units)

pub no_faults : (n : ℕ) (units : List (List ℕ)) → faults_in n (map whole units) ≡ []
no_faults n [] = refl
no_faults n (u ∷ units) = no_faults (n + length u) units

pub visits_of_units : (dialect : Dialect) (n : ℕ) (units : List (List ℕ))
    → blocks_visits dialect n (map whole units) ≡ units_visits dialect n units
visits_of_units dialect n [] = refl
visits_of_units dialect n (u ∷ units) = rw (visits_of_units dialect (n + length u) units) refl

pub all_whole : (dialect : Dialect) (units : List (List ℕ)) → AllByRecursion (IsUnit dialect) units
    → AllByRecursion (IsBlock dialect) (map whole units)
all_whole dialect [] all = all
all_whole dialect (u ∷ units) all = (all.0, all_whole dialect units all.1)

-- ---- what was read before

-- a byte at least decides a fault
pub some_byte : (dialect : Dialect) (front : List ℕ) (at : ℕ) (kind : FaultKind) → Refused dialect front at kind
    → 1 ≤ length front
some_byte dialect [] at kind refused = absurd (none_is_some refused.decided)
some_byte dialect (x ∷ front) at kind refused = omega arith

pub few_faults : (dialect : Dialect) (n : ℕ) (blocks : List Block) → AllByRecursion (IsBlock dialect) blocks
    → length (faults_in n blocks) ≤ length (bytes_of blocks)
few_faults dialect n [] all = omega arith
few_faults dialect n (whole u ∷ blocks) all =
    omega (arith, few_faults dialect (n + length u) blocks all.1, length-append u (bytes_of blocks))
few_faults dialect n (damaged front back at kind ∷ blocks) all =
    omega (
      arith,
      few_faults dialect (n + length (front ++ back)) blocks all.1,
      some_byte dialect front at kind all.0.0,
      length-append front back,
      length-append (front ++ back) (bytes_of blocks),
    )

module _ (dialect : Dialect) where
  pub each_unit : (blocks : List Block) → AllByRecursion (IsBlock dialect) blocks
      → AllByRecursion (IsUnit dialect) (units_around blocks)
  each_unit [] all = all
  each_unit (whole u ∷ blocks) all = (all.0, each_unit blocks all.1)
  each_unit (damaged front back at kind ∷ blocks) all = each_unit blocks all.1

  pub few_whole : (blocks : List Block) → length (concat (units_around blocks)) ≤ length (bytes_of blocks)
  few_whole [] = omega arith
  few_whole (whole u ∷ blocks) =
      omega (
        arith,
        few_whole blocks,
        length-append u (concat (units_around blocks)),
        length-append u (bytes_of blocks),
      )
  few_whole (damaged front back at kind ∷ blocks) =
      omega (arith, few_whole blocks, length-append (front ++ back) (bytes_of blocks))

  none_in_block : (n : ℕ) (block : Block) → header_told None (block_visits dialect n block) ≡ None
  none_in_block n (whole u) = none_at_end dialect n u
  none_in_block n (damaged front back at kind) =
      header_told-append None (visits dialect n front) (of_damage n (n + at) kind ∷ [])

  pub none_in_blocks : (n : ℕ) (blocks : List Block) → header_told None (blocks_visits dialect n blocks) ≡ None
  none_in_blocks n [] = refl
  none_in_blocks n (block ∷ blocks) =
      let m = n + length (block_bytes block) in
      rw (header_told-append None (block_visits dialect n block) (blocks_visits dialect m blocks), none_in_block n block)
      (none_in_blocks m blocks)

  -- the blocks, as what was read before a run of units
  abbrev pub past_of : (blocks : List Block) → AllByRecursion (IsBlock dialect) blocks → Before dialect
  past_of blocks all = record {
    bytes = bytes_of blocks;
    units = units_around blocks;
    visits = blocks_visits dialect 0 blocks;
    each = each_unit blocks all;
    fits = few_whole blocks;
    closed = none_in_blocks 0 blocks;
  }

  -- ---- units after blocks

  abbrev pub with_units : List Block → List (List ℕ) → List Block
  with_units blocks units = blocks ++ map whole units

  pub bytes_with : (blocks : List Block) (units : List (List ℕ))
      → bytes_of (with_units blocks units) ≡ bytes_of blocks ++ concat units
  bytes_with blocks units = rw (flat_map-append block_bytes blocks (map whole units), bytes_of_units units) refl

  pub units_with : (blocks : List Block) (units : List (List ℕ))
      → units_around (with_units blocks units) ≡ units_around blocks ++ units
  units_with blocks units = rw (flat_map-append whole_unit blocks (map whole units), units_of_units units) refl

  pub faults_with : (n : ℕ) (blocks : List Block) (units : List (List ℕ))
      → faults_in n (with_units blocks units) ≡ faults_in n blocks
  faults_with n blocks units =
      rw (faults_in-append n blocks (map whole units), no_faults (n + length (bytes_of blocks)) units, append-nil) refl

  pub all_with : (blocks : List Block) (units : List (List ℕ)) → AllByRecursion (IsBlock dialect) blocks
      → AllByRecursion (IsUnit dialect) units → AllByRecursion (IsBlock dialect) (with_units blocks units)
  all_with blocks units all each = all_both (IsBlock dialect) blocks (map whole units) all (all_whole dialect units each)

  pub visits_with : (blocks : List Block) (all : AllByRecursion (IsBlock dialect) blocks) (units : List (List ℕ))
      (b : List ℕ) → visits_since (past_of blocks all) units b ≡ visits_around dialect (with_units blocks units) (begun b)
  visits_with blocks all units b =
      rw (
        blocks_visits-append dialect 0 blocks (map whole units),
        zero-add (length (bytes_of blocks)),
        visits_of_units dialect (length (bytes_of blocks)) units,
        bytes_with blocks units,
        append_assoc,
      ) refl
