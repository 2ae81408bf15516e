-- The visits of the blocks of a section, of which one may be the unit.
use Rattle.std.proofs.Common.{◌≡◌, ◌+◌, ◌∙◌, ◌++◌, ◌∷◌, ◌||◌, ◌&&◌, ℕ, List, [], length, map, Bool, true, false, not, Option, Some, None}
use Rattle.std.proofs.Common.{inl, inr, refl, sym, ap, ap₂, append-nil, append_assoc, true≢false, arith, length-append}
use Rattle.std.specs.Prelude.{◌==◌, ◌⊎◌, if◌then◌else◌, is_some, option_map}
use Rattle.std.specs.List.{AllByRecursion, list_any}
use Rattle.std.specs.Option.{option_or}
use Rattle.std.proofs.Math.Bool.{or-true}
use Rattle.std.proofs.lemmas.Bool.{eqb-true}
use Rattle.std.proofs.lemmas.List.{same_from_push}
use Rattle.std.proofs.lemmas.List.Folds.{list_any-append}
use Rattle.dl_field.specs.HeaderData.{HeaderData}
use Rattle.dl_head.specs.declared.dialect.Dialect.{Dialect}
use Rattle.dl_head.specs.Header.{foreign_in, header_in, lengths_in}
use Rattle.dl_head.proofs.HeaderLaws.{header_is_found}
use Rattle.dl_table.specs.declared.fault.FaultKind.{FaultKind}
use Rattle.dl_table.specs.declared.fault.FaultKind.TheVariants.{Truncated}
use Rattle.dl_rows.specs.declared.row.Row.{Row}
use Rattle.dl_rows.specs.Items.{unit_items}
use Rattle.dl_rows.specs.LineUnit.{IsUnit, ends_open, unit_rows}
use Rattle.dl_rows.proofs.ReaderLemmas.{foreign_no_header}
use Rattle.dl_rows.proofs.UnitLengths.{foreign_of}
use Rattle.dl_print.specs.ValueText.{Strings}
use Rattle.dl_sections.specs.declared.around.Damage.{Damage}
use Rattle.dl_sections.specs.declared.around.DamagedUnits.{DamagedUnits}
use Rattle.dl_sections.specs.Around.{Block, whole, damaged, block_bytes, block_visits, blocks_visits, bytes_of, damaged_units}
use Rattle.dl_sections.specs.Around.{IsBlock, Rest, begun, broken, cut_off, rest_faults, rest_visits, visits_around}
use Rattle.dl_sections.specs.Copying.{offset_after}
use Rattle.dl_sections.specs.Section.{Visit, end_visits, header_of, of_damage, of_end, of_header, of_item}
use Rattle.dl_sections.specs.Section.{open_visit, unit_visits, visits}
use Rattle.dl_sections.proofs.BlockLemmas.{blocks_visits-append}
use Rattle.dl_sections.proofs.CopyingVisits as kinds
use Rattle.dl_sections.proofs.CopyingVisits.{foreign_visits, no_visits, one_of, own_visits}
use Rattle.dl_sections.proofs.Fronts.{none_is_some}
use Rattle.dl_sources.specs.declared.question.SourcesQuestion.{SourcesQuestion}
use Rattle.dl_sources.specs.declared.unit_listing.Current.{Current}
use Rattle.dl_sources.specs.declared.unit_listing.Current.TheVariants as now
use Rattle.dl_sources.specs.Listing.{rows_since, told_after}
use Rattle.dl_sources.specs.Sources.{Mention}
use Rattle.dl_sources.specs.SectionTold.{unit_mentions}
use Rattle.dl_sources.specs.UnitCommand.{begins_at, begins_by, block_front, damage_at, first_of, is_whole_at, rest_front}
use Rattle.dl_sources.specs.UnitListing.{begins, begins_in, damage_in, first_damage, is_after, is_other, is_over, known_as, told_in}
use Rattle.dl_sources.proofs.ListingLemmas.{told_after-append}
use Rattle.dl_sources.proofs.ToldLemmas.{told_of_unit}
use Rattle.dl_sources.proofs.UnitVisits.{after-append, after_items, begins_items, damage-append, damage_items, none_told, option_or-none}
use Rattle.dl_sources.proofs.UnitVisits.{or-false, over-append, over_before, over_items, over_later, own_items, told-append}

module _ (dialect : Dialect) (unit : ℕ) where
  -- ---- the visits of a unit, or of the front of one, before its end

  module _ (n : ℕ) (c : List ℕ) where
    abbrev Kinds : Type 0
    Kinds = kinds.Foreign dialect n c ⊎ (kinds.Own dialect n c ⊎ kinds.Neither dialect n c)

    pub over_front : is_over unit now.Other (visits dialect n c) ≡ false
    over_front = by (one_of dialect n c) where
      by : Kinds → is_over unit now.Other (visits dialect n c) ≡ false
      by (inl v) = rw (foreign_visits dialect n c v) refl
      by (inr (inl own)) = rw (own_visits dialect n c own) (over_items unit (known_as unit n now.Own) (unit_items dialect c))
      by (inr (inr none)) = rw (no_visits dialect n c none) refl

    other_front : (n == unit) ≡ false → is_after unit now.Other (visits dialect n c) ≡ now.Other
    other_front is = by (one_of dialect n c) where
      by : Kinds → is_after unit now.Other (visits dialect n c) ≡ now.Other
      by (inl v) = rw (foreign_visits dialect n c v) (ap (λ (b : Bool). if b then now.Foreign else now.Other) is)
      by (inr (inl own)) =
          rw (own_visits dialect n c own) (after_items unit (known_as unit n now.Own) (unit_items dialect c)
          ∙ ap (λ (b : Bool). if b then now.Own else now.Other) is)
      by (inr (inr none)) = rw (no_visits dialect n c none) refl

    -- the wanted unit has its offset
    pub wanted_at : is_other (is_after unit now.Other (visits dialect n c)) ≡ false → (n == unit) ≡ true
    wanted_at wanted = by (n == unit) refl where
      by : (b : Bool) → (n == unit) ≡ b → b ≡ true
      by true is = refl
      by false is = absurd (true≢false (sym (ap is_other (other_front is)) ∙ wanted))

    -- a whole unit of that offset is the wanted one
    pub whole_wanted : IsUnit dialect c → (n == unit) ≡ true → is_other (is_after unit now.Other (visits dialect n c)) ≡ false
    whole_wanted is_unit is = by (one_of dialect n c) where
      neither : kinds.Neither dialect n c → IsUnit dialect c → ⊥
      neither none (inl (version, foreign)) = none_is_some (sym none.0 ∙ foreign_of dialect version c foreign)
      neither none (inr (h, p, own)) =
          none_is_some (sym none.1 ∙ ap (header_in dialect) own.whole
          ∙ header_is_found dialect h own.header own.program own.spells_header)

      by : Kinds → is_other (is_after unit now.Other (visits dialect n c)) ≡ false
      by (inl v) =
          rw (foreign_visits dialect n c v) (ap (λ (b : Bool). is_other (if b then now.Foreign else now.Other)) is)
      by (inr (inl own)) =
          rw (own_visits dialect n c own) (ap is_other (after_items unit (known_as unit n now.Own) (unit_items dialect c))
          ∙ ap (λ (b : Bool). is_other (if b then now.Own else now.Other)) is)
      by (inr (inr none)) = absurd (neither none is_unit)

    pub damage_front : first_damage unit (visits dialect n c) ≡ None
    damage_front = by (one_of dialect n c) where
      by : Kinds → first_damage unit (visits dialect n c) ≡ None
      by (inl v) = rw (foreign_visits dialect n c v) refl
      by (inr (inl own)) = rw (own_visits dialect n c own) (damage_items unit (unit_items dialect c))
      by (inr (inr none)) = rw (no_visits dialect n c none) refl

    known_by : (is version header : Bool) → is ≡ true → (version || header) ≡ true → (is && (version || header)) ≡ true
    known_by true version header e some = some
    known_by false version header e some = absurd (true≢false (sym e))

    pub begins_front : begins_in unit (visits dialect n c) ≡ true → begins_by dialect unit n c ≡ true
    begins_front has = by (one_of dialect n c) where
      by : Kinds → begins_by dialect unit n c ≡ true
      by (inl v) =
          known_by (n == unit) (is_some (foreign_in dialect c)) (is_some (header_in dialect c))
          (sym (or-false (n == unit)) ∙ ap (begins_in unit) (sym (foreign_visits dialect n c v)) ∙ has)
          (ap (λ (o : Option ℕ). is_some o || is_some (header_in dialect c)) v.1)
      by (inr (inl own)) =
          known_by (n == unit) (is_some (foreign_in dialect c)) (is_some (header_in dialect c))
          (sym (ap (λ (b : Bool). (n == unit) || b) (begins_items unit (unit_items dialect c)) ∙ or-false (n == unit))
          ∙ ap (begins_in unit) (sym (own_visits dialect n c own)) ∙ has)
          (ap (λ (o : Option (HeaderData × List ℕ)). is_some (foreign_in dialect c) || is_some o) own.2
          ∙ or-true (is_some (foreign_in dialect c)))
      by (inr (inr none)) = absurd (true≢false (sym has ∙ ap (begins_in unit) (no_visits dialect n c none)))

  -- ---- of a whole unit, with its end

  after_end : (current : Current) (u : List ℕ) → is_after unit current (end_visits dialect u) ≡ now.Other
  after_end current u = by (ends_open (unit_rows dialect u)) where
    by : (is_open : Bool) → is_after unit current (open_visit is_open ++ of_end (header_of dialect u) ∷ []) ≡ now.Other
    by true = refl
    by false = refl

  over_end : (current : Current) (u : List ℕ) → is_over unit current (end_visits dialect u) ≡ not (is_other current)
  over_end current u = by (ends_open (unit_rows dialect u)) where
    by : (is_open : Bool)
        → is_over unit current (open_visit is_open ++ of_end (header_of dialect u) ∷ []) ≡ not (is_other current)
    by true = or-false (not (is_other current))
    by false = or-false (not (is_other current))

  own_end : (u : List ℕ) → told_in unit now.Own (end_visits dialect u) ≡ end_visits dialect u
  own_end u = by (ends_open (unit_rows dialect u)) where
    by : (is_open : Bool) → told_in unit now.Own (open_visit is_open ++ of_end (header_of dialect u) ∷ [])
        ≡ open_visit is_open ++ of_end (header_of dialect u) ∷ []
    by true = refl
    by false = refl

  foreign_end : (u : List ℕ) → told_in unit now.Foreign (end_visits dialect u) ≡ []
  foreign_end u = by (ends_open (unit_rows dialect u)) where
    by : (is_open : Bool) → told_in unit now.Foreign (open_visit is_open ++ of_end (header_of dialect u) ∷ []) ≡ []
    by true = refl
    by false = refl

  damage_end : (u : List ℕ) → first_damage unit (end_visits dialect u) ≡ None
  damage_end u = by (ends_open (unit_rows dialect u)) where
    by : (is_open : Bool) → first_damage unit (open_visit is_open ++ of_end (header_of dialect u) ∷ []) ≡ None
    by true = refl
    by false = refl

  begins_end : (u : List ℕ) → begins_in unit (end_visits dialect u) ≡ false
  begins_end u = by (ends_open (unit_rows dialect u)) where
    by : (is_open : Bool) → begins_in unit (open_visit is_open ++ of_end (header_of dialect u) ∷ []) ≡ false
    by true = refl
    by false = refl

  -- what a lister is told of the wanted unit
  module _ (s : Strings) (q : SourcesQuestion) (rows : List Row) (m n : ℕ) (u : List ℕ) (is : (n == unit) ≡ true) where
    told_own : (own : kinds.Own dialect n u) → told_in unit now.Other (unit_visits dialect n u) ≡ unit_visits dialect n u
    told_own own =
        let h = own.0 in
        let items = map of_item (unit_items dialect u) in
        rw (own_visits dialect n u own) (
        ap (λ (b : Bool). (if b then of_header n (lengths_in dialect u h) h ∷ [] else [])
        ++ told_in unit (if b then now.Own else now.Other) (items ++ end_visits dialect u)) is
        ∙ ap (λ (l : List Visit). of_header n (lengths_in dialect u h) h ∷ l)
        (own_items unit (unit_items dialect u) (end_visits dialect u) ∙ ap (λ (l : List Visit). items ++ l) (own_end u)))

    told_foreign : kinds.Foreign dialect n u → told_in unit now.Other (unit_visits dialect n u) ≡ []
    told_foreign v =
        rw (foreign_visits dialect n u v) (
        ap (λ (b : Bool). told_in unit (if b then now.Foreign else now.Other) (end_visits dialect u)) is ∙ foreign_end u)

    same_start : (own : kinds.Own dialect n u)
        → told_after s q rows m (unit_visits dialect n u) ≡ told_after s q [] m (unit_visits dialect n u)
    same_start own = rw (own_visits dialect n u own) refl

    no_header : header_in dialect u ≡ None → unit_mentions s q n (header_of dialect u) (unit_rows dialect u) ≡ []
    no_header none =
        ap (λ (o : Option (HeaderData × List ℕ)). unit_mentions s q n (option_map (λ p. p.0) o) (unit_rows dialect u)) none

    pub told_wanted : IsUnit dialect u → told_after s q rows m (told_in unit now.Other (unit_visits dialect n u))
        ≡ unit_mentions s q n (header_of dialect u) (unit_rows dialect u)
    told_wanted is_unit = by (one_of dialect n u) where
      by : Kinds n u → told_after s q rows m (told_in unit now.Other (unit_visits dialect n u))
          ≡ unit_mentions s q n (header_of dialect u) (unit_rows dialect u)
      by (inl v) = ap (told_after s q rows m) (told_foreign v) ∙ sym (no_header (foreign_no_header dialect u v.0 v.1))
      by (inr (inl own)) =
          ap (told_after s q rows m) (told_own own) ∙ same_start own ∙ told_of_unit s q dialect m n u
      by (inr (inr none)) =
          absurd (true≢false (sym (ap (λ (l : List Visit). is_other (is_after unit now.Other l)) (no_visits dialect n u none))
          ∙ whole_wanted n u is_unit is))

  -- ---- of blocks

  after_block : (n : ℕ) (block : Block) → is_after unit now.Other (block_visits dialect n block) ≡ now.Other
  after_block n (whole u) =
      after-append unit now.Other (visits dialect n u) (end_visits dialect u)
      ∙ after_end (is_after unit now.Other (visits dialect n u)) u
  after_block n (damaged front back at kind) =
      after-append unit now.Other (visits dialect n front) (of_damage n (n + at) kind ∷ [])

  pub after_blocks : (n : ℕ) (blocks : List Block) → is_after unit now.Other (blocks_visits dialect n blocks) ≡ now.Other
  after_blocks n [] = refl
  after_blocks n (block ∷ blocks) =
      let others = blocks_visits dialect (n + length (block_bytes block)) blocks in
      after-append unit now.Other (block_visits dialect n block) others
      ∙ ap (λ (c : Current). is_after unit c others) (after_block n block)
      ∙ after_blocks (n + length (block_bytes block)) blocks

  -- while the wanted unit isn't over, none of the blocks is it and whole
  pub none_whole : (n : ℕ) (blocks : List Block) (more : List Visit) → AllByRecursion (IsBlock dialect) blocks
      → is_over unit now.Other (blocks_visits dialect n blocks ++ more) ≡ false → is_whole_at unit n blocks ≡ false
  none_whole n [] more all going = refl
  none_whole n (whole u ∷ blocks) more all going =
      by (n == unit) refl (none_whole (n + length u) blocks more all.1 later)
    where
      mine : List Visit
      mine = unit_visits dialect n u

      others : List Visit
      others = blocks_visits dialect (n + length u) blocks

      parted : is_over unit now.Other (mine ++ (others ++ more)) ≡ false
      parted = ap (is_over unit now.Other) (sym (append_assoc mine others more)) ∙ going

      later : is_over unit now.Other (others ++ more) ≡ false
      later =
          ap (λ (c : Current). is_over unit c (others ++ more)) (sym (after_block n (whole u)))
          ∙ over_later unit now.Other mine (others ++ more) parted

      unended : not (is_other (is_after unit now.Other (visits dialect n u))) ≡ false
      unended =
          sym (over_end (is_after unit now.Other (visits dialect n u)) u)
          ∙ over_later unit now.Other (visits dialect n u) (end_visits dialect u)
          (over_before unit now.Other mine (others ++ more) parted)

      by : (b : Bool) → (n == unit) ≡ b → is_whole_at unit (n + length u) blocks ≡ false
          → (b || is_whole_at unit (n + length u) blocks) ≡ false
      by true is none = absurd (true≢false (sym (ap not (whole_wanted n u all.0 is)) ∙ unended))
      by false is none = none
  none_whole n (damaged front back at kind ∷ blocks) more all going =
      none_whole (n + length (front ++ back)) blocks more all.1 (
      ap (λ (c : Current). is_over unit c (others ++ more)) (sym (after_block n (damaged front back at kind)))
      ∙ over_later unit now.Other mine (others ++ more)
      (ap (is_over unit now.Other) (sym (append_assoc mine others more)) ∙ going))
    where
      mine : List Visit
      mine = block_visits dialect n (damaged front back at kind)

      others : List Visit
      others = blocks_visits dialect (n + length (front ++ back)) blocks

  -- ---- damage

  if_same : {A : Type 0} (b : Bool) (x : A) → (if b then x else x) ≡ x
  if_same true x = refl
  if_same false x = refl

  damage_rest : (n : ℕ) (rest : Rest)
      → first_damage unit (rest_visits dialect n rest) ≡ (if n == unit then first_of (rest_faults n rest) else None)
  damage_rest n (begun b) = damage_front n b ∙ sym (if_same (n == unit) None)
  damage_rest n (cut_off b) =
      damage-append unit (visits dialect n b) (of_damage n (n + length b) Truncated ∷ [])
      ∙ ap (λ (d : Option Damage). option_or d (first_damage unit (of_damage n (n + length b) Truncated ∷ []))) (damage_front n b)
      ∙ option_or-none (damage_in unit (of_damage n (n + length b) Truncated))
  damage_rest n (broken front back at kind) =
      damage-append unit (visits dialect n front) (of_damage n (n + at) kind ∷ [])
      ∙ ap (λ (d : Option Damage). option_or d (first_damage unit (of_damage n (n + at) kind ∷ []))) (damage_front n front)
      ∙ option_or-none (damage_in unit (of_damage n (n + at) kind))

  pub damage_told : (n m : ℕ) (blocks : List Block) (rest : Rest) → m ≡ n + length (bytes_of blocks)
      → first_damage unit (blocks_visits dialect n blocks ++ rest_visits dialect m rest) ≡ damage_at unit n blocks rest
  damage_told n m [] rest at =
      ap (λ (k : ℕ). first_damage unit (rest_visits dialect k rest)) (omega (arith, at)) ∙ damage_rest n rest
  damage_told n m (whole u ∷ blocks) rest at =
      let mine = unit_visits dialect n u in
      let others = blocks_visits dialect (n + length u) blocks in
      let last = rest_visits dialect m rest in
      ap (first_damage unit) (append_assoc mine others last)
      ∙ damage-append unit mine (others ++ last)
      ∙ ap₂ option_or
      (damage-append unit (visits dialect n u) (end_visits dialect u)
      ∙ ap₂ option_or (damage_front n u) (damage_end u))
      (damage_told (n + length u) m blocks rest (omega (arith, at, length-append u (bytes_of blocks))))
  damage_told n m (damaged front back at kind ∷ blocks) rest is =
      let v = of_damage n (n + at) kind in
      let mine = visits dialect n front ++ v ∷ [] in
      let others = blocks_visits dialect (n + length (front ++ back)) blocks in
      let last = rest_visits dialect m rest in
      ap (first_damage unit) (append_assoc mine others last)
      ∙ damage-append unit mine (others ++ last)
      ∙ ap₂ option_or
      (damage-append unit (visits dialect n front) (v ∷ [])
      ∙ ap (λ (d : Option Damage). option_or d (first_damage unit (v ∷ []))) (damage_front n front)
      ∙ option_or-none (damage_in unit v))
      (damage_told (n + length (front ++ back)) m blocks rest
      (omega (arith, is, length-append (front ++ back) (bytes_of blocks))))
      ∙ by (n == unit)
    where
      by : (b : Bool)
          → option_or (if b then Some (record { offset = n + at; kind = kind }) else None)
          (damage_at unit (n + length (front ++ back)) blocks rest)
          ≡ (if b then Some (record { offset = n + at; kind = kind })
          else damage_at unit (n + length (front ++ back)) blocks rest)
      by true = refl
      by false = refl

  -- ---- where it begins

  begins_before : (n : ℕ) (c : List ℕ) (more : List Visit) → begins_in unit more ≡ false
      → begins_in unit (visits dialect n c ++ more) ≡ true → begins_by dialect unit n c ≡ true
  begins_before n c more none has =
      begins_front n c (
      sym (or-false (begins_in unit (visits dialect n c)))
      ∙ ap (λ (b : Bool). begins_in unit (visits dialect n c) || b) (sym none)
      ∙ sym (list_any-append (begins unit) (visits dialect n c) more) ∙ has)

  begins_of_rest : (n : ℕ) (rest : Rest) → begins_in unit (rest_visits dialect n rest) ≡ true
      → begins_by dialect unit n (rest_front rest) ≡ true
  begins_of_rest n (begun b) has = begins_front n b has
  begins_of_rest n (cut_off b) has = begins_before n b (of_damage n (n + length b) Truncated ∷ []) refl has
  begins_of_rest n (broken front back at kind) has = begins_before n front (of_damage n (n + at) kind ∷ []) refl has

  begins_of_block : (n : ℕ) (block : Block) → begins_in unit (block_visits dialect n block) ≡ true
      → begins_by dialect unit n (block_front block) ≡ true
  begins_of_block n (whole u) has = begins_before n u (end_visits dialect u) (begins_end u) has
  begins_of_block n (damaged front back at kind) has = begins_before n front (of_damage n (n + at) kind ∷ []) refl has

  or_either : (a b c d : Bool) → (a ≡ true → c ≡ true) → (b ≡ true → d ≡ true) → (a || b) ≡ true → (c || d) ≡ true
  or_either true b c d first second either = ap (λ (x : Bool). x || d) (first refl)
  or_either false b c d first second either = ap (λ (x : Bool). c || x) (second either) ∙ or-true c

  pub begins_told : (n m : ℕ) (blocks : List Block) (rest : Rest) → m ≡ n + length (bytes_of blocks)
      → begins_in unit (blocks_visits dialect n blocks ++ rest_visits dialect m rest) ≡ true
      → begins_at dialect unit n blocks rest ≡ true
  begins_told n m [] rest at has =
      begins_of_rest n rest (ap (λ (k : ℕ). begins_in unit (rest_visits dialect k rest)) (omega (arith, at)) ∙ has)
  begins_told n m (block ∷ blocks) rest at has =
      let mine = block_visits dialect n block in
      let others = blocks_visits dialect (n + length (block_bytes block)) blocks in
      let last = rest_visits dialect m rest in
      or_either (begins_in unit mine) (begins_in unit (others ++ last)) _ _ (begins_of_block n block)
      (begins_told (n + length (block_bytes block)) m blocks rest
      (omega (arith, at, length-append (block_bytes block) (bytes_of blocks))))
      (sym (list_any-append (begins unit) mine (others ++ last))
      ∙ ap (begins_in unit) (sym (append_assoc mine others last)) ∙ has)

  -- ---- the unit is whole, and the last that was read

  last_of : {A : Type 0} (xs : List A) → (xs ≡ []) ⊎ ((init : List A) × (last : A) × (xs ≡ init ++ last ∷ []))
  last_of [] = inl refl
  last_of {A = A} (x ∷ xs) = elim (last_of xs) [
    | inl none ↦ inr ([], x, ap (λ (l : List A). x ∷ l) none)
    | inr (init, last, is) ↦ inr (x ∷ init, last, ap (λ (l : List A). x ∷ l) is)
  ]

  pub record LastWhole (blocks : List Block) : Type 0 where
    pub init : List Block
    pub u : List ℕ
    pub is : blocks ≡ init ++ whole u ∷ []
    pub at : length (bytes_of init) ≡ unit
    pub told : (s : Strings) (q : SourcesQuestion) (m : ℕ)
        → told_after s q [] m (told_in unit now.Other (visits_around dialect blocks (begun [])))
        ≡ unit_mentions s q unit (header_of dialect u) (unit_rows dialect u)

  push_visits : (init : List Block) (block : Block) → visits_around dialect (init ++ block ∷ []) (begun [])
      ≡ blocks_visits dialect 0 init ++ block_visits dialect (0 + length (bytes_of init)) block
  push_visits init block =
      append-nil (blocks_visits dialect 0 (init ++ block ∷ []))
      ∙ blocks_visits-append dialect 0 init (block ∷ [])
      ∙ ap (λ (l : List Visit). blocks_visits dialect 0 init ++ l)
      (append-nil (block_visits dialect (0 + length (bytes_of init)) block))

  module _ (init : List Block) (u : List ℕ) (before : List Visit) (h : Option HeaderData)
      (is_unit : IsUnit dialect u) (going : is_over unit now.Other before ≡ false)
      (wanted : is_other (is_after unit now.Other before) ≡ false)
      (ends : visits_around dialect (init ++ whole u ∷ []) (begun []) ≡ before ++ of_end h ∷ []) where
    abbrev n : ℕ
    n = 0 + length (bytes_of init)

    abbrev earlier : List Visit
    earlier = blocks_visits dialect 0 init

    abbrev front : List Visit
    front = visits dialect n u

    abbrev opened : List Visit
    opened = open_visit (ends_open (unit_rows dialect u))

    before_is : (earlier ++ (front ++ opened)) ≡ before
    before_is = (same_from_push (earlier ++ (front ++ opened)) before (of_end (header_of dialect u)) (of_end h) (
        append_assoc earlier (front ++ opened) (of_end (header_of dialect u) ∷ [])
        ∙ ap (λ (l : List Visit). earlier ++ l) (append_assoc front opened (of_end (header_of dialect u) ∷ []))
        ∙ sym (push_visits init (whole u)) ∙ ends)).0

    after_open : (current : Current) (is_open : Bool) → is_after unit current (open_visit is_open) ≡ current
    after_open current true = refl
    after_open current false = refl

    current_is : is_after unit now.Other before ≡ is_after unit now.Other front
    current_is =
        ap (is_after unit now.Other) (sym before_is)
        ∙ after-append unit now.Other earlier (front ++ opened)
        ∙ ap (λ (c : Current). is_after unit c (front ++ opened)) (after_blocks 0 init)
        ∙ after-append unit now.Other front opened
        ∙ after_open (is_after unit now.Other front) (ends_open (unit_rows dialect u))

    at_unit : (n == unit) ≡ true
    at_unit = wanted_at n u (ap is_other (sym current_is) ∙ wanted)

    none_earlier : (s : Strings) (q : SourcesQuestion) (m : ℕ) → told_after s q [] m (told_in unit now.Other earlier) ≡ []
    none_earlier s q m =
        none_told unit s q now.Other [] m earlier
        (over_before unit now.Other earlier (front ++ opened) (ap (is_over unit now.Other) before_is ∙ going))

    told_last : (s : Strings) (q : SourcesQuestion) (m : ℕ)
        → told_after s q [] m (told_in unit now.Other (visits_around dialect (init ++ whole u ∷ []) (begun [])))
        ≡ unit_mentions s q n (header_of dialect u) (unit_rows dialect u)
    told_last s q m =
        let mine = unit_visits dialect n u in
        let told = told_in unit now.Other earlier in
        ap (λ (l : List Visit). told_after s q [] m (told_in unit now.Other l)) (push_visits init (whole u))
        ∙ ap (told_after s q [] m) (told-append unit now.Other earlier mine
        ∙ ap (λ (c : Current). told ++ told_in unit c mine) (after_blocks 0 init))
        ∙ told_after-append s q [] m told (told_in unit now.Other mine)
        ∙ ap₂ (λ (a b : List Mention). a ++ b) (none_earlier s q m)
        (told_wanted s q (rows_since [] told) (offset_after m told) n u at_unit is_unit)

    whole_here : LastWhole (init ++ whole u ∷ [])
    whole_here =
        let at : n ≡ unit = eqb-true n unit at_unit in
        record {
          init = init;
          u = u;
          is = refl;
          at = omega (arith, at);
          told = λ s q m. told_last s q m
              ∙ ap (λ (k : ℕ). unit_mentions s q k (header_of dialect u) (unit_rows dialect u)) at;
        }

  all_last : (init : List Block) (block : Block) → AllByRecursion (IsBlock dialect) (init ++ block ∷ []) → IsBlock dialect block
  all_last [] block all = all.0
  all_last (b ∷ init) block all = all_last init block all.1

  damaged_end : (visits before : List Visit) (h : Option HeaderData) (n at : ℕ) (kind : FaultKind)
      → visits ++ of_damage n at kind ∷ [] ≡ before ++ of_end h ∷ [] → ⊥
  damaged_end visits before h n at kind is =
      let last = (same_from_push visits before (of_damage n at kind) (of_end h) is).1 in absurd cc

  pub last_whole : (blocks : List Block) (before : List Visit) (h : Option HeaderData)
      → AllByRecursion (IsBlock dialect) blocks → visits_around dialect blocks (begun []) ≡ before ++ of_end h ∷ []
      → is_over unit now.Other before ≡ false → is_other (is_after unit now.Other before) ≡ false → LastWhole blocks
  last_whole blocks before h all ends going wanted = by (last_of blocks) where
    by : (blocks ≡ []) ⊎ ((init : List Block) × (block : Block) × (blocks ≡ init ++ block ∷ [])) → LastWhole blocks
    by (inl none) =
        let nothing : [] ≡ before ++ of_end h ∷ [] = rw none at ends in
        absurd (omega (arith, ap length nothing, length-append before (of_end h ∷ [])))
    by (inr (init, whole u, is)) =
        rw is (whole_here init u before h (all_last init (whole u) (rw is at all)) going wanted (rw is at ends))
    by (inr (init, damaged front back at kind, is)) =
        let n = 0 + length (bytes_of init) in
        absurd (damaged_end (blocks_visits dialect 0 init ++ visits dialect n front) before h n (n + at) kind (
        append_assoc (blocks_visits dialect 0 init) (visits dialect n front) (of_damage n (n + at) kind ∷ [])
        ∙ sym (push_visits init (damaged front back at kind)) ∙ rw is at ends))

-- ---- faults

pub first_is : (faults : List Damage)
    → option_map (λ (units : DamagedUnits). units.first) (damaged_units faults) ≡ first_of faults
first_is [] = refl
first_is (damage ∷ others) = refl
