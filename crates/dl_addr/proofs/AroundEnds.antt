-- What is located in visits around damaged units, and at which unit a locator stops there.
use Rattle.std.proofs.Common.{◌≡◌, ◌⊎◌, inl, inr, ℕ, ◌+◌, Bool, false, List, [], ◌∷◌, ◌++◌, length}
use Rattle.std.proofs.Common.{Option, Some, None, refl, sym, ap, ◌∙◌, append_assoc, append-nil, true≢false}
use Rattle.std.specs.Prelude.{is_some, option_map}
use Rattle.std.specs.List.{list_any}
use Rattle.std.specs.Option.{option_or}
use Rattle.dl_head.specs.declared.dialect.Dialect.{Dialect}
use Rattle.dl_field.specs.HeaderData.{HeaderData}
use Rattle.dl_table.specs.declared.fault.FaultKind.TheVariants.{Truncated}
use Rattle.dl_rows.specs.declared.row.Row.{Row}
use Rattle.dl_rows.specs.LineUnit.{events, unit_rows}
use Rattle.dl_look.specs.declared.place.Place.{Place}
use Rattle.dl_look.specs.LiveRows.{live_answer}
use Rattle.dl_sections.specs.Around.{Block, whole, damaged, block_bytes, bytes_of, units_around, block_visits, blocks_visits}
use Rattle.dl_sections.specs.Around.{Rest, begun, cut_off, broken, rest_visits, visits_around}
use Rattle.dl_sections.specs.Copying.{offset_after}
use Rattle.dl_sections.specs.RowsTold.{rows_after}
use Rattle.dl_sections.specs.Section.{header_read, Visit, of_damage, of_end, header_of, visits}
use Rattle.dl_sections.proofs.Fronts.{fronts_of, or_none}
use Rattle.dl_sections.proofs.VisitLemmas.{rows_after-append}
use Rattle.dl_addr.specs.AroundCommands.{located_along, located_around, located_in_block}
use Rattle.dl_addr.specs.Locating.{located_after}
use Rattle.dl_addr.specs.Locations.{Located, located_from, located_in}
use Rattle.dl_addr.proofs.EndLemmas.{any_mid, end_same, is_end, none_both, none_located, none_visits_of, none_own, own}
use Rattle.dl_addr.proofs.EndLemmas.{own_end}
use Rattle.dl_addr.proofs.LocatedLemmas.{located_after-append, located_of_unit, rows_of_unit}

module _ (dialect : Dialect) where
  -- the visits of a block but for the last
  abbrev init_of : ℕ → Block → List Visit
  init_of offset (whole u) = own dialect offset u
  init_of offset (damaged front back at kind) = visits dialect offset front

  abbrev last_of : ℕ → Block → Visit
  last_of offset (whole u) = of_end (header_of dialect u)
  last_of offset (damaged front back at kind) = of_damage offset (offset + at) kind

  init_last : (offset : ℕ) (block : Block)
      → init_of offset block ++ last_of offset block ∷ [] ≡ block_visits dialect offset block
  init_last offset (whole u) = own_end dialect offset u
  init_last offset (damaged front back at kind) = refl

  none_visits : (offset : ℕ) (b : List ℕ) → list_any is_end (visits dialect offset b) ≡ false
  none_visits offset b = none_visits_of dialect offset b

  none_init : (offset : ℕ) (block : Block) → list_any is_end (init_of offset block) ≡ false
  none_init offset (whole u) = none_own dialect offset u
  none_init offset (damaged front back at kind) = none_visits offset front

  none_rest : (offset : ℕ) (rest : Rest) → list_any is_end (rest_visits dialect offset rest) ≡ false
  none_rest offset (begun b) = none_visits offset b
  none_rest offset (cut_off b) =
      none_both (visits dialect offset b) (of_damage offset (offset + length b) Truncated ∷ []) (none_visits offset b) refl
  none_rest offset (broken front back at kind) =
      none_both (visits dialect offset front) (of_damage offset (offset + at) kind ∷ []) (none_visits offset front) refl

  -- ---- what is located in the visits of blocks

  module _ (live : ℕ → Bool) (x : Place) where
    located_of_block : (n offset : ℕ) (block : Block)
        → located_after live x [] n (block_visits dialect offset block) ≡ located_in_block dialect live offset block x
    located_of_block n offset (whole u) = located_of_unit live x dialect n offset u
    located_of_block n offset (damaged front back at kind) =
        none_located dialect live x [] n (block_visits dialect offset (damaged front back at kind))
        (none_both (visits dialect offset front) (of_damage offset (offset + at) kind ∷ []) (none_visits offset front) refl)

    rows_of_block : (offset : ℕ) (block : Block) → rows_after [] (block_visits dialect offset block) ≡ []
    rows_of_block offset (whole u) = rows_of_unit live x dialect offset u
    rows_of_block offset (damaged front back at kind) =
        rows_after-append [] (visits dialect offset front) (of_damage offset (offset + at) kind ∷ [])

    after_block : (n offset : ℕ) (block : Block) (rest : List Visit)
        → located_after live x [] n (block_visits dialect offset block ++ rest)
        ≡ option_or (located_in_block dialect live offset block x)
        (located_after live x [] (offset_after n (block_visits dialect offset block)) rest)
    after_block n offset block rest =
        let mine = block_visits dialect offset block in
        located_after-append live x [] n mine rest
        ∙ ap (λ (l : List Row). option_or (located_after live x [] n mine)
        (located_after live x l (offset_after n mine) rest)) (rows_of_block offset block)
        ∙ ap (λ (o : Option Located). option_or o (located_after live x [] (offset_after n mine) rest))
        (located_of_block n offset block)

    located_of_blocks : (n offset : ℕ) (blocks : List Block) (more : List Visit)
        → ((m : ℕ) → located_after live x [] m more ≡ None)
        → located_after live x [] n (blocks_visits dialect offset blocks ++ more)
        ≡ located_along dialect live offset blocks x
    located_of_blocks n offset [] more none = none n
    located_of_blocks n offset (block ∷ blocks) more none =
        let mine = block_visits dialect offset block in
        let next = offset + length (block_bytes block) in
        ap (located_after live x [] n) (append_assoc mine (blocks_visits dialect next blocks) more)
        ∙ after_block n offset block (blocks_visits dialect next blocks ++ more)
        ∙ ap (option_or (located_in_block dialect live offset block x))
        (located_of_blocks (offset_after n mine) next blocks more none)

    -- what is located in the visits of a section is what its blocks answer
    pub located_of_around : (n : ℕ) (blocks : List Block) (rest : Rest)
        → located_after live x [] n (visits_around dialect blocks rest) ≡ located_around dialect live blocks x
    located_of_around n blocks rest =
        let last = rest_visits dialect (length (bytes_of blocks)) rest in
        located_of_blocks n 0 blocks last
        (λ m. none_located dialect live x [] m last (none_rest (length (bytes_of blocks)) rest))

    some_or : (f g : Row → Located) (o : Option Row) (a b : Option Located) → is_some a ≡ is_some b
        → is_some (option_or (option_map f o) a) ≡ is_some (option_or (option_map g o) b)
    some_or f g None a b e = e
    some_or f g (Some r) a b e = refl

    -- whether there is an answer doesn't depend on the offsets of the units
    pub some_along : (offset n : ℕ) (blocks : List Block)
        → is_some (located_along dialect live offset blocks x)
        ≡ is_some (located_from dialect live n (units_around blocks) x)
    some_along offset n [] = refl
    some_along offset n (whole u ∷ blocks) =
        some_or (λ r. record { row = r; header = header_of dialect u; unit = offset })
        (λ r. record { row = r; header = header_of dialect u; unit = n }) (live_answer live (unit_rows dialect u) x)
        (located_along dialect live (offset + length u) blocks x)
        (located_from dialect live (n + length u) (units_around blocks) x)
        (some_along (offset + length u) (n + length u) blocks)
    some_along offset n (damaged front back at kind ∷ blocks) = some_along (offset + length (front ++ back)) n blocks

  -- ---- where a locator stops

  -- u is one of the whole units; before the end of its visits the blocks before it answer, and after it u too
  pub record SplitsAround (offset n : ℕ) (blocks : List Block) (before : List Visit) (h : Option HeaderData) : Type
      0 where
    pub front : List Block
    pub u : List ℕ
    pub after : List Block
    pub cut : blocks ≡ front ++ whole u ∷ after
    pub header : h ≡ header_of dialect u
    pub located_before : (live : ℕ → Bool) (x : Place)
        → located_after live x [] n before ≡ located_along dialect live offset front x
    pub located_later : (live : ℕ → Bool) (x : Place)
        → located_after live x [] n (before ++ of_end h ∷ [])
        ≡ located_along dialect live offset (front ++ whole u ∷ []) x

  -- at the end of the first block
  splits_here : (offset n : ℕ) (block : Block) (blocks : List Block) (rest before : List Visit) (h : Option HeaderData)
      (more x : List Visit) → init_of offset block ≡ before ++ x → of_end h ∷ more ≡ x ++ last_of offset block ∷ rest
      → SplitsAround offset n (block ∷ blocks) before h
  splits_here offset n block blocks rest before h more (y ∷ x) is ends =
      absurd (true≢false (sym (any_mid before h x)
      ∙ ap (list_any is_end) (ap (λ (v : Visit). before ++ v ∷ x) first ∙ sym is) ∙ none_init offset block)) where
        first : of_end h ≡ y
        first = cc
  splits_here offset n (damaged front back at kind) blocks rest before h more [] is ends = absurd cc
  splits_here offset n (whole u) blocks rest before h more [] is ends = record {
    front = [];
    u = u;
    after = blocks;
    cut = refl;
    header = same;
    located_before =
        λ live y. ap (located_after live y [] n) here
        ∙ none_located dialect live y [] n (own dialect offset u) (none_own dialect offset u);
    located_later = λ live y. (
        ap (λ (l : List Visit). located_after live y [] n (l ++ of_end h ∷ [])) here
        ∙ ap (λ (v : Option HeaderData). located_after live y [] n (own dialect offset u ++ of_end v ∷ [])) same
        ∙ ap (located_after live y [] n) (own_end dialect offset u)
        ∙ located_of_unit live y dialect n offset u
        ∙ sym (or_none (located_in dialect live offset u y)));
  } where
    here : before ≡ own dialect offset u
    here = sym (append-nil before) ∙ sym is

    same : h ≡ header_of dialect u
    same = end_same dialect h (header_of dialect u) cc

  -- at one after the first block
  splits_later : (offset n : ℕ) (block : Block) (blocks : List Block) (before x : List Visit) (h : Option HeaderData)
      → before ≡ block_visits dialect offset block ++ x
      → SplitsAround (offset + length (block_bytes block)) (offset_after n (block_visits dialect offset block)) blocks x
      h
      → SplitsAround offset n (block ∷ blocks) before h
  splits_later offset n block blocks before x h is s = record {
    front = block ∷ s.front;
    u = s.u;
    after = s.after;
    cut = ap (λ (l : List Block). block ∷ l) s.cut;
    header = s.header;
    located_before = λ live y. (
        ap (located_after live y [] n) is
        ∙ after_block live y n offset block x
        ∙ ap (option_or (located_in_block dialect live offset block y)) (s.located_before live y));
    located_later = λ live y. (
        ap (λ (l : List Visit). located_after live y [] n (l ++ of_end h ∷ [])) is
        ∙ ap (located_after live y [] n) (append_assoc (block_visits dialect offset block) x (of_end h ∷ []))
        ∙ after_block live y n offset block (x ++ of_end h ∷ [])
        ∙ ap (option_or (located_in_block dialect live offset block y)) (s.located_later live y));
  }

  splits_blocks : (offset n : ℕ) (blocks : List Block) (tail before : List Visit) (h : Option HeaderData)
      (more : List Visit) → list_any is_end tail ≡ false
      → blocks_visits dialect offset blocks ++ tail ≡ before ++ of_end h ∷ more → SplitsAround offset n blocks before h
  splits_blocks offset n [] tail before h more none e =
      absurd (true≢false (sym (any_mid before h more) ∙ ap (list_any is_end) (sym e) ∙ none))
  splits_blocks offset n (block ∷ blocks) tail before h more none e =
      by (λ x ends. splits_blocks (offset + length (block_bytes block)) (offset_after n mine) blocks tail x h more none
      ends) (fronts_of init last rest before (of_end h ∷ more) cut) where
        init : List Visit
        init = init_of offset block

        last : Visit
        last = last_of offset block

        mine : List Visit
        mine = block_visits dialect offset block

        others : List Visit
        others = blocks_visits dialect (offset + length (block_bytes block)) blocks

        rest : List Visit
        rest = others ++ tail

        joined : (x : List Visit) → init ++ last ∷ x ≡ mine ++ x
        joined x =
            sym (append_assoc init (last ∷ []) x) ∙ ap (λ (l : List Visit). l ++ x) (init_last offset block)

        cut : init ++ last ∷ rest ≡ before ++ of_end h ∷ more
        cut = joined rest ∙ sym (append_assoc mine others tail) ∙ e

        by : ((x : List Visit) → rest ≡ x ++ of_end h ∷ more
            → SplitsAround (offset + length (block_bytes block)) (offset_after n mine) blocks x h)
            → ((x : List Visit) × (before ≡ init ++ last ∷ x) × (rest ≡ x ++ of_end h ∷ more))
            ⊎ ((x : List Visit) × (init ≡ before ++ x) × (of_end h ∷ more ≡ x ++ last ∷ rest))
            → SplitsAround offset n (block ∷ blocks) before h
        by next (inl (x, is, ends)) = splits_later offset n block blocks before x h (is ∙ joined x) (next x ends)
        by next (inr (x, is, ends)) = splits_here offset n block blocks rest before h more x is ends

  -- of a section
  pub splits_around : (n : ℕ) (blocks : List Block) (rest : Rest) (before : List Visit) (h : Option HeaderData)
      (more : List Visit) → visits_around dialect blocks rest ≡ before ++ of_end h ∷ more
      → SplitsAround 0 n blocks before h
  splits_around n blocks rest before h more e =
      splits_blocks 0 n blocks (rest_visits dialect (length (bytes_of blocks)) rest) before h more
      (none_rest (length (bytes_of blocks)) rest) e
