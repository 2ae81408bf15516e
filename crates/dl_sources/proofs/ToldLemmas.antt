-- What visits tell of the units of a section.
use Rattle.std.proofs.Common.{◌≡◌, ℕ, ◌+◌, Bool, true, false, List, [], ◌∷◌, ◌++◌, length, map, Option, Some, None}
use Rattle.std.proofs.Common.{refl, sym, ap, ap₂, ◌∙◌, append_assoc, append-nil}
use Rattle.std.specs.List.{concat, flat_map}
use Rattle.std.specs.Prelude.{option_map}
use Rattle.dl_head.specs.declared.dialect.Dialect.{Dialect}
use Rattle.dl_field.specs.HeaderData.{HeaderData}
use Rattle.dl_head.specs.declared.header.HeaderLengths.{HeaderLengths}
use Rattle.dl_head.specs.Header.{foreign_in, header_in, lengths_in}
use Rattle.dl_rows.specs.declared.row.Row.{Row}
use Rattle.dl_rows.specs.declared.reader.Event.{Event}
use Rattle.dl_rows.specs.declared.reader.Event.TheVariants as event
use Rattle.dl_rows.specs.LineUnit.{rows_in, rows_later, unit_rows, ends_open, events, events_of}
use Rattle.dl_rows.specs.Items.{Item, a_byte, a_row, an_operation, items_in, items_later, rows_of_items, unit_items}
use Rattle.dl_rows.proofs.ItemLemmas.{items_are_these}
use Rattle.dl_rows.proofs.ReaderLemmas.{foreign_no_header}
use Rattle.dl_print.specs.ValueText.{Strings}
use Rattle.dl_table.specs.declared.fault.FaultKind.{FaultKind}
use Rattle.dl_table.specs.declared.fault.FaultKind.TheVariants.{Truncated}
use Rattle.dl_sections.specs.Around.{Block, whole, damaged, block_bytes, block_visits, blocks_visits, bytes_of}
use Rattle.dl_sections.specs.Around.{Rest, begun, broken, cut_off, rest_visits, visits_around}
use Rattle.dl_sections.specs.Copying.{offset_after}
use Rattle.dl_sections.specs.Section.{HeaderRead, Visit, end_visits, event_visits, header_of, header_read, header_visit, of_end}
use Rattle.dl_sections.specs.Section.{of_damage, of_item, open_visit, read_by, section_visits, unit_visits, units_visits, visits}
use Rattle.dl_sections.proofs.EventLemmas.{rows_visited}
use Rattle.dl_sections.proofs.Fronts.{none_is_some}
use Rattle.dl_sources.specs.declared.question.SourcesQuestion.{SourcesQuestion}
use Rattle.dl_sources.specs.AroundCommands.{block_mentions, mentions_along, mentions_around}
use Rattle.dl_sources.specs.Listing.{rows_since, told_after}
use Rattle.dl_sources.specs.SectionTold.{mentions_from, mentions_of, unit_mentions}
use Rattle.dl_sources.specs.Sources.{Mention}
use Rattle.dl_sources.proofs.ListingLemmas.{rows_since-append, told_after-append}

module _ (s : Strings) (q : SourcesQuestion) where
  none_of_header : (offset : ℕ) (h : Option HeaderRead) (rows : List Row) (n : ℕ) (more : List Visit)
      → ((before : List Row) (m : ℕ) → told_after s q before m more ≡ [])
      → told_after s q rows n (header_visit offset h ++ more) ≡ []
  none_of_header offset None rows n more none = none rows n
  none_of_header offset (Some h) rows n more none = none [] offset

  pub none_of_events : (offset : ℕ) (h : Option HeaderRead) (es : List Event) (rows : List Row) (n : ℕ)
      → told_after s q rows n (flat_map (event_visits offset h) es) ≡ []
  none_of_events offset h [] rows n = refl
  none_of_events offset h (event.More ∷ es) rows n = none_of_events offset h es rows n
  none_of_events offset h (event.Header ∷ es) rows n =
      none_of_header offset h rows n (flat_map (event_visits offset h) es) (none_of_events offset h es)
  none_of_events offset h (event.Foreign v ∷ es) rows n = none_of_events offset h es rows n
  none_of_events offset h (event.Row r ∷ es) rows n = none_of_events offset h es rows n
  none_of_events offset h (event.NoMemory ∷ es) rows n = none_of_events offset h es rows n
  none_of_events offset h (event.End ∷ es) rows n = none_of_events offset h es rows n

  -- what the bytes of a program come to tells nothing before its end
  none_of_items : (items : List Item) (rows : List Row) (n : ℕ) → told_after s q rows n (map of_item items) ≡ []
  none_of_items [] rows n = refl
  none_of_items (a_byte x ∷ items) rows n = none_of_items items rows n
  none_of_items (an_operation header o ∷ items) rows n = none_of_items items rows n
  none_of_items (a_row header r ∷ items) rows n = none_of_items items (rows ++ r ∷ []) n

  pub none_of_visits : (dialect : Dialect) (offset : ℕ) (b : List ℕ) (rows : List Row) (n : ℕ)
      → told_after s q rows n (visits dialect offset b) ≡ []
  none_of_visits dialect offset b rows n =
      let opened = flat_map (event_visits offset (header_read dialect b)) (events dialect b) in
      told_after-append s q rows n opened (map of_item (unit_items dialect b))
      ∙ ap₂ (λ (a b : List Mention). a ++ b) (none_of_events offset (header_read dialect b) (events dialect b) rows n)
      (none_of_items (unit_items dialect b) (rows_since rows opened) (offset_after n opened))

  told_of_end : (rows : List Row) (n : ℕ) (is_open : Bool) (h : Option HeaderData)
      → told_after s q rows n (open_visit is_open ++ of_end h ∷ []) ≡ unit_mentions s q n h rows
  told_of_end rows n true h = append-nil (unit_mentions s q n h rows)
  told_of_end rows n false h = append-nil (unit_mentions s q n h rows)

  told_of_items : (before : List Row) (items : List Item) (n : ℕ) (more : List Visit)
      → told_after s q before n (map of_item items ++ more) ≡ told_after s q (before ++ rows_of_items items) n more
  told_of_items before [] n more = ap (λ (l : List Row). told_after s q l n more) (sym (append-nil before))
  told_of_items before (a_byte x ∷ items) n more = told_of_items before items n more
  told_of_items before (an_operation header o ∷ items) n more = told_of_items before items n more
  told_of_items before (a_row header r ∷ items) n more =
      told_of_items (before ++ r ∷ []) items n more
      ∙ ap (λ (l : List Row). told_after s q l n more) (append_assoc before (r ∷ []) (rows_of_items items))

  of_unit : (dialect : Dialect) (n offset : ℕ) (is_open : Bool) (lengths : HeaderData → HeaderLengths)
      (version : Option ℕ) (parts : Option (HeaderData × List ℕ)) → ((v : ℕ) → version ≡ Some v → parts ≡ None)
      → told_after s q [] n ((flat_map (event_visits offset (read_by lengths parts))
      (events_of dialect.order version parts) ++ map of_item (items_later dialect.order parts))
      ++ (open_visit is_open ++ of_end (option_map (λ p. p.0) parts) ∷ []))
      ≡ unit_mentions s q offset (option_map (λ p. p.0) parts) (rows_later dialect.order parts)
  of_unit dialect n offset is_open lengths (Some v) None only = told_of_end [] n is_open None
  of_unit dialect n offset is_open lengths (Some v) (Some p) only = absurd (none_is_some (sym (only v refl)))
  of_unit dialect n offset is_open lengths None None only = told_of_end [] n is_open None
  of_unit dialect n offset is_open lengths None (Some (h, program)) only =
      let rows = rows_in dialect.order h.params program in
      let items = items_in dialect.order h program in
      let end = open_visit is_open ++ of_end (Some h) ∷ [] in
      ap (λ (l : List Visit). told_after s q [] offset ((l ++ map of_item items) ++ end))
      (rows_visited offset (read_by lengths (Some (h, program))) rows)
      ∙ told_of_items [] items offset end
      ∙ ap (λ (l : List Row). told_after s q l offset end) (items_are_these dialect.order h program).2
      ∙ told_of_end rows offset is_open (Some h)

  pub told_of_unit : (dialect : Dialect) (n offset : ℕ) (u : List ℕ)
      → told_after s q [] n (unit_visits dialect offset u)
      ≡ unit_mentions s q offset (header_of dialect u) (unit_rows dialect u)
  told_of_unit dialect n offset u =
      of_unit dialect n offset (ends_open (unit_rows dialect u)) (lengths_in dialect u) (foreign_in dialect u)
      (header_in dialect u) (λ v. foreign_no_header dialect u v)

  rows_of_end : (rows : List Row) (is_open : Bool) (h : Option HeaderData)
      → rows_since rows (open_visit is_open ++ of_end h ∷ []) ≡ []
  rows_of_end rows true h = refl
  rows_of_end rows false h = refl

  pub rows_of_unit : (dialect : Dialect) (offset : ℕ) (u : List ℕ) → rows_since [] (unit_visits dialect offset u) ≡ []
  rows_of_unit dialect offset u =
      rows_since-append [] (visits dialect offset u) (end_visits dialect u)
      ∙ rows_of_end (rows_since [] (visits dialect offset u)) (ends_open (unit_rows dialect u)) (header_of dialect u)

  pub told_of_units : (dialect : Dialect) (n offset : ℕ) (units : List (List ℕ)) (more : List Visit)
      → ((m : ℕ) → told_after s q [] m more ≡ [])
      → told_after s q [] n (units_visits dialect offset units ++ more) ≡ mentions_from dialect s q offset units
  told_of_units dialect n offset [] more none = none n
  told_of_units dialect n offset (u ∷ units) more none =
      let own = unit_visits dialect offset u in
      let others = units_visits dialect (offset + length u) units in
      ap (told_after s q [] n) (append_assoc own others more)
      ∙ told_after-append s q [] n own (others ++ more)
      ∙ ap (λ (l : List Row). told_after s q [] n own ++ told_after s q l (offset_after n own) (others ++ more))
      (rows_of_unit dialect offset u)
      ∙ ap₂ (λ (a b : List Mention). a ++ b) (told_of_unit dialect n offset u)
      (told_of_units dialect (offset_after n own) (offset + length u) units more none)

  -- what the visits of a section tell is what its units do
  pub told_of_section : (dialect : Dialect) (n : ℕ) (units : List (List ℕ)) (b : List ℕ)
      → told_after s q [] n (section_visits dialect units b) ≡ mentions_of dialect s q units
  told_of_section dialect n units b =
      told_of_units dialect n 0 units (visits dialect (length (concat units)) b)
      (none_of_visits dialect (length (concat units)) b [])

  -- ---- blocks

  module _ (dialect : Dialect) where
    none_damaged : (offset unit at n : ℕ) (kind : FaultKind) (front : List ℕ) (rows : List Row)
        → told_after s q rows n (visits dialect offset front ++ of_damage unit at kind ∷ []) ≡ []
    none_damaged offset unit at n kind front rows =
        told_after-append s q rows n (visits dialect offset front) (of_damage unit at kind ∷ [])
        ∙ ap (λ (l : List Mention). l ++ []) (none_of_visits dialect offset front rows n)

    told_of_block : (n offset : ℕ) (block : Block)
        → told_after s q [] n (block_visits dialect offset block) ≡ block_mentions dialect s q offset block
    told_of_block n offset (whole u) = told_of_unit dialect n offset u
    told_of_block n offset (damaged front back at kind) = none_damaged offset offset (offset + at) n kind front []

    rows_of_block : (offset : ℕ) (block : Block) → rows_since [] (block_visits dialect offset block) ≡ []
    rows_of_block offset (whole u) = rows_of_unit dialect offset u
    rows_of_block offset (damaged front back at kind) =
        rows_since-append [] (visits dialect offset front) (of_damage offset (offset + at) kind ∷ [])

    told_of_blocks : (n offset : ℕ) (blocks : List Block) (more : List Visit)
        → ((m : ℕ) → told_after s q [] m more ≡ [])
        → told_after s q [] n (blocks_visits dialect offset blocks ++ more) ≡ mentions_along dialect s q offset blocks
    told_of_blocks n offset [] more none = none n
    told_of_blocks n offset (block ∷ blocks) more none =
        let mine = block_visits dialect offset block in
        let next = offset + length (block_bytes block) in
        let others = blocks_visits dialect next blocks in
        ap (told_after s q [] n) (append_assoc mine others more)
        ∙ told_after-append s q [] n mine (others ++ more)
        ∙ ap (λ (l : List Row). told_after s q [] n mine ++ told_after s q l (offset_after n mine) (others ++ more))
        (rows_of_block offset block)
        ∙ ap₂ (λ (a b : List Mention). a ++ b) (told_of_block n offset block)
        (told_of_blocks (offset_after n mine) next blocks more none)

    none_of_rest : (offset : ℕ) (rest : Rest) (n : ℕ) → told_after s q [] n (rest_visits dialect offset rest) ≡ []
    none_of_rest offset (begun b) n = none_of_visits dialect offset b [] n
    none_of_rest offset (cut_off b) n = none_damaged offset offset (offset + length b) n Truncated b []
    none_of_rest offset (broken front back at kind) n = none_damaged offset offset (offset + at) n kind front []

    -- what the visits of a section tell is what its whole units do
    pub told_of_around : (n : ℕ) (blocks : List Block) (rest : Rest)
        → told_after s q [] n (visits_around dialect blocks rest) ≡ mentions_around dialect s q blocks
    told_of_around n blocks rest =
        let last = rest_visits dialect (length (bytes_of blocks)) rest in
        told_of_blocks n 0 blocks last (none_of_rest (length (bytes_of blocks)) rest)
