-- The damaged units of which visits tell.
use Rattle.std.proofs.Common.{◌≡◌, ℕ, ◌+◌, Bool, true, false, List, [], ◌∷◌, ◌++◌, length, flat_map, map, Option, Some, None, refl}
use Rattle.std.proofs.Common.{◌∙◌}
use Rattle.std.proofs.lemmas.Grind.{flat_map-append}
use Rattle.dl_head.specs.declared.dialect.Dialect.{Dialect}
use Rattle.dl_field.specs.HeaderData.{HeaderData}
use Rattle.dl_rows.specs.declared.reader.Event.{Event}
use Rattle.dl_rows.specs.declared.reader.Event.TheVariants as event
use Rattle.dl_rows.specs.Items.{Item, unit_items}
use Rattle.dl_rows.specs.LineUnit.{ends_open, events, unit_rows}
use Rattle.dl_sections.specs.Around.{Block, whole, damaged, bytes_of, faults_in, blocks_visits, block_visits}
use Rattle.dl_sections.specs.Around.{Rest, begun, cut_off, broken, faults_of, rest_faults, rest_visits, visits_around}
use Rattle.dl_table.specs.declared.fault.FaultKind.TheVariants.{Truncated}
use Rattle.dl_sections.specs.DamageTold.{damage_of_visit, damages_told}
use Rattle.dl_sections.specs.Section.{HeaderRead, Visit, of_damage, of_end, of_item, end_visits, event_visits, header_of, header_read, open_visit, unit_visits, visits}

pub told-append : (a b : List Visit) → damages_told (a ++ b) ≡ damages_told a ++ damages_told b
told-append a b = flat_map-append damage_of_visit a b

none_in_event : (offset : ℕ) (h : Option HeaderRead) (e : Event) (es : List Visit)
    → damages_told (event_visits offset h e ++ es) ≡ damages_told es
none_in_event offset None event.Header es = refl
none_in_event offset (Some h) event.Header es = refl
none_in_event offset h (event.Foreign version) es = refl
none_in_event offset h (event.Row r) es = refl
none_in_event offset h event.More es = refl
none_in_event offset h event.End es = refl
none_in_event offset h event.NoMemory es = refl

none_in_events : (offset : ℕ) (h : Option HeaderRead) (es : List Event)
    → damages_told (flat_map (event_visits offset h) es) ≡ []
none_in_events offset h [] = refl
none_in_events offset h (e ∷ es) =
    none_in_event offset h e (flat_map (event_visits offset h) es) ∙ none_in_events offset h es

pub none_in_items : (items : List Item) → damages_told (map of_item items) ≡ []
none_in_items [] = refl
none_in_items (item ∷ items) = none_in_items items

none_open : (is_open : Bool) (h : Option HeaderData) → damages_told (open_visit is_open ++ of_end h ∷ []) ≡ []
none_open true h = refl
none_open false h = refl

module _ (dialect : Dialect) where
  none_in_visits : (offset : ℕ) (b : List ℕ) → damages_told (visits dialect offset b) ≡ []
  none_in_visits offset b =
      let opened = flat_map (event_visits offset (header_read dialect b)) (events dialect b) in
      told-append opened (map of_item (unit_items dialect b))
      ∙ rw (none_in_events offset (header_read dialect b) (events dialect b)) (none_in_items (unit_items dialect b))

  none_in_unit : (offset : ℕ) (u : List ℕ) → damages_told (unit_visits dialect offset u) ≡ []
  none_in_unit offset u =
      rw (
        told-append (visits dialect offset u) (end_visits dialect u),
        none_in_visits offset u,
      ) (none_open (ends_open (unit_rows dialect u)) (header_of dialect u))

  of_blocks : (offset : ℕ) (blocks : List Block)
      → damages_told (blocks_visits dialect offset blocks) ≡ faults_in offset blocks
  of_blocks offset [] = refl
  of_blocks offset (whole u ∷ blocks) =
      rw (told-append (unit_visits dialect offset u) (blocks_visits dialect (offset + length u) blocks), none_in_unit offset u)
      (of_blocks (offset + length u) blocks)
  of_blocks offset (damaged front back at kind ∷ blocks) =
      let others = blocks_visits dialect (offset + length (front ++ back)) blocks in
      rw (
        told-append (block_visits dialect offset (damaged front back at kind)) others,
        told-append (visits dialect offset front) (of_damage offset (offset + at) kind ∷ []),
        none_in_visits offset front,
        of_blocks (offset + length (front ++ back)) blocks,
      ) refl

  of_rest : (offset : ℕ) (rest : Rest) → damages_told (rest_visits dialect offset rest) ≡ rest_faults offset rest
  of_rest offset (begun b) = none_in_visits offset b
  of_rest offset (cut_off b) =
      rw (told-append (visits dialect offset b) (of_damage offset (offset + length b) Truncated ∷ []), none_in_visits offset b) refl
  of_rest offset (broken front back at kind) =
      rw (told-append (visits dialect offset front) (of_damage offset (offset + at) kind ∷ []), none_in_visits offset front) refl

  -- all that is told of damage
  pub damages_around : (blocks : List Block) (rest : Rest)
      → damages_told (visits_around dialect blocks rest) ≡ faults_of blocks rest
  damages_around blocks rest =
      let n = length (bytes_of blocks) in
      rw (told-append (blocks_visits dialect 0 blocks) (rest_visits dialect n rest), of_blocks 0 blocks, of_rest n rest) refl
