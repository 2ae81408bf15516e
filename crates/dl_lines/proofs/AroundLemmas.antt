-- What visits of a section around damaged units tell, and a damaged unit of a seeker.
use Rattle.std.proofs.Common.{◌≡◌, ℕ, ◌+◌, List, [], ◌∷◌, ◌++◌, length, Option, refl, sym, ap, ◌∙◌, append_assoc, append-nil, subst, arith}
use Rattle.dl_head.specs.declared.dialect.Dialect.{Dialect}
use Rattle.dl_table.specs.declared.fault.FaultKind.{FaultKind}
use Rattle.dl_table.specs.declared.fault.FaultKind.TheVariants.{Truncated}
use Rattle.dl_sections.specs.Around.{Block, whole, damaged, block_bytes, bytes_of, block_visits, blocks_visits}
use Rattle.dl_sections.specs.Around.{Rest, begun, cut_off, broken, rest_visits, visits_around}
use Rattle.dl_sections.specs.Section.{Visit, of_damage, visits}
use Rattle.std.proofs.Common.{Bool, false, slice_index_or}
use Rattle.dl_look.specs.LiveRows.{Tells}
use Rattle.dl_sections.specs.declared.around.Damage.{Damage}
use Rattle.dl_sections.specs.GoingOn.{IsTold}
use Rattle.dl_addr.proofs.LocatedLemmas.{no_live_rows}
use Rattle.dl_addr.proofs.RoomLemmas.{refused_within}
use Rattle.dl_lines.specs.declared.seeker.LineSeeker.{LineSeeker}
use Rattle.dl_lines.specs.Runs.{TellsFirst}
use Rattle.dl_lines.specs.Room.{told_room}
use Rattle.dl_lines.specs.Searching.{AllBecome, IsBegun, Stands}
use Rattle.dl_lines.specs.Seeking.{Hears, Seeking, current_places, known_of, no_path, seek_story, with_visit}
use Rattle.dl_lines.proofs.SearchLemmas.{begun as begun_search}
use Rattle.dl_lines.proofs.SeekLemmas.{step}
use Rattle.dl_lines.specs.AroundCommands.{places_along, places_around, places_in_block}
use Rattle.dl_lines.specs.Places.{CodePlace, Known}
use Rattle.dl_lines.specs.Seeking.{Heard, heard_after, nothing_heard}
use Rattle.dl_lines.proofs.HeardLemmas.{heard_more, no_places, room_more}
use Rattle.dl_lines.proofs.UnitLemmas.{IsAfter, front_same, of_unit}

module _ (known : Known) (dialect : Dialect) where
  after_damage : (heard : Heard) (offset at : ℕ) (front : List ℕ) (kind : FaultKind)
      → IsAfter known heard (heard_after known heard (visits dialect offset front ++ of_damage offset at kind ∷ [])) []
  after_damage heard offset at front kind =
      let same = heard_more known heard (visits dialect offset front) (of_damage offset at kind ∷ []) in
      record {
        ended = ap (λ (t : Heard). t.ended) same
            ∙ front_same known dialect offset front heard ∙ sym (append-nil heard.ended);
        path = ap (λ (t : Heard). t.path) same;
        rows = ap (λ (t : Heard). t.rows) same;
      }

  of_block : (heard : Heard) (offset : ℕ) (block : Block) → heard.rows ≡ []
      → IsAfter known heard (heard_after known heard (block_visits dialect offset block)) (places_in_block dialect known offset block)
  of_block heard offset (whole u) none = of_unit known dialect heard offset u none
  of_block heard offset (damaged front back at kind) none = after_damage heard offset (offset + at) front kind

  of_blocks : (heard : Heard) (offset : ℕ) (blocks : List Block) (more : List Visit) → heard.rows ≡ []
      → ((t : Heard) → (heard_after known t more).ended ≡ t.ended)
      → (heard_after known heard (blocks_visits dialect offset blocks ++ more)).ended
      ≡ heard.ended ++ places_along dialect known offset blocks
  of_blocks heard offset [] more none same = same heard ∙ sym (append-nil heard.ended)
  of_blocks heard offset (block ∷ blocks) more none same =
      let own = block_visits dialect offset block in
      let next = offset + length (block_bytes block) in
      let others = blocks_visits dialect next blocks in
      let mid = heard_after known heard own in
      let a = of_block heard offset block none in
      ap (λ (l : List Visit). (heard_after known heard l).ended) (append_assoc own others more)
      ∙ ap (λ (t : Heard). t.ended) (heard_more known heard own (others ++ more))
      ∙ of_blocks mid next blocks more a.rows same
      ∙ ap (λ (l : List CodePlace). l ++ places_along dialect known next blocks) a.ended
      ∙ append_assoc heard.ended (places_in_block dialect known offset block) (places_along dialect known next blocks)

  rest_same : (offset : ℕ) (rest : Rest) (heard : Heard) → (heard_after known heard (rest_visits dialect offset rest)).ended ≡ heard.ended
  rest_same offset (begun b) heard = front_same known dialect offset b heard
  rest_same offset (cut_off b) heard =
      (after_damage heard offset (offset + length b) b Truncated).ended ∙ append-nil heard.ended
  rest_same offset (broken front back at kind) heard =
      (after_damage heard offset (offset + at) front kind).ended ∙ append-nil heard.ended

  -- of a section
  pub of_around : (blocks : List Block) (rest : Rest)
      → (heard_after known nothing_heard (visits_around dialect blocks rest)).ended ≡ places_around dialect known blocks
  of_around blocks rest =
      of_blocks nothing_heard 0 blocks (rest_visits dialect (length (bytes_of blocks)) rest) refl
      (λ t. rest_same (length (bytes_of blocks)) rest t)

-- ---- a seeker is told of a damaged unit

module _ {M : Type 0} (refuses : M → ℕ → Type 0) (old new : LineSeeker M) (unit : ℕ) (damage : Damage)
    (begins : AllBecome IsBegun old.searches.items new.searches.items)
    (live : (is_live : ℕ → Bool) → Tells new.live is_live []) (statements : TellsFirst new.statements [])
    (same : new ≡ record old { searches = new.searches; live = new.live; statements = new.statements }) where
  damage_told : (first : LineSeeker M) (start held : Option (List ℕ)) (visits : List Visit)
      → Seeking refuses first old start held visits
      → Seeking refuses first new start held (visits ++ of_damage unit damage.offset damage.kind ∷ [])
  damage_told first start held visits s =
      step refuses first old start held visits s v new (ap (λ (l : LineSeeker M). l.code) same)
      (ap (λ (l : LineSeeker M). l.directories) same) (ap (λ (l : LineSeeker M). l.strings.now) same)
      (ap (λ (l : LineSeeker M). l.memory.now) same) whole_after
      (λ e wanted exact made_for. refused_within (refuses first.memory.now) (told_room known visits) (told_room known (visits ++ v ∷ []))
      (omega (arith, room_more known visits (v ∷ []))) (s.refused (sym refused_is ∙ e) wanted exact made_for)) where
        known : Known
        known = known_of first

        v : Visit
        v = of_damage unit damage.offset damage.kind

        heard : Heard
        heard = heard_after known nothing_heard visits

        refused_is : new.is_refused ≡ old.is_refused
        refused_is = ap (λ (l : LineSeeker M). l.is_refused) same

        whole_after : new.is_refused ≡ false → Hears first new (with_visit known heard v)
        whole_after e = record {
          live = live known.live;
          statements = subst (TellsFirst new.statements) (sym (no_live_rows known.live)) statements;
          searches = λ wanted exact made_for. (
              let stands = (s.whole (sym refused_is ∙ e)).searches wanted exact made_for in (
                begins.count ∙ stands.0,
                λ i d w lt. (
                    let at = slice_index_or new.searches.items i d in
                    subst (λ (l : List CodePlace). Stands at (slice_index_or wanted i w) exact heard.ended l no_path heard.row_count
                    heard.file_count) (sym (no_places known.live no_path))
                    (begun_search (slice_index_or old.searches.items i d) at (slice_index_or wanted i w) exact heard.ended
                    (current_places known heard) heard.path heard.row_count heard.file_count (stands.1 i d w lt)
                    (begins.each i d (omega (arith, lt, stands.0))))),
              ));
        }

  pub damage_is_told : IsTold (seek_story refuses) old new unit damage
  damage_is_told = record {
    tells = damage_told;
    quiet = λ first visits. refl;
    reasons = λ first visits offset kind r. let e = r.0 in absurd cc;
  }
