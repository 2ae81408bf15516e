-- What is kept of sequences, one visit more.
use Rattle.std.proofs.Common.{◌≡◌, ◌∙◌, ℕ, ◌+◌, List, [], ◌∷◌, ◌++◌, length, Bool, true, false, refl, sym, ap, ap₂, subst}
use Rattle.std.proofs.Common.{append-nil, append_assoc, length-append}
use Rattle.std.specs.Prelude.{flat_map, if◌then◌else◌, map, ◌&&◌}
use Rattle.std.proofs.lemmas.List.Concat.{flat_map-append}
use Rattle.dl_field.specs.HeaderData.{HeaderData}
use Rattle.dl_head.specs.declared.header.HeaderLengths.{HeaderLengths}
use Rattle.dl_rows.proofs.PlaceLemmas.{after_last-push}
use Rattle.dl_rows.specs.declared.row.Row.{Row}
use Rattle.dl_rows.specs.Items.{a_byte, a_row}
use Rattle.dl_look.proofs.MoreRows.{sequences-push, sequences-push_end}
use Rattle.dl_look.specs.Answer.{first_place, is_rising, sequences}
use Rattle.dl_sections.specs.Copying.{offset_after as unit_offset}
use Rattle.dl_sections.specs.Section.{Visit, of_header, of_item}
use Rattle.dl_sequence_rules.specs.Keeping.{AreDead}
use Rattle.dl_sequence_rules.specs.declared.ended.Ended.{Ended}
use Rattle.dl_lint.specs.Before.{is_header, of_unit, operation_offset, row_of, rows_told, sequence_told}
use Rattle.dl_lint.specs.Keeping.{KnowsSequences}
use Rattle.dl_lint.specs.RowRules.{row_seen}
use Rattle.dl_lint.specs.Sequences.{dead_first, dead_told, ended_after, ended_at, ended_in, live_in}
use Rattle.dl_lint.specs.Wanting.{keeps_sequences}
use Rattle.dl_lint.specs.declared.question.LintQuestion.{LintQuestion}
use Rattle.dl_lint.specs.declared.sequences_seen.SequencesSeen.{SequencesSeen}

-- ---- sequences that are kept

ended-append : (live : ℕ → Bool) (before a b : List Visit)
    → ended_after live before (a ++ b) ≡ ended_after live before a ++ ended_after live (before ++ a) b
ended-append live before [] b = ap (λ (l : List Visit). ended_after live l b) (sym (append-nil before))
ended-append live before (v ∷ a) b =
    ap (λ (l : List Ended). ended_at live before v ++ l) (ended-append live (before ++ v ∷ []) a b)
    ∙ sym (append_assoc (ended_at live before v) (ended_after live (before ++ v ∷ []) a)
    (ended_after live ((before ++ v ∷ []) ++ a) b))
    ∙ ap (λ (l : List Visit). (ended_at live before v ++ ended_after live (before ++ v ∷ []) a) ++ ended_after live l b)
    (append_assoc before (v ∷ []) a)

pub ended-push : (live : ℕ → Bool) (visits : List Visit) (v : Visit)
    → ended_in live (visits ++ v ∷ []) ≡ ended_in live visits ++ ended_at live visits v
ended-push live visits v =
    ended-append live [] visits (v ∷ [])
    ∙ ap (λ (l : List Ended). ended_in live visits ++ l) (append-nil (ended_at live visits v))

ended_same : (live : ℕ → Bool) (visits : List Visit) (v : Visit) → ended_at live visits v ≡ []
    → ended_in live (visits ++ v ∷ []) ≡ ended_in live visits
ended_same live visits v none =
    ended-push live visits v ∙ ap (λ (l : List Ended). ended_in live visits ++ l) none ∙ append-nil (ended_in live visits)

-- ---- rows of the current unit

rows-push : (visits : List Visit) (v : Visit) → is_header v ≡ false → rows_told (visits ++ v ∷ []) ≡ rows_told visits ++ row_of v
rows-push visits v other =
    ap (flat_map row_of)
    (after_last-push is_header visits v ∙ ap (λ (is : Bool). if is then [] else of_unit visits ++ v ∷ []) other)
    ∙ flat_map-append row_of (of_unit visits) (v ∷ [])
    ∙ ap (λ (l : List Row). rows_told visits ++ l) (append-nil (row_of v))

no_rows : (visits : List Visit) (n : ℕ) (l : HeaderLengths) (h : HeaderData) → rows_told (visits ++ of_header n l h ∷ []) ≡ []
no_rows visits n l h = ap (flat_map row_of) (after_last-push is_header visits (of_header n l h))

abbrev dead_in : (ℕ → Bool) → List Row → List ℕ
dead_in live rows = flat_map (dead_first live) (sequences rows)

-- ---- a visit at which no sequence begins or ends

module _ (q : LintQuestion) (visits : List Visit) (v : Visit) (seen : SequencesSeen)
    (dead : dead_told (live_in q) (visits ++ v ∷ []) ≡ dead_told (live_in q) visits) (none : ended_at (live_in q) visits v ≡ []) where
  stays : KnowsSequences q seen visits → KnowsSequences q seen (visits ++ v ∷ [])
  stays knows = record {
    dead = λ is. subst (AreDead seen.dead) (sym dead) (knows.dead is);
    ended = λ is. knows.ended is ∙ sym (ended_same (live_in q) visits v none);
  }

-- none with a row
pub sequences_quiet : (q : LintQuestion) (visits : List Visit) (v : Visit) → is_header v ≡ false → row_of v ≡ []
    → ended_at (live_in q) visits v ≡ [] → (seen : SequencesSeen) → KnowsSequences q seen visits
    → KnowsSequences q seen (visits ++ v ∷ [])
sequences_quiet q visits v other row none seen knows =
    stays q visits v seen
    (ap (dead_in (live_in q))
    (rows-push visits v other ∙ ap (λ (l : List Row). rows_told visits ++ l) row ∙ append-nil (rows_told visits))) none knows

-- bytes
pub sequences_bytes : (q : LintQuestion) (seen : SequencesSeen) (visits : List Visit) (bytes : List ℕ) → KnowsSequences q seen visits
    → KnowsSequences q seen (visits ++ map of_item (map a_byte bytes))
sequences_bytes q seen visits [] knows = subst (KnowsSequences q seen) (sym (append-nil visits)) knows
sequences_bytes q seen visits (b ∷ bytes) knows =
    subst (KnowsSequences q seen) (append_assoc visits (of_item (a_byte b) ∷ []) (map of_item (map a_byte bytes)))
    (sequences_bytes q seen (visits ++ of_item (a_byte b) ∷ []) bytes
    (sequences_quiet q visits (of_item (a_byte b)) refl refl refl seen knows))

-- before the first visit
pub sequences_none : (q : LintQuestion) (seen : SequencesSeen) → AreDead seen.dead [] → seen.ended.items ≡ []
    → KnowsSequences q seen []
sequences_none q seen dead none = record { dead = λ is. dead; ended = λ is. none }

-- a header
pub sequences_begin : (q : LintQuestion) (old new : SequencesSeen) (visits : List Visit) (n : ℕ) (l : HeaderLengths) (h : HeaderData)
    → AreDead new.dead [] → new.ended ≡ old.ended → KnowsSequences q old visits
    → KnowsSequences q new (visits ++ of_header n l h ∷ [])
sequences_begin q old new visits n l h dead same knows = record {
  dead = λ is. subst (AreDead new.dead) (sym (ap (dead_in (live_in q)) (no_rows visits n l h))) dead;
  ended = λ is. (rw same (knows.ended is)) ∙ sym (ended_same (live_in q) visits (of_header n l h) refl);
}

-- ---- a row

module _ (q : LintQuestion) (visits : List Visit) (h : HeaderData) (r : Row) where
  abbrev live : ℕ → Bool
  live = live_in q

  abbrev v : Visit
  v = of_item (a_row h r)

  -- the rows of its sequence
  abbrev s : List Row
  s = sequence_told visits ++ r ∷ []

  -- what is kept of it, where it is kept
  abbrev pub kept : Ended
  kept = record { unit = unit_offset 0 visits; offset = operation_offset visits; row = row_seen visits r; first = first_place s }

  abbrev kept_if : (b : Bool) → List Ended
  kept_if b = if b then kept ∷ [] else []

  told_rows : rows_told (visits ++ v ∷ []) ≡ rows_told visits ++ r ∷ []
  told_rows = rows-push visits v refl

  -- one that ends none
  pub sequences_on : (seen : SequencesSeen) → r.end_sequence ≡ false → KnowsSequences q seen visits
      → KnowsSequences q seen (visits ++ v ∷ [])
  sequences_on seen goes knows =
      stays q visits v seen
      (ap (dead_in live) told_rows ∙ ap (flat_map (dead_first live)) (sequences-push [] (rows_told visits) r goes))
      (ap (λ (b : Bool). kept_if (b && (live (first_place s).address && is_rising s))) goes) knows

  -- one that ends one
  module _ (ends : r.end_sequence ≡ true) where
    dead_more : dead_told live (visits ++ v ∷ []) ≡ dead_told live visits ++ dead_first live s
    dead_more =
        ap (dead_in live) told_rows
        ∙ ap (flat_map (dead_first live)) (sequences-push_end [] (rows_told visits) r ends)
        ∙ flat_map-append (dead_first live) (sequences (rows_told visits)) (s ∷ [])
        ∙ ap (λ (l : List ℕ). dead_told live visits ++ l) (append-nil (dead_first live s))

    -- which isn't live
    pub sequence_dies : (old new : SequencesSeen) → live (first_place s).address ≡ false → new.ended ≡ old.ended
        → ((firsts : List ℕ) → AreDead old.dead firsts → AreDead new.dead (firsts ++ (first_place s).address ∷ []))
        → KnowsSequences q old visits → KnowsSequences q new (visits ++ v ∷ [])
    sequence_dies old new isnt same adds knows = record {
      dead = λ is. subst (AreDead new.dead)
          (sym (dead_more
          ∙ ap (λ (b : Bool). dead_told live visits ++ (if b then [] else (first_place s).address ∷ [])) isnt))
          (adds (dead_told live visits) (knows.dead is));
      ended = λ is. (rw same (knows.ended is)) ∙ sym (ended_same live visits v none);
    } where
      none : ended_at live visits v ≡ []
      none = ap₂ (λ (a b : Bool). kept_if (a && (b && is_rising s))) ends isnt

    module _ (lives : live (first_place s).address ≡ true) where
      dead_same : dead_told live (visits ++ v ∷ []) ≡ dead_told live visits
      dead_same =
          dead_more
          ∙ ap (λ (b : Bool). dead_told live visits ++ (if b then [] else (first_place s).address ∷ [])) lives
          ∙ append-nil (dead_told live visits)

      -- whose places fall, or of which nothing is kept
      pub sequence_passes : (seen : SequencesSeen) → (keeps_sequences q ≡ true → is_rising s ≡ false)
          → KnowsSequences q seen visits → KnowsSequences q seen (visits ++ v ∷ [])
      sequence_passes seen falls knows = record {
        dead = λ is. subst (AreDead seen.dead) (sym dead_same) (knows.dead is);
        ended = λ is. knows.ended is ∙ sym (ended_same live visits v (none (falls is)));
      } where
        none : is_rising s ≡ false → ended_at live visits v ≡ []
        none fall = ap₂ (λ (a b : Bool). kept_if (a && (b && is_rising s))) ends lives ∙ ap kept_if fall

      module _ (rises : is_rising s ≡ true) where
        ended_more : ended_in live (visits ++ v ∷ []) ≡ ended_in live visits ++ kept ∷ []
        ended_more =
            ended-push live visits v
            ∙ ap (λ (l : List Ended). ended_in live visits ++ l) one where
              one : ended_at live visits v ≡ kept ∷ []
              one = ap₂ (λ (a b : Bool). kept_if (a && (b && is_rising s))) ends lives ∙ ap kept_if rises

        -- which is kept
        pub sequence_kept : (old new : SequencesSeen) (e : Ended) → e ≡ kept → new.dead ≡ old.dead
            → new.ended.items ≡ old.ended.items ++ e ∷ [] → KnowsSequences q old visits → KnowsSequences q new (visits ++ v ∷ [])
        sequence_kept old new e is dead more knows = record {
          dead = λ chosen. rw dead (subst (AreDead old.dead) (sym dead_same) (knows.dead chosen));
          ended = λ keeps. more ∙ ap₂ (λ (l : List Ended) (x : Ended). l ++ x ∷ []) (knows.ended keeps) is ∙ sym ended_more;
        }

        -- how many there are then
        pub sequence_counts : (old : SequencesSeen) → keeps_sequences q ≡ true → KnowsSequences q old visits
            → length old.ended.items + 1 ≡ length (ended_in live (visits ++ v ∷ []))
        sequence_counts old keeps knows =
            ap (λ (l : List Ended). length l + 1) (knows.ended keeps)
            ∙ sym (ap length ended_more ∙ length-append (ended_in live visits) (kept ∷ []))
