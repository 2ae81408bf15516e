-- The header reader takes values of a table, one after the other.
use Rattle.std.proofs.Common.{◌≡◌, ◌≢◌, ℕ, ◌+◌, ◌-◌, ◌<◌, ◌≤◌, List, [], ◌∷◌, ◌++◌, length, take, Option, Some, None}
use Rattle.std.proofs.Common.{refl, sym, ap, subst, ◌∙◌, arith, append_assoc, append-nil, length-append}
use Rattle.std.specs.List.{concat}
use Rattle.std.proofs.lemmas.List.{length-take-le}
use Rattle.dl_num.specs.declared.fixed.Order.{Order}
use Rattle.dl_table.specs.Value.{good}
use Rattle.dl_field.specs.Cells.{rest_cells}
use Rattle.dl_field.specs.FieldRuns.{EndEach}
use Rattle.dl_field.specs.Layout.{Layout, Item, following, following_all, field_spelt}
use Rattle.dl_field.specs.TablePlace.{field_cells}
use Rattle.dl_field.proofs.FieldLemmas.{following_all-append}
use Rattle.dl_head.specs.declared.dialect.Dialect.{Dialect}
use Rattle.dl_head.specs.declared.reader.HeadReader.{HeadReader}
use Rattle.dl_head.specs.declared.reader.HeadStep.TheVariants as answer
use Rattle.dl_head.specs.Cells.{cells}
use Rattle.dl_head.specs.HeaderLayout.{header_layout}
use Rattle.dl_head.specs.Place.{Past, At, SameCounts, held_cells}
use Rattle.dl_head.specs.Reading.{Answers}
use Rattle.dl_head.specs.Standing.{Below, IsRead, Live, Unmade, ending, StandsFor}
use Rattle.dl_head.specs.Whole.{Before, IsInside, TakesAll, TakesFieldsOf, TakesValues}
use Rattle.dl_head.proofs.ByteCounted.{goes_on}
use Rattle.dl_head.proofs.HeaderEnds.{UpTo, after_end}
use Rattle.dl_head.proofs.TakenBytes.{IsNext}
use Rattle.dl_head.proofs.MovedReader.{Moved}
use Rattle.dl_head.proofs.OneByteMore.{goes_more, live_of, kept_stands}
use Rattle.dl_head.proofs.OfferLemmas.{before_join, takes_none}
use Rattle.dl_head.proofs.OneFieldMore.{past_more}
use Rattle.dl_head.proofs.SamePlace.{Guards, counted}
use Rattle.dl_head.proofs.StepCells.{cells_good_on}
use Rattle.dl_head.proofs.TurnLemmas.{front_taken}
use Rattle.dl_head.proofs.WholeSteps.{Passed, passes, good_next}

-- ---- values more

below_less : (m n : ℕ) (o : Option ℕ) → n ≤ m → Below m o → Below n o
below_less m n None le lt = tt
below_less m n (Some e) le lt = omega (arith, le, lt)

module _ (r : HeadReader) where
  abbrev layout_of : List Item → Layout
  layout_of items = following_all (header_layout r.dialect) items

  -- after b, which ends in the bytes rest of a field that goes on, n cells are held
  pub record Among (b rest : List ℕ) (items : List Item) (n : ℕ) : Type 0 where
    pub layout : Layout
    pub past : Past r items layout
    pub read : IsRead r.dialect b items rest
    pub below : Below (length b) r.end
    pub cells_are : n ≡ cells r.dialect b

  -- and no front of the bytes w after b comes to anything
  pub record Run (b w rest : List ℕ) (items : List Item) (n : ℕ) : Type 0 where
    pub among : Among (b ++ w) rest items n
    pub more : Before r.dialect b w

  -- a value
  value_on : (b rest w : List ℕ) (items : List Item) (i : Item) (m n : ℕ) → Among b rest items m
      → field_spelt r.dialect.order (layout_of items) (rest ++ w) ≡ good i
      → n + rest_cells (layout_of items) rest ≡ m + field_cells r.dialect.order (layout_of items) (rest ++ w)
      → Below (length b + length w) r.end → Run b w [] (items ++ i ∷ []) n
  value_on b rest w items i m n a spelt adds below = record {
    among = record {
      layout = following a.layout i;
      past = past_more i a.past;
      read = passed.read;
      below = subst (λ (k : ℕ). Below k r.end) (sym (length-append b w)) below;
      cells_are = omega (
        arith,
        adds,
        a.cells_are,
        cells_good_on r.dialect b (b ++ w) items rest (rest ++ w) i a.read.cut_is passed.read.cut_is spelt,
      );
    };
    more = passed.more;
  } where
    next : IsNext (layout_of items)
    next = good_next r.dialect.order (layout_of items) (rest ++ w) i spelt

    passed : Passed r items (after_end r items a.layout a.past) next b rest w i
    passed = passes r items (after_end r items a.layout a.past) next w b rest i
        (record { read = a.read; below = a.below }) spelt
        (below_less (length b + length w) (length b + (length w - 1)) r.end (omega arith) below)

  -- values, one after the other
  values_on : (values : List (List ℕ)) (more : List Item) (b rest left : List ℕ) (items : List Item) (m n : ℕ)
      → Among b rest items m → EndEach r.dialect.order (layout_of items) rest values more m n left
      → Below (length b + length (concat values)) r.end → Run b (concat values) left (items ++ more) n
  values_on [] [] b rest left items m n a e below = record {
    among = rw (append-nil b, append-nil items, e.0, e.1) a;
    more = λ j lt. absurd (omega (arith, lt));
  }
  values_on (w ∷ values) (i ∷ more) b rest left items m n a e below =
      let first = value_on b rest w items i m e.0 a e.2 e.3 (below_less (length b + length (w ++ concat values))
      (length b + length w) r.end (omega (arith, length-append w (concat values))) below) in
      let later = values_on values more (b ++ w) [] left (items ++ i ∷ []) e.0 n first.among
      (subst (λ (l : Layout). EndEach r.dialect.order l [] values more e.0 n left)
      (sym (following_all-append (header_layout r.dialect) items (i ∷ []))) e.4)
      (subst (λ (k : ℕ). Below k r.end)
      (let k : length b + length (w ++ concat values) ≡ length (b ++ w) + length (concat values) = omega
      (arith, length-append w (concat values), length-append b w) in k) below) in
      record {
        among = subst (λ (l : List ℕ). Among l left (items ++ i ∷ more) n) (append_assoc b w (concat values))
            (subst (λ (is : List Item). Among ((b ++ w) ++ concat values) left is n)
            (append_assoc items (i ∷ []) more) later.among);
        more = before_join r.dialect b w (concat values) first.more later.more;
      }
  values_on [] (i ∷ more) b rest left items m n a e below = absurd e
  values_on (w ∷ values) [] b rest left items m n a e below = absurd e

-- ---- how many values there are

-- after a value no byte of the next field has come
none_left : (order : Order) (layout : Layout) (values : List (List ℕ)) (more : List Item) (m n : ℕ) (left : List ℕ)
    → EndEach order layout [] values more m n left → left ≡ []
none_left order layout [] [] m n left e = e.0
none_left order layout (w ∷ values) (i ∷ more) m n left e = none_left order
    (following layout i) values more e.0 n left e.4
none_left order layout [] (i ∷ more) m n left e = absurd e
none_left order layout (w ∷ values) [] m n left e = absurd e

some_values : (order : Order) (layout : Layout) (rest : List ℕ) (values : List (List ℕ)) (more : List Item) (m n : ℕ)
    (left : List ℕ) → 1 ≤ length (concat values) → EndEach order layout rest values more m n left
    → (1 ≤ length values) × (left ≡ [])
some_values order layout rest [] more m n left some e = absurd (omega (arith, some))
some_values order layout rest (w ∷ values) (i ∷ more) m n left some e =
    (omega arith, none_left order (following layout i) values more e.0 n left e.4)
some_values order layout rest (w ∷ values) [] m n left some e = absurd e

no_values : (order : Order) (layout : Layout) (rest : List ℕ) (values : List (List ℕ)) (more : List Item) (m n : ℕ)
    (left : List ℕ) → length (concat values) ≡ 0 → EndEach order layout rest values more m n left
    → (more ≡ []) × (left ≡ rest) × (n ≡ m)
no_values order layout rest [] [] m n left none e = (refl, e.0, e.1)
no_values order layout rest (w ∷ values) (i ∷ more) m n left none e =
    absurd (omega (arith, none, length-append w (concat values), e.1))
no_values order layout rest [] (i ∷ more) m n left none e = absurd e
no_values order layout rest (w ∷ values) [] m n left none e = absurd e

-- ---- the reader after them

-- `whole_values`: no value is taken
pub nothing_whole : {r new : HeadReader} {b : List ℕ} (bytes : List ℕ) (used : ℕ) → used ≡ 0
    → TakesValues r (take used bytes) new → SameCounts r new → StandsFor r b → Answers r.dialect b answer.More
    → TakesAll r.dialect b [] new
nothing_whole {r} {new} {b} bytes used none v counts s more =
    takes_none r.dialect b new
    (kept_stands r new b goes s l (rw (same.0, append-nil l.0.items, same.1) at f.at) counts same.2) more
  where
    goes : ending r.phase ≡ None
    goes = goes_more r b s more

    l : Live r b × Unmade r b
    l = live_of r b goes s

    f : TakesFieldsOf r l.0.items l.0.rest v.values new
    f = v.each l.0.items l.0.rest l.0.at

    size : length (concat v.values) ≡ 0
    size = ap length (sym v.bytes_are) ∙ ap (λ (n : ℕ). length (take n bytes)) none

    same : (f.more ≡ []) × (f.left ≡ l.0.rest) × (held_cells new ≡ held_cells r)
    same = no_values r.dialect.order (following_all (header_layout r.dialect) l.0.items) l.0.rest v.values f.more
        (held_cells r) (held_cells new) f.left size f.ends

up_to_of : (n : ℕ) (o : Option ℕ) → Below n o → UpTo n o
up_to_of n None lt = tt
up_to_of n (Some e) lt = omega (arith, lt)

-- `whole_values`: values are taken, and counted
pub values_whole : {r mid : HeadReader} {b piece bytes : List ℕ} {t : ℕ} (used : ℕ) (g : Guards mid)
    → IsInside r piece bytes
    → 1 ≤ used → used ≤ length bytes → TakesValues r (take used bytes) mid → SameCounts r mid → t ≡ mid.taken + used
    → StandsFor r b → Answers r.dialect b answer.More
    → TakesAll r.dialect b (take used piece) (counted mid g t t)
values_whole {r} {mid} {b} {piece} {bytes} {t} used g inside some le v counts count s more =
    subst (λ (l : List ℕ). TakesAll r.dialect b l new)
    (sym v.bytes_are ∙ front_taken piece bytes inside.len used inside.bytes_are le)
    (record { stands = last.1; goes = rw counts.dialect at last.0; before = run.more })
  where
    new : HeadReader
    new = counted mid g t t

    w : List ℕ
    w = concat v.values

    goes : ending r.phase ≡ None
    goes = goes_more r b s more

    l : Live r b × Unmade r b
    l = live_of r b goes s

    f : TakesFieldsOf r l.0.items l.0.rest v.values mid
    f = v.each l.0.items l.0.rest l.0.at

    size : length w ≡ used
    size = ap length (sym v.bytes_are) ∙ length-take-le used bytes le

    ended : (1 ≤ length v.values) × (f.left ≡ [])
    ended = some_values r.dialect.order (following_all (header_layout r.dialect) l.0.items) l.0.rest v.values f.more
        (held_cells r) (held_cells mid) f.left (omega (arith, size, some)) f.ends

    past : (layout : Layout) × Past r l.0.items layout
    past = f.past ended.0

    header : ℕ
    header = past.1.header

    below : length b < header
    below = subst (λ (o : Option ℕ). Below (length b) o) past.1.end l.0.below

    lt : r.taken + length bytes < header
    lt = inside.below header past.1.end (omega (arith, below, s.taken))

    total : length (b ++ w) ≡ length b + used
    total = length-append b w ∙ ap (λ (n : ℕ). length b + n) size

    taken : t ≡ length (b ++ w)
    taken = omega (arith, count, counts.taken, s.taken, total)

    run : Run r b w f.left (l.0.items ++ f.more) (held_cells mid)
    run = values_on r v.values f.more b l.0.rest f.left l.0.items (held_cells r) (held_cells mid) (record {
      layout = past.0;
      past = past.1;
      read = l.0.read;
      below = l.0.below;
      cells_are = l.1.cells_are;
    }) f.ends (subst (λ (o : Option ℕ). Below (length b + length w) o) (sym past.1.end)
        (omega (arith, lt, size, le, s.taken)))

    among : Among r (b ++ w) [] (l.0.items ++ f.more) (held_cells mid)
    among = subst (λ (x : List ℕ). Among r (b ++ w) x (l.0.items ++ f.more) (held_cells mid)) ended.1 run.among

    moved : Moved new (b ++ w)
    moved = record {
      items = l.0.items ++ f.more;
      rest = [];
      read = subst (λ (d : Dialect). IsRead d (b ++ w) (l.0.items ++ f.more) []) (sym counts.dialect) among.read;
      at = subst (λ (x : List ℕ). At mid (l.0.items ++ f.more) x) ended.1 f.at;
      start_is = omega (arith, taken);
      up_to = up_to_of (length (b ++ w)) new.end
          (subst (λ (o : Option ℕ). Below (length (b ++ w)) o) (sym v.end) among.below);
      unmade = record {
        header = counts.header ∙ l.1.header;
        cells_are = among.cells_are ∙ ap (λ (d : Dialect). cells d (b ++ w)) (sym counts.dialect);
      };
      taken_is = taken;
    }

    not_end : new.end ≢ Some new.taken
    not_end e =
        let here : Below (length (b ++ w)) (Some new.taken) =
        subst (λ (o : Option ℕ). Below (length (b ++ w)) o) (sym v.end ∙ e) among.below in
        omega (arith, here, taken)

    last : Answers new.dialect (b ++ w) answer.More × StandsFor new (b ++ w)
    last = goes_on (ap ending v.phase ∙ goes) moved not_end
