-- The header reader takes a value of a table at once: what it answers on the way, and the bytes that it stands for
-- then.
use Rattle.std.proofs.Common.{◌≡◌, ℕ, zero, suc, ◌+◌, ◌-◌, ◌≤◌, List, [], ◌∷◌, ◌++◌, length, Option, Some, None, Ok}
use Rattle.std.proofs.Common.{refl, sym, ap, subst, ◌∙◌, arith, append_assoc, append-nil, length-append}
use Rattle.dl_num.specs.declared.fixed.Order.{Order}
use Rattle.dl_head.specs.declared.dialect.Dialect.{Dialect}
use Rattle.dl_field.specs.declared.field_step.FieldStep.TheVariants as byte_makes
use Rattle.dl_head.specs.declared.reader.HeadReader.{HeadReader}
use Rattle.dl_table.specs.Value.{good}
use Rattle.dl_field.specs.Layout.{Layout, initial_length_then, number_then, form_then, value_then, path_or_end}
use Rattle.dl_field.specs.Layout.{foreign_version, last_entry, Item, following_all, field_spelt}
use Rattle.dl_head.specs.HeaderLayout.{header_layout}
use Rattle.dl_head.specs.Refusal.{header_decided}
use Rattle.dl_field.specs.TableMoves.{Adds}
use Rattle.dl_head.specs.Place.{Made, held_cells}
use Rattle.dl_head.specs.Standing.{Below, IsRead, Live, Unmade}
use Rattle.dl_head.specs.Whole.{Before}
use Rattle.dl_field.proofs.FieldLemmas.{none_some}
use Rattle.dl_head.proofs.CutLemmas.{before_none}
use Rattle.dl_head.proofs.HeaderEnds.{end_from, UpTo, EndIs, room_on}
use Rattle.dl_head.proofs.TakenBytes.{IsNext, end_is, quiet_at, field_more}
use Rattle.dl_head.proofs.StepCells.{cells_good_on}
use Rattle.dl_head.proofs.MovedReader.{Moved, read_within, read_ends}
use Rattle.dl_head.proofs.OfferLemmas.{before_join}

-- ---- bytes of a field up to its last one

module _ (r : HeadReader) (items : List Item) (end : EndIs r items)
    (next : IsNext (following_all (header_layout r.dialect) items))
  where
    abbrev layout : Layout
    layout = following_all (header_layout r.dialect) items

    -- b ends inside the field
    pub record Passing (b rest : List ℕ) : Type 0 where
      pub read : IsRead r.dialect b items rest
      pub below : Below (length b) r.end

    -- w ends it
    pub record Passed (b rest w : List ℕ) (i : Item) : Type 0 where
      pub read : IsRead r.dialect (b ++ w) (items ++ i ∷ []) []
      pub up_to : UpTo (length (b ++ w)) (end_from (items ++ i ∷ []))
      pub more : Before r.dialect b w

    one_before : (b rest : List ℕ) (x : ℕ) → Passing b rest → Before r.dialect b (x ∷ [])
    one_before b rest x p zero lt = rw (append-nil b) (field_more r b p.read end next p.below)
    one_before b rest x p (suc j) lt = absurd (omega (arith, lt))

    quiet_here : (b rest : List ℕ) → Passing b rest → header_decided r.dialect b ≡ None
    quiet_here b rest p = quiet_at r b p.read end p.below

    pub passes : (w b rest : List ℕ) (i : Item) → Passing b rest
        → field_spelt r.dialect.order layout (rest ++ w) ≡ good i → Below (length b + (length w - 1)) r.end
        → Passed b rest w i
    passes [] b rest i p spelt below = absurd
        (none_some p.read.unjudged (ap (λ (l : List ℕ). field_spelt r.dialect.order layout l)
        (sym (append-nil rest)) ∙ spelt))
    passes (x ∷ []) b rest i p spelt below =
        let here = subst (λ (o : Option ℕ). Below (length b) o) end.end p.below in
        record {
          read = read_ends x i p.read (quiet_here b rest p) spelt here;
          up_to = room_on r.dialect b x items rest i p.read.cut_is spelt here;
          more = one_before b rest x p;
        }
    passes (x ∷ y ∷ w) b rest i p spelt below =
        let longer : (rest ++ x ∷ []) ++ y ∷ w ≡ rest ++ x ∷ y ∷ w = append_assoc rest (x ∷ []) (y ∷ w) in
        let later : field_spelt r.dialect.order layout ((rest ++ x ∷ []) ++ y ∷ w) ≡ good i =
        ap (λ (l : List ℕ). field_spelt r.dialect.order layout l) longer ∙ spelt in
        let unjudged = before_none r.dialect.order layout (rest ++ x ∷ []) y w (Ok i) later in
        let on : Passing (b ++ x ∷ []) (rest ++ x ∷ []) = record {
          read = read_within x p.read (quiet_here b rest p) unjudged;
          below = below_less (length b + (length (x ∷ y ∷ w) - 1)) (length (b ++ x ∷ [])) r.end
              (omega (arith, length-append b (x ∷ []))) below;
        } in
        let q = passes (y ∷ w) (b ++ x ∷ []) (rest ++ x ∷ []) i on later
        (subst (λ (n : ℕ). Below n r.end)
        (let e : length b + (length (x ∷ y ∷ w) - 1) ≡ length (b ++ x ∷ [])
        + (length (y ∷ w) - 1) = omega (arith, length-append b (x ∷ [])) in e) below) in
        let same = append_assoc b (x ∷ []) (y ∷ w) in
        record {
          read = subst (λ (l : List ℕ). IsRead r.dialect l (items ++ i ∷ []) []) same q.read;
          up_to = subst (λ (l : List ℕ). UpTo (length l) (end_from (items ++ i ∷ []))) same q.up_to;
          more = before_join r.dialect b (x ∷ []) (y ∷ w) (one_before b rest x p) q.more;
        }
      where
        below_less : (m n : ℕ) (o : Option ℕ) → n ≤ m → Below m o → Below n o
        below_less m n None le lt = tt
        below_less m n (Some e) le lt = omega (arith, le, lt)

-- ---- a field is whole

-- what ends well is a field
pub good_next : (order : Order) (layout : Layout) (w : List ℕ) (i : Item) → field_spelt order layout w ≡ good i
    → IsNext layout
good_next order (initial_length_then next) w i spelt = tt
good_next order (number_then field next) w i spelt = tt
good_next order (form_then next) w i spelt = tt
good_next order (value_then format f next) w i spelt = tt
good_next order (path_or_end format pairs entries next) w i spelt = tt
good_next order (foreign_version v) w i spelt = absurd (none_some {a = Ok i} refl spelt)
good_next order (last_entry h) w i spelt = absurd (none_some {a = Ok i} refl spelt)

-- the reader has the bytes w more, which end the field
pub record Whole (r fin : HeadReader) (b w : List ℕ) : Type 0 where
  pub moved : Moved fin (b ++ w)
  pub more : Before r.dialect b w

pub whole_moved : (r fin : HeadReader) (b w : List ℕ) → (l : Live r b × Unmade r b)
    → Made r.dialect l.0.items (l.0.rest ++ w) byte_makes.Ends fin
    → Adds r.dialect.order (following_all (header_layout r.dialect) l.0.items) l.0.rest (l.0.rest ++ w) byte_makes.Ends
    (held_cells r)
    (held_cells fin)
    → fin.dialect ≡ r.dialect → fin.header ≡ r.header → fin.start ≡ length b + length w
    → fin.taken ≡ length b + length w → Below (length b + (length w - 1)) r.end → Whole r fin b w
whole_moved r fin b w l made adds dialect header start taken below = record {
  moved = record {
    items = items ++ made.0 ∷ [];
    rest = [];
    read = subst (λ (d : Dialect). IsRead d (b ++ w) (items ++ made.0 ∷ []) []) (sym dialect) passed.read;
    at = made.2;
    start_is = omega (arith, size, start);
    up_to = subst (λ (o : Option ℕ). UpTo (length (b ++ w)) o)
        (sym (end_is fin (items ++ made.0 ∷ []) [] made.2).end) passed.up_to;
    unmade = record {
      header = header ∙ l.1.header;
      cells_are = rw dialect (omega (
        arith,
        adds,
        l.1.cells_are,
        cells_good_on r.dialect b (b ++ w) items l.0.rest (l.0.rest ++ w) made.0 l.0.read.cut_is
            passed.read.cut_is made.1,
      ));
    };
    taken_is = taken ∙ sym size;
  };
  more = passed.more;
} where
  items : List Item
  items = l.0.items

  here : EndIs r items
  here = end_is r items l.0.rest l.0.at

  next : IsNext (following_all (header_layout r.dialect) items)
  next = good_next r.dialect.order (following_all (header_layout r.dialect) items) (l.0.rest ++ w) made.0 made.1

  passed : Passed r items here next b l.0.rest w made.0
  passed = passes r items here next w b l.0.rest made.0
      (record { read = l.0.read; below = l.0.below }) made.1 below

  size : length (b ++ w) ≡ length b + length w
  size = length-append b w
