-- The header reader with one byte more.
use Rattle.std.proofs.Common.{◌≡◌, ℕ, ◌+◌, List, [], ◌∷◌, ◌++◌, length, Option, None, sym, ap, subst, ◌∙◌, arith}
use Rattle.std.proofs.Common.{length-append, append-nil}
use Rattle.dl_head.specs.declared.dialect.Dialect.{Dialect}
use Rattle.dl_num.proofs.FrontLemmas.{front_before}
use Rattle.dl_field.specs.declared.field_step.FieldStep.TheVariants as byte_makes
use Rattle.dl_head.specs.declared.reader.HeadReader.{HeadReader}
use Rattle.dl_field.specs.Layout.{Item, following_all, field_spelt}
use Rattle.dl_head.specs.HeaderLayout.{header_layout}
use Rattle.dl_head.specs.Refusal.{header_decided, NothingBefore}
use Rattle.dl_field.specs.Cells.{rest_cells}
use Rattle.dl_head.specs.Cells.{cells}
use Rattle.dl_field.specs.TablePlace.{field_cells}
use Rattle.dl_head.specs.Place.{At, SameCounts, PushFollows, held_cells}
use Rattle.dl_head.specs.Standing.{Below, IsRead, Live, Unmade}
use Rattle.dl_head.proofs.CutLemmas.{cut_within, cut_good}
use Rattle.dl_head.proofs.HeaderEnds.{UpTo, below_next, end_from, ends_on}
use Rattle.dl_field.proofs.FieldLemmas.{field_empty}
use Rattle.dl_table.specs.Value.{good}
use Rattle.dl_head.proofs.TakenBytes.{end_is, live_quiet}
use Rattle.dl_head.proofs.StepCells.{cells_on}
use Rattle.dl_head.proofs.SamePlace.{Guards, counted}

-- ---- nothing shorter decides anything

pub nothing_on : (dialect : Dialect) (b : List ℕ) (x : ℕ) → NothingBefore (header_decided dialect) b
    → header_decided dialect b ≡ None → NothingBefore (header_decided dialect) (b ++ x ∷ [])
nothing_on dialect b x before none front y back e = let f = front_before b front x y back e in on f.0 f.1 where
  on : (z : List ℕ) → b ≡ front ++ z → header_decided dialect front ≡ None
  on [] is = ap (λ (l : List ℕ). header_decided dialect l) (sym (is ∙ append-nil front)) ∙ none
  on (c ∷ z) is = before front c z is

-- ---- one byte more

-- within the field
pub read_within : {d : Dialect} {b : List ℕ} {items : List Item} {rest : List ℕ} (x : ℕ) → IsRead d b items rest
    → header_decided d b ≡ None
    → field_spelt d.order (following_all (header_layout d) items) (rest ++ x ∷ []) ≡ None
    → IsRead d (b ++ x ∷ []) items (rest ++ x ∷ [])
read_within {d} {b} {items} {rest} x read quiet spelt = record {
  cut_is = cut_within d b x items rest read.cut_is spelt;
  unjudged = spelt;
  nothing_before = nothing_on d b x read.nothing_before quiet;
  ends_within = read.ends_within;
}

-- its last byte
pub read_ends : {d : Dialect} {b : List ℕ} {items : List Item} {rest : List ℕ} (x : ℕ) (i : Item)
    → IsRead d b items rest → header_decided d b ≡ None
    → field_spelt d.order (following_all (header_layout d) items) (rest ++ x ∷ []) ≡ good i
    → Below (length b) (end_from items) → IsRead d (b ++ x ∷ []) (items ++ i ∷ []) []
read_ends {d} {b} {items} {rest} x i read quiet spelt below = record {
  cut_is = cut_good d b x items rest i read.cut_is spelt;
  unjudged = field_empty d.order (following_all (header_layout d) (items ++ i ∷ []));
  nothing_before = nothing_on d b x read.nothing_before quiet;
  ends_within = ends_on d b x items rest i read.cut_is spelt below read.ends_within;
}

-- the reader has counted the last byte of b
pub record Moved (r : HeadReader) (b : List ℕ) : Type 0 where
  pub items : List Item
  pub rest : List ℕ
  pub read : IsRead r.dialect b items rest
  pub at : At r items rest
  pub start_is : r.start + length rest ≡ length b
  pub up_to : UpTo (length b) r.end
  pub unmade : Unmade r b
  pub taken_is : r.taken ≡ length b

-- the cells held, where the byte is taken
pub cells_taken : (r new : HeadReader) (b : List ℕ) (x : ℕ) (l : Live r b) → Unmade r b → SameCounts r new
    → held_cells new + rest_cells (following_all (header_layout r.dialect) l.items) l.rest
    ≡ held_cells r + field_cells r.dialect.order (following_all (header_layout r.dialect) l.items) (l.rest ++ x ∷ [])
    → held_cells new ≡ cells new.dialect (b ++ x ∷ [])
cells_taken r new b x l u same adds =
    rw same.dialect (omega (arith, adds, u.cells_are, cells_on r.dialect b x l.items l.rest l.read.cut_is))

pub moved_within : (r new : HeadReader) (g : Guards new) (b : List ℕ) (x t : ℕ) (l : Live r b) → Unmade r b
    → PushFollows r x byte_makes.Within new → t ≡ length b + 1
    → Moved (counted new g new.start t) (b ++ x ∷ [])
moved_within r new g b x t l u f count =
    let made = f.made l.items l.rest l.at in
    let same = (end_is new l.items (l.rest ++ x ∷ []) made.1).end ∙ sym (end_is r l.items l.rest l.at).end in
    record {
      items = l.items;
      rest = l.rest ++ x ∷ [];
      read = subst (λ (d : Dialect). IsRead d (b ++ x ∷ []) l.items (l.rest ++ x ∷ [])) (sym f.counts.dialect)
          (read_within x l.read (live_quiet r b l) made.0);
      at = made.1;
      start_is = omega (arith, f.counts.start, l.start_is, length-append b (x ∷ []), length-append l.rest (x ∷ []));
      up_to = subst (λ (n : ℕ). UpTo n new.end) (sym (length-append b (x ∷ [])))
          (below_next (length b) new.end (subst (λ (o : Option ℕ). Below (length b) o) (sym same) l.below));
      unmade = record {
        header = f.counts.header ∙ u.header;
        cells_are = cells_taken r new b x l u f.counts (f.cells l.items l.rest l.at);
      };
      taken_is = omega (arith, count, length-append b (x ∷ []));
    }
