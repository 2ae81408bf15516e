-- Fields of a table that are taken at once, one after the other.
use Rattle.std.proofs.Common.{◌≡◌, ℕ, ◌+◌, ◌-◌, ◌≤◌, List, [], ◌∷◌, ◌++◌, length, take, refl, sym, ap, subst, ◌∙◌}
use Rattle.std.proofs.Common.{arith, append_assoc, append-nil, length-append}
use Rattle.std.specs.List.{concat}
use Rattle.std.proofs.lemmas.List.Folds.{concat-append}
use Rattle.std.proofs.Math.Seq.{take-append_seam}
use Rattle.dl_num.specs.declared.fixed.Order.{Order}
use Rattle.dl_table.specs.declared.form.Format.{Format}
use Rattle.dl_table.specs.TableData.{TableData}
use Rattle.dl_table.specs.Value.{good}
use Rattle.dl_field.specs.declared.list_reader.ListReader.{ListReader}
use Rattle.dl_field.specs.Cells.{rest_cells}
use Rattle.dl_field.specs.FieldRuns.{EndEach, TakesFields}
use Rattle.dl_field.specs.Layout.{Layout, Item, following, following_all, field_spelt}
use Rattle.dl_field.specs.ListPlace.{AmongList, TakesListed, SameList, list_cells}
use Rattle.dl_field.specs.TablePlace.{field_cells}
use Rattle.dl_field.proofs.FieldLemmas.{following_all-append}
use Rattle.dl_field.proofs.SameLists.{list_same}

-- a field more
each_push : (order : Order) (values : List (List ℕ)) (items : List Item) (layout : Layout) (rest w left : List ℕ)
    (i : Item) (before mid after : ℕ) → EndEach order layout rest values items before mid left → 1 ≤ length w
    → field_spelt order (following_all layout items) (left ++ w) ≡ good i
    → after + rest_cells (following_all layout items) left
    ≡ mid + field_cells order (following_all layout items) (left ++ w)
    → EndEach order layout rest (values ++ w ∷ []) (items ++ i ∷ []) before after []
each_push order [] [] layout rest w left i before mid after e some spelt adds = (
  after,
  some,
  ap (λ (l : List ℕ). field_spelt order layout (l ++ w)) (sym e.0) ∙ spelt,
  (let k : after + rest_cells layout rest ≡ before + field_cells order layout (rest ++ w) = omega (
    arith,
    adds,
    e.1,
    ap (λ (l : List ℕ). rest_cells layout l) e.0,
    ap (λ (l : List ℕ). field_cells order layout (l ++ w)) e.0,
  ) in k),
  (refl, refl),
)
each_push order (v ∷ values) (j ∷ items) layout rest w left i before mid after e some spelt adds = (
  e.0,
  e.1,
  e.2,
  e.3,
  each_push order values items (following layout j) [] w left i e.0 mid after e.4 some spelt adds,
)
each_push order [] (j ∷ items) layout rest w left i before mid after e some spelt adds = absurd e
each_push order (v ∷ values) [] layout rest w left i before mid after e some spelt adds = absurd e

-- ---- a run of values over some bytes, of which rest are left

module _ {T : Type 0} (order : Order) (Among : T → (TableData → Layout) → Layout → List ℕ → Type 0)
    (cells_of : T → ℕ)
  where
    pub record TakenUpTo (old : T) (bytes rest : List ℕ) (new : T) : Type 0 where
      pub front : List ℕ
      pub bytes_are : bytes ≡ front ++ rest
      pub takes : TakesFields order Among cells_of old front new

    -- the bytes w end the field that the reader is in
    abbrev pub EndsField : T → List ℕ → T → Type 0
    EndsField old w new = (next : TableData → Layout) (layout : Layout) (rest : List ℕ) → Among old next layout rest
        → (i : Item) × (field_spelt order layout (rest ++ w) ≡ good i)
        × (cells_of new + rest_cells layout rest ≡ cells_of old + field_cells order layout (rest ++ w))
        × Among new next (following layout i) []

    pub run_none : (old : T) (bytes : List ℕ) → TakenUpTo old bytes bytes old
    run_none old bytes = record {
      front = [];
      bytes_are = refl;
      takes = record {
        values = [];
        bytes_are = refl;
        each = λ next layout rest among. ([], rest, (refl, refl), among);
      };
    }

    pub run_on : (old mid new : T) (bytes rest w tail : List ℕ) → TakenUpTo old bytes rest mid → rest ≡ w ++ tail
        → 1 ≤ length w → EndsField mid w new → TakenUpTo old bytes tail new
    run_on old mid new bytes rest w tail t is some ends = record {
      front = t.front ++ w;
      bytes_are = t.bytes_are ∙ ap (λ (l : List ℕ). t.front ++ l) is ∙ sym (append_assoc t.front w tail);
      takes = record {
        values = t.takes.values ++ w ∷ [];
        bytes_are = ap (λ (l : List ℕ). l ++ w) t.takes.bytes_are
            ∙ ap (λ (l : List ℕ). concat t.takes.values ++ l) (sym (append-nil w))
            ∙ sym (concat-append t.takes.values (w ∷ []));
        each = λ next layout rest among.
            let s = t.takes.each next layout rest among in
            let f = ends next (following_all layout s.0) s.1 s.3 in (
              s.0 ++ f.0 ∷ [],
              [],
              each_push order t.takes.values s.0 layout rest w s.1 f.0 (cells_of old) (cells_of mid) (cells_of new) s.2
                  some f.1 f.2,
              subst (λ (l : Layout). Among new next l []) (sym (following_all-append layout s.0 (f.0 ∷ []))) f.3,
            );
      };
    }

    pub run_ends : (old mid new : T) (bytes rest : List ℕ) → TakenUpTo old bytes rest mid
        → ((next : TableData → Layout) (layout : Layout) (w : List ℕ) → Among mid next layout w
        → Among new next layout w)
        → cells_of new ≡ cells_of mid
        → TakesFields order Among cells_of old (take (length bytes - length rest) bytes) new
    run_ends old mid new bytes rest t same cells = record {
      values = t.takes.values;
      bytes_are =
          ap (λ (l : List ℕ). take (length bytes - length rest) l) t.bytes_are
          ∙ ap (λ (n : ℕ). take n (t.front ++ rest))
          (let e : length bytes - length rest ≡ length t.front = omega
          (arith, ap length t.bytes_are, length-append t.front rest) in e)
          ∙ take-append_seam t.front rest ∙ t.takes.bytes_are;
      each = λ next layout w among.
          let s = t.takes.each next layout w among in (
            s.0,
            s.1,
            subst (λ (n : ℕ). EndEach order layout w t.takes.values s.0 (cells_of old) n s.1) (sym cells) s.2,
            same next (following_all layout s.0) s.1 s.3,
          );
    }

-- a run of values, of readers that stand for others where it begins and where it ends
pub run_between : {T U : Type 0} (order : Order) (Among : T → (TableData → Layout) → Layout → List ℕ → Type 0)
    (Stands : U → (TableData → Layout) → Layout → List ℕ → Type 0) (cells_of : T → ℕ) (cells_in : U → ℕ)
    (old mid : T) (first new : U) (bytes rest : List ℕ) → TakenUpTo order Among cells_of old bytes rest mid
    → ((next : TableData → Layout) (layout : Layout) (w : List ℕ) → Stands first next layout w
    → Among old next layout w)
    → cells_in first ≡ cells_of old
    → ((next : TableData → Layout) (layout : Layout) (w : List ℕ) → Among mid next layout w → Stands new next layout w)
    → cells_in new ≡ cells_of mid
    → TakesFields order Stands cells_in first (take (length bytes - length rest) bytes) new
run_between order Among Stands cells_of cells_in old mid first new bytes rest t begins cells ends more =
    let run = run_ends order Among cells_of old mid mid bytes rest t (λ next layout w among. among) refl in
    record {
      values = run.values;
      bytes_are = run.bytes_are;
      each = λ next layout w stands.
          let s = run.each next layout w (begins next layout w stands) in (
            s.0,
            s.1,
            subst (λ (n : ℕ). EndEach order layout w run.values s.0 n (cells_in new) s.1) (sym cells)
                (subst (λ (n : ℕ). EndEach order layout w run.values s.0 (cells_of old) n s.1) (sym more) s.2),
            ends next (following_all layout s.0) s.1 s.3,
          );
    }

-- ---- the reader of a table of versions 2 to 4

pub listed_value : (order : Order) (format : Format) (old new : ListReader) (bytes tail : List ℕ)
    → (v : TakesListed old bytes tail new) → EndsField order (AmongList format) list_cells old v.front new
listed_value order format old new bytes tail v = λ next layout rest among.
    let made = v.takes.made among.1 order format next layout rest among.0 in
    (made.0, made.1, v.takes.cells among.1 order format next layout rest among.0, (made.2, v.going))

pub list_kept : (format : Format) (old new : ListReader) → SameList old new → (next : TableData → Layout)
    (layout : Layout) (rest : List ℕ) → AmongList format old next layout rest → AmongList format new next layout rest
list_kept format old new same next layout rest among =
    (list_same old new format next layout rest same among.0, λ whole. among.1 (sym same.phase ∙ whole))
