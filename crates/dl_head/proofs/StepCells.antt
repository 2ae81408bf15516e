-- The cells that one byte more of a header adds.
use Rattle.std.proofs.Common.{◌≡◌, ℕ, ◌+◌, List, [], ◌∷◌, ◌++◌, Some, None, Ok, Err, refl, ap, arith, sum_by}
use Rattle.std.proofs.lemmas.List.Sums.{sum_by_push}
use Rattle.dl_head.specs.declared.dialect.Dialect.{Dialect}
use Rattle.dl_field.specs.Layout.{path_or_end, Layout, initial_length_then, number_then, form_then, value_then}
use Rattle.dl_field.specs.Layout.{foreign_version, last_entry, Item, following_all, field_spelt}
use Rattle.dl_table.specs.declared.form.Form.TheVariants as form
use Rattle.dl_table.specs.Value.{Judgement, good, bad}
use Rattle.dl_head.specs.HeaderLayout.{header_layout}
use Rattle.dl_head.specs.Header.{cut}
use Rattle.dl_field.specs.Cells.{item_cells, rest_cells}
use Rattle.dl_head.specs.Cells.{cut_cells, cells}
use Rattle.dl_field.specs.TablePlace.{field_cells}
use Rattle.dl_head.proofs.CutLemmas.{cut_of, cut_within, cut_good, cut_bad}

none_held : (layout : Layout) → rest_cells layout [] ≡ 0
none_held (value_then format form.String next) = refl
none_held (value_then format form.Block1 next) = refl
none_held (value_then format form.Block2 next) = refl
none_held (value_then format form.Block4 next) = refl
none_held (value_then format form.Block next) = refl
none_held (value_then format form.Data1 next) = refl
none_held (value_then format form.Data2 next) = refl
none_held (value_then format form.Data4 next) = refl
none_held (value_then format form.Data8 next) = refl
none_held (value_then format form.Data16 next) = refl
none_held (value_then format form.Udata next) = refl
none_held (value_then format form.Strp next) = refl
none_held (value_then format form.StrpSup next) = refl
none_held (value_then format form.LineStrp next) = refl
none_held (initial_length_then next) = refl
none_held (number_then field next) = refl
none_held (form_then next) = refl
none_held (path_or_end format pairs entries next) = refl
none_held (foreign_version v) = refl
none_held (last_entry h) = refl

abbrev judged_cells : Layout → List ℕ → Judgement Item → ℕ
judged_cells layout w o = elim o [
  | Some (Ok i) ↦ item_cells i
  | Some (Err kind) ↦ rest_cells layout w
  | None ↦
      rest_cells layout w
]

pub cells_on : (dialect : Dialect) (b : List ℕ) (x : ℕ) (items : List Item) (rest : List ℕ)
    → cut dialect b ≡ cut_of items rest
    → cells dialect (b ++ x ∷ []) + rest_cells (following_all (header_layout dialect) items) rest
    ≡ cells dialect b + field_cells dialect.order (following_all (header_layout dialect) items) (rest ++ x ∷ [])
cells_on dialect b x items rest e = on (field_spelt dialect.order layout w) refl where
  layout : Layout
  layout = following_all (header_layout dialect) items

  w : List ℕ
  w = rest ++ x ∷ []

  before : cells dialect b ≡ sum_by item_cells items + rest_cells layout rest
  before = ap (cut_cells dialect) e

  told : (o : Judgement Item) → field_spelt dialect.order layout w ≡ o
      → field_cells dialect.order layout w ≡ judged_cells layout w o
  told o is = ap (λ (j : Judgement Item). judged_cells layout w j) is

  on : (o : Judgement Item) → field_spelt dialect.order layout w ≡ o
      → cells dialect (b ++ x ∷ []) + rest_cells layout rest ≡ cells dialect b + field_cells dialect.order layout w
  on None is =
      let after : cells dialect (b ++ x ∷ []) ≡ sum_by item_cells items + rest_cells layout w =
      ap (cut_cells dialect) (cut_within dialect b x items rest e is) in
      omega (arith, before, after, told None is)
  on (Some (Err kind)) is =
      let after : cells dialect (b ++ x ∷ []) ≡ sum_by item_cells items + rest_cells layout w =
      ap (cut_cells dialect) (cut_bad dialect b x items rest kind e is) in
      omega (arith, before, after, told (bad kind) is)
  on (Some (Ok i)) is =
      let after : cells dialect (b ++ x ∷ []) ≡ sum_by item_cells (items ++ i ∷ [])
      + rest_cells (following_all (header_layout dialect) (items ++ i ∷ [])) [] =
      ap (cut_cells dialect) (cut_good dialect b x items rest i e is) in
      omega (
        arith,
        before,
        after,
        told (good i) is,
        none_held (following_all (header_layout dialect) (items ++ i ∷ [])),
        sum_by_push item_cells items i,
      )

-- b ends inside a field, and c with it
pub cells_good_on : (dialect : Dialect) (b c : List ℕ) (items : List Item) (rest w : List ℕ) (i : Item)
    → cut dialect b ≡ cut_of items rest → cut dialect c ≡ cut_of (items ++ i ∷ []) []
    → field_spelt dialect.order (following_all (header_layout dialect) items) w ≡ good i
    → cells dialect c + rest_cells (following_all (header_layout dialect) items) rest
    ≡ cells dialect b + field_cells dialect.order (following_all (header_layout dialect) items) w
cells_good_on dialect b c items rest w i e f is =
    let layout : Layout = following_all (header_layout dialect) items in
    let before : cells dialect b ≡ sum_by item_cells items + rest_cells layout rest = ap (cut_cells dialect) e in
    let after : cells dialect c ≡ sum_by item_cells (items ++ i ∷ [])
    + rest_cells (following_all (header_layout dialect) (items ++ i ∷ [])) [] = ap (cut_cells dialect) f in
    let told : field_cells dialect.order layout w ≡ item_cells i =
    ap (λ (j : Judgement Item). judged_cells layout w j) is in
    omega (
      arith,
      before,
      after,
      told,
      none_held (following_all (header_layout dialect) (items ++ i ∷ [])),
      sum_by_push item_cells items i,
    )
