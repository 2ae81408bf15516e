-- The rows of a plain run.
use Rattle.std.proofs.Common.{◌≡◌, ◌∙◌, ◌+◌, ℕ, List, [], ◌∷◌, ◌++◌, Option, Some, None, ap, arith, length, Bool, length-append, map, refl, cond}
use Rattle.std.proofs.lemmas.List.Sums.{sum_by-append}
use Rattle.std.specs.Prelude.{count_by, option_to_list}
use Rattle.dl_field.specs.declared.params.Params.{Params}
use Rattle.dl_field.specs.HeaderData.{HeaderData}
use Rattle.dl_rows.specs.declared.operation.Operation.{Operation}
use Rattle.dl_rows.specs.declared.operation.Operation.TheVariants as op
use Rattle.dl_rows.specs.declared.row.Row.{Row}
use Rattle.dl_rows.specs.Items.{a_byte, a_row, an_operation, rows_of_items}
use Rattle.dl_rows.specs.Plain.{Along, ArePlain, IsPlain, PlainOne, along, along_with, items_of_plain, items_of_plain_one}
use Rattle.dl_rows.proofs.ItemLemmas.{no_row_of_bytes, rows-append}

abbrev ends : List Row → ℕ
ends rows = count_by (λ (r : Row). r.end_sequence) rows

row_of_one : (header : HeaderData) (s : PlainOne) → rows_of_items (items_of_plain_one header s) ≡ option_to_list s.row
row_of_one header s =
    rows-append (map a_byte s.bytes) (an_operation header s.operation ∷ map (a_row header) (option_to_list s.row))
    ∙ ap (λ (l : List Row). l ++ rows_of_items (map (a_row header) (option_to_list s.row))) (no_row_of_bytes s.bytes)
    ∙ by s.row
  where
    by : (made : Option Row) → rows_of_items (map (a_row header) (option_to_list made)) ≡ option_to_list made
    by None = refl
    by (Some r) = refl

rows_of_more : (header : HeaderData) (s : PlainOne) (ss : List PlainOne)
    → rows_of_items (items_of_plain header (s ∷ ss)) ≡ option_to_list s.row ++ rows_of_items (items_of_plain header ss)
rows_of_more header s ss =
    rows-append (items_of_plain_one header s) (items_of_plain header ss)
    ∙ ap (λ (l : List Row). l ++ rows_of_items (items_of_plain header ss)) (row_of_one header s)

counted : (h : Params) (p : Along) (o : Operation) (made : Option Row)
    → (along_with h p o made).count ≡ length (option_to_list made) + p.count
counted h p (op.SetFile n) None = omega arith
counted h p (op.SetFile n) (Some r) = omega arith
counted h p o None = omega arith
counted h p o (Some r) = omega arith

no_end : (h : Params) (p : Along) (o : Operation) (made : Option Row) → IsPlain h p o made → ends (option_to_list made) ≡ 0
no_end h p o None is = refl
no_end h p o (Some r) is = ap (λ (b : Bool). 0 + cond b 1 0) is.row.1.within

-- how many there are, none of them an end row
pub rows_counted : (h : Params) (header : HeaderData) (p : Along) (ss : List PlainOne) → ArePlain h p ss
    → (length (rows_of_items (items_of_plain header ss)) + p.count ≡ (along h p ss).count)
    × (ends (rows_of_items (items_of_plain header ss)) ≡ 0)
rows_counted h header p [] all = (omega arith, refl)
rows_counted h header p (s ∷ ss) all =
    let one = option_to_list s.row in
    let left = rows_of_items (items_of_plain header ss) in
    let rest = rows_counted h header (along_with h p s.operation s.row) ss all.2 in
    let is = rows_of_more header s ss in (
      omega (arith, ap length is, length-append one left, counted h p s.operation s.row, rest.0),
      ap ends is ∙ sum_by-append (λ (r : Row). cond r.end_sequence 1 0) one left
          ∙ rw (no_end h p s.operation s.row all.0, rest.1) refl,
    )
