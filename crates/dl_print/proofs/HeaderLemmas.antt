-- The lines of a header, part by part.
use Rattle.std.proofs.Common.{◌≡◌, ℕ, suc, ◌+◌, ◌<◌, List, [], ◌∷◌, ◌++◌, length, take, drop, get_or, Some, None}
use Rattle.std.proofs.Common.{slice_get, arith, sym, ap, ◌∙◌, append_assoc}
use Rattle.std.proofs.lemmas.List.{append-nil, take-append-drop, take_more, length-take}
use Rattle.std.proofs.lemmas.Grind.{flat_map-append}
use Rattle.std.proofs.lemmas.Option.{none-some, same_Some, slice_get-get_or}
use Rattle.std.specs.Option.{option_map}
use Rattle.dl_table.specs.declared.table.Pair.{Pair}
use Rattle.dl_table.specs.EntryData.{with_content}
use Rattle.dl_table.specs.Value.{Value}
use Rattle.dl_print.specs.ValueText.{Strings, named_value}
use Rattle.dl_print.specs.HeaderText.{items_text, entry_line, entry_lines}

-- a value after those that are done, and those that are left
module _ (s : Strings) (done : List (ℕ × Value)) (item : ℕ × Value) where
  pub items_more : items_text s (done ++ item ∷ []) ≡ items_text s done ++ named_value s item.0 item.1
  items_more =
      flat_map-append (λ (i : ℕ × Value). named_value s i.0 i.1) done (item ∷ [])
      ∙ ap (λ (l : List ℕ). items_text s done ++ l) (append-nil (named_value s item.0 item.1))

  pub items_split : (left : List (ℕ × Value))
      → items_text s (done ++ item ∷ left) ≡ items_text s done ++ named_value s item.0 item.1 ++ items_text s left
  items_split left =
      flat_map-append (λ (i : ℕ × Value). named_value s i.0 i.1) done (item ∷ left)
      ∙ sym (append_assoc (items_text s done) (named_value s item.0 item.1) (items_text s left))

module _ (s : Strings) (name : List ℕ) (pairs : List Pair) where
  entry_lines-append : (first : ℕ) (xs ys : List (List Value))
      → entry_lines s name pairs first (xs ++ ys) ≡ entry_lines s name pairs first xs
      ++ entry_lines s name pairs (first + length xs) ys
  entry_lines-append first [] ys = let e : first ≡ first + 0 = omega arith in ap (λ n. entry_lines s name pairs n ys) e
  entry_lines-append first (x ∷ xs) ys =
      let e : first + 1 + length xs ≡ first + suc (length xs) = omega arith in
      ap (λ (l : List ℕ). entry_line s name first (with_content pairs x) ++ l) (entry_lines-append (first + 1) xs ys
      ∙ ap (λ n. entry_lines s name pairs (first + 1) xs ++ entry_lines s name pairs n ys) e)
      ∙ sym (append_assoc (entry_line s name first (with_content pairs x)) (entry_lines s name pairs (first + 1) xs)
      (entry_lines s name pairs (first + suc (length xs)) ys))

  -- an entry after those that are done, and those that are left
  module _ (first : ℕ) (entries : List (List Value)) (i : ℕ) (d : List Value) (turn : i < length entries) where
    pub lines_more : entry_lines s name pairs first (take (i + 1) entries)
        ≡ entry_lines s name pairs first (take i entries)
        ++ entry_line s name (first + i) (with_content pairs (get_or entries i d))
    lines_more =
        let e : first + length (take i entries) ≡ first + i = omega (arith, length-take i entries) in
        ap (entry_lines s name pairs first) (take_more entries i d turn)
        ∙ entry_lines-append first (take i entries) (get_or entries i d ∷ [])
        ∙ ap (λ (l : List ℕ). entry_lines s name pairs first (take i entries) ++ l)
        (append-nil (entry_line s name (first + length (take i entries)) (with_content pairs (get_or entries i d)))
        ∙ ap (λ n. entry_line s name n (with_content pairs (get_or entries i d))) e)

    pub lines_split : entry_lines s name pairs first entries ≡ entry_lines s name pairs first (take i entries)
        ++ entry_line s name (first + i) (with_content pairs (get_or entries i d))
        ++ entry_lines s name pairs (first + length (take (i + 1) entries)) (drop (i + 1) entries)
    lines_split =
        ap (entry_lines s name pairs first) (sym (take-append-drop (i + 1) entries))
        ∙ entry_lines-append first (take (i + 1) entries) (drop (i + 1) entries)
        ∙ ap (λ (l : List ℕ). l
        ++ entry_lines s name pairs (first + length (take (i + 1) entries)) (drop (i + 1) entries)) lines_more

-- an entry that is lent, by its number
module _ (pairs : List Pair) (entries : List (List Value)) (i : ℕ) (turn : i < length entries) where
  held_at : option_map (with_content pairs) (slice_get entries i) ≡ Some (with_content pairs (get_or entries i []))
  held_at = ap (option_map (with_content pairs)) (slice_get-get_or entries i [] turn)

  pub items_at : (items : List (ℕ × Value)) → Some items ≡ option_map (with_content pairs) (slice_get entries i)
      → items ≡ with_content pairs (get_or entries i [])
  items_at items e = same_Some items (with_content pairs (get_or entries i [])) (e ∙ held_at)

  pub never_none : None ≡ option_map (with_content pairs) (slice_get entries i) → ⊥
  never_none e = none-some (with_content pairs (get_or entries i [])) (e ∙ held_at)
