-- The elements of an array, one after the other.
use Rattle.std.proofs.Common.{◌≡◌, ℕ, suc, ◌+◌, ◌<◌, List, [], ◌∷◌, ◌++◌, length, take, drop, get_or, arith, sym, ap, ◌∙◌, append_assoc}
use Rattle.std.proofs.lemmas.List.{append-nil, take-append-drop, take_more, length-take}
use Rattle.dl_dump_json.specs.Members.{comma_before, elements}

module _ {A : Type 0} (told : ℕ → A → List ℕ) where
  elements-append : (place : ℕ) (xs ys : List A)
      → elements told place (xs ++ ys) ≡ elements told place xs ++ elements told (place + length xs) ys
  elements-append place [] ys = let e : place ≡ place + 0 = omega arith in ap (λ (n : ℕ). elements told n ys) e
  elements-append place (x ∷ xs) ys =
      let e : place + 1 + length xs ≡ place + suc (length xs) = omega arith in
      ap (λ (l : List ℕ). (comma_before place ++ told place x) ++ l) (elements-append (place + 1) xs ys
      ∙ ap (λ (n : ℕ). elements told (place + 1) xs ++ elements told n ys) e)
      ∙ sym (append_assoc (comma_before place ++ told place x) (elements told (place + 1) xs)
      (elements told (place + suc (length xs)) ys))

  -- an element after those that are done, and those that are left
  module _ (xs : List A) (i : ℕ) (d : A) (turn : i < length xs) where
    pub elements_more : elements told 0 (take (i + 1) xs)
        ≡ elements told 0 (take i xs) ++ (comma_before i ++ told i (get_or xs i d))
    elements_more =
        let e : 0 + length (take i xs) ≡ i = omega (arith, length-take i xs) in
        ap (elements told 0) (take_more xs i d turn)
        ∙ elements-append 0 (take i xs) (get_or xs i d ∷ [])
        ∙ ap (λ (l : List ℕ). elements told 0 (take i xs) ++ l)
        (append-nil (comma_before (0 + length (take i xs)) ++ told (0 + length (take i xs)) (get_or xs i d))
        ∙ ap (λ (n : ℕ). comma_before n ++ told n (get_or xs i d)) e)

    pub elements_split : elements told 0 xs ≡ elements told 0 (take i xs) ++ (comma_before i ++ told i (get_or xs i d))
        ++ elements told (0 + length (take (i + 1) xs)) (drop (i + 1) xs)
    elements_split =
        ap (elements told 0) (sym (take-append-drop (i + 1) xs))
        ∙ elements-append 0 (take (i + 1) xs) (drop (i + 1) xs)
        ∙ ap (λ (l : List ℕ). l ++ elements told (0 + length (take (i + 1) xs)) (drop (i + 1) xs)) elements_more
