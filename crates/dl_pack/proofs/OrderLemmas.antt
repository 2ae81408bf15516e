-- The order of first mention, of one stretch or file more.
use Rattle.std.proofs.Common.{◌≡◌, ℕ, ◌+◌, ◌<◌, ◌≤◌, Bool, true, false, List, [], ◌∷◌, ◌++◌, length, get_or, take, drop, arith, length-append}
use Rattle.std.proofs.Common.{refl, sym, ap, subst, ◌∙◌}
use Rattle.std.specs.Prelude.{◌==◌, if◌then◌else◌}
use Rattle.std.specs.List.{All, flat_map}
use Rattle.std.proofs.lemmas.List.{take_more, append-nil, take-append-drop}
use Rattle.std.proofs.lemmas.Grind.{flat_map-append}
use Rattle.std.proofs.lemmas.List.Elements.{All-more}
use Rattle.dl_pack.specs.Faults.{AreTooMany}
use Rattle.dl_pack.specs.Numbering.{number_in, with_mention, mentioned}

pub mentioned-append : (order a b : List ℕ) → mentioned order (a ++ b) ≡ mentioned (mentioned order a) b
mentioned-append order [] b = refl
mentioned-append order (item ∷ a) b = mentioned-append (with_mention order item) a b

flat_push : {A : Type 0} (f : A → List ℕ) (xs : List A) (i : ℕ) (d : A) → i < length xs
    → flat_map f (take (i + 1) xs) ≡ flat_map f (take i xs) ++ f (get_or xs i d)
flat_push f xs i d lt =
    ap (flat_map f) (take_more xs i d lt) ∙ flat_map-append f (take i xs) (get_or xs i d ∷ [])
    ∙ ap (λ more. flat_map f (take i xs) ++ more) (append-nil (f (get_or xs i d)))

pub mentioned_more : {A : Type 0} (f : A → List ℕ) (xs : List A) (i : ℕ) (d : A) (before after : List ℕ) → i < length xs
    → before ≡ mentioned [] (flat_map f (take i xs)) → after ≡ mentioned before (f (get_or xs i d))
    → after ≡ mentioned [] (flat_map f (take (i + 1) xs))
mentioned_more f xs i d before after lt was is =
    is ∙ ap (λ order. mentioned order (f (get_or xs i d))) was
    ∙ sym (mentioned-append [] (flat_map f (take i xs)) (f (get_or xs i d)))
    ∙ sym (ap (mentioned []) (flat_push f xs i d lt))

-- the same of a list that is another one's
pub mentioned_items : (f : ℕ → List ℕ) (items order : List ℕ) (i d : ℕ) (before after : List ℕ) → items ≡ order
    → i < length items → before ≡ mentioned [] (flat_map f (take i order)) → after ≡ mentioned before (f (get_or items i d))
    → after ≡ mentioned [] (flat_map f (take (i + 1) order))
mentioned_items f items order i d before after same lt was is =
    mentioned_more f items i d before after lt (was ∙ ap (λ order. mentioned [] (flat_map f (take i order))) (sym same)) is
    ∙ ap (λ order. mentioned [] (flat_map f (take (i + 1) order))) same

-- what holds of the items of a list that is another one's
pub all_items : (P : ℕ → Type 0) (items order : List ℕ) (i d : ℕ) → items ≡ order → i < length items
    → All P (take i order) → P (get_or items i d) → All P (take (i + 1) order)
all_items P items order i d same lt before more =
    subst (λ order. All P (take (i + 1) order)) same
    (All-more P items i d lt (subst (λ order. All P (take i order)) (sym same) before) more)

-- ---- an order only grows

one_longer : (b : Bool) (order : List ℕ) (item : ℕ) → length order ≤ length (if b then order ++ item ∷ [] else order)
one_longer true order item = omega (arith, length-append order (item ∷ []))
one_longer false order item = omega arith

pub mentioned_longer : (order items : List ℕ) → length order ≤ length (mentioned order items)
mentioned_longer order [] = omega arith
mentioned_longer order (item ∷ items) =
    omega (arith, one_longer (number_in order item == 0) order item, mentioned_longer (with_mention order item) items)

-- too many of the first ones are too many of all
pub many_of_all : (order a b : List ℕ) → AreTooMany (mentioned order a) → AreTooMany (mentioned order (a ++ b))
many_of_all order a b many =
    subst AreTooMany (sym (mentioned-append order a b)) (omega (arith, many, mentioned_longer (mentioned order a) b))

-- of files up to one at a place, whose texts are mentioned after those before it
pub many_texts : (f : ℕ → List ℕ) (items order : List ℕ) (i d : ℕ) (before : List ℕ) → items ≡ order
    → i < length items → before ≡ mentioned [] (flat_map f (take i order)) → AreTooMany (mentioned before (f (get_or items i d)))
    → AreTooMany (mentioned [] (flat_map f order))
many_texts f items order i d before same lt was many =
    let upto : AreTooMany (mentioned [] (flat_map f (take (i + 1) order))) =
    subst AreTooMany (mentioned_items f items order i d before _ same lt was refl) many in
    subst (λ all. AreTooMany (mentioned [] (flat_map f all))) (take-append-drop (i + 1) order)
    (subst (λ all. AreTooMany (mentioned [] all)) (sym (flat_map-append f (take (i + 1) order) (drop (i + 1) order)))
    (many_of_all [] (flat_map f (take (i + 1) order)) (flat_map f (drop (i + 1) order)) upto))
