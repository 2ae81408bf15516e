-- Where the texts of an index stand in its bytes.
use Rattle.std.proofs.Common.{◌≡◌, ℕ, ◌+◌, ◌-◌, ◌<◌, ◌≤◌, List, [], ◌∷◌, take, drop, length, length-drop, Option, Some, None, sym, ap, subst, ◌∙◌, arith}
use Rattle.std.proofs.lemmas.List.{drop-drop, drop-take, take-take, length-take-le}
use Rattle.std.proofs.lemmas.Bool.Decides.{nat_tests}
use Rattle.dl_index.specs.Layout.{texts_in, text_bytes_in, text_place_in, text_len_in}
use Rattle.dl_index.specs.Telling.{text_bytes, text_in}
use Rattle.std.specs.Borrow.{Bor}
use Rattle.std.specs.Prelude.{IfSome}
use Rattle.dl_index.specs.Shown.{text_told}
use Rattle.dl_index.specs.TextPlaces.{AreAt, StandsAt}
use Rattle.dl_index.specs.TextsOf.{ArePlacesOf, AreTextsOf, IsPlaceOf}
use Rattle.dl_index.specs.declared.index.FoundLine.{FoundLine}
use Rattle.dl_index.specs.declared.index.PathTexts.{PathTexts}

-- the number of a text that there is stands for one that lies inside
pub some_text : (b : List ℕ) (n : ℕ) (text : List ℕ) → text_in b n ≡ Some (text ∷ [])
    → (0 < n) × (n ≤ texts_in b) × (text_place_in b (n - 1) + text_len_in b (n - 1) ≤ text_bytes_in b)
    × (text ≡ text_bytes b (n - 1))
some_text b n text told = grind (arith, nat_tests)

-- text i, of the number that is one more
pub text_of : (b : List ℕ) (i n : ℕ) → n - 1 ≡ i → 0 < n → n ≤ texts_in b → text_place_in b i + text_len_in b i ≤ text_bytes_in b
    → text_in b n ≡ Some (text_bytes b i ∷ [])
text_of b i n is some there within =
    let inside = subst (λ j. text_place_in b j + text_len_in b j ≤ text_bytes_in b) (sym is) within in
    let told : text_in b n ≡ Some (text_bytes b (n - 1) ∷ []) = grind (arith, nat_tests) in
    told ∙ ap (λ j. Some (text_bytes b j ∷ [])) is

pub no_text_of : (b : List ℕ) (i n : ℕ) → n - 1 ≡ i → 0 < n → text_bytes_in b < text_place_in b i + text_len_in b i
    → text_in b n ≡ None
no_text_of b i n is some outside =
    let without = subst (λ j. text_bytes_in b < text_place_in b j + text_len_in b j) (sym is) outside in
    grind (arith, nat_tests)

-- bytes of the part that begins at a place
pub bytes_of_part : (b p : List ℕ) (at all place len : ℕ) → p ≡ take all (drop at b) → at + all ≤ length b → place + len ≤ all
    → StandsAt b (at + place) (take len (drop place p))
bytes_of_part b p at all place len is within inside =
    let split : place + (all - place) ≡ all = omega arith in
    let same : take len (drop place p) ≡ take len (drop (at + place) b) =
    ap (λ x. take len (drop place x)) is ∙ ap (λ n. take len (drop place (take n (drop at b)))) (sym split)
    ∙ ap (take len) (drop-take place (all - place) (drop at b))
    ∙ take-take len (all - place) (drop place (drop at b)) (omega arith)
    ∙ ap (take len) (drop-drop place at b) in
    let left = length-drop (at + place) b in
    let long : length (take len (drop place p)) ≡ len = ap length same ∙ length-take-le len (drop (at + place) b) (omega arith) in
    record {
      within = omega arith;
      bytes = same ∙ ap (λ n. take n (drop (at + place) b)) (sym long);
    }

-- what is left of bytes after a part
pub next_is : (b x : List ℕ) (at n next : ℕ) → next ≡ at + n → drop at b ≡ x → drop next b ≡ drop n x
next_is b x at n next is left = ap (λ m. drop m b) is ∙ sym (drop-drop n at b) ∙ ap (drop n) left

-- a text by its number, at the place of that number
one_at : (b : List ℕ) (n place : ℕ) (text : Option (Bor (List ℕ))) → text_in b n ≡ Some (text_told text) → IsPlaceOf b n place
    → IfSome text (λ t. StandsAt b place t.now)
one_at b n place None told is = tt
one_at b n place (Some t) told is = is t.now told

pub texts_are_at : (b : List ℕ) (f : ℕ) (found : FoundLine) (texts : PathTexts) → AreTextsOf b f texts
    → ArePlacesOf b f found.places → found.texts ≡ texts → AreAt b found
texts_are_at b f found texts are places same =
    let told = subst (AreTextsOf b f) (sym same) are in
    record {
      first = one_at b _ _ found.texts.first told.first places.first;
      second = one_at b _ _ found.texts.second told.second places.second;
      third = one_at b _ _ found.texts.third told.third places.third;
    }
