-- The texts of a line.
use Rattle.std.proofs.Common.{◌≡◌, ◌∙◌, ℕ, List, [], ◌∷◌, ◌++◌, true, false, refl, ap, codes}
use Rattle.std.specs.Fmt.{digits}
use Rattle.std.specs.Prelude.{◌^◌, flat_map}
use Rattle.std.proofs.lemmas.Grind.{flat_map-append}
use Rattle.dl_path.specs.Shown.{shown}
use Rattle.dl_listing.specs.Lines.{has_texts}
use Rattle.dl_listing.specs.Listing.{address_text, path_text}

pub known : (texts : List (List ℕ)) → has_texts texts ≡ true → path_text texts ≡ flat_map shown texts
known [] is = absurd (let no : false ≡ true = is in cc)
known (text ∷ texts) is = refl

pub unknown : (texts : List (List ℕ)) → has_texts texts ≡ false → path_text texts ≡ codes "??"
unknown [] is = refl
unknown (text ∷ texts) is = absurd (let no : true ≡ false = is in cc)

-- texts of which the last ones are apart
pub texts_apart : (a b c : List (List ℕ))
    → flat_map shown (a ++ b ++ c) ≡ flat_map shown a ++ flat_map shown b ++ flat_map shown c
texts_apart a b c =
    flat_map-append shown (a ++ b) c ∙ ap (λ (l : List ℕ). l ++ flat_map shown c) (flat_map-append shown a b)

pub last_end : codes "0x10000000000000000" ≡ address_text (2 ^ 64)
unfolding digits
last_end = refl
