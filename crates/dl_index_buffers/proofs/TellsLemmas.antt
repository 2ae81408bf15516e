-- What a location tells of what was found.
use Rattle.std.proofs.Common.{◌≡◌, ℕ, ◌==◌, ◌||◌, Bool, true, false, cond, List, ◌++◌, length, flat_map, Option, Some, None, is_some, refl, sym, ap, ap₂, ◌∙◌}
use Rattle.std.proofs.lemmas.Grind.{flat_map-append}
use Rattle.std.specs.Borrow.{Bor}
use Rattle.dl_index.specs.Shown.{text_told, texts_told}
use Rattle.dl_index.specs.declared.index.PathTexts.{PathTexts}
use Rattle.dl_index_buffers.specs.IndexRecords.{bytes_told, has_path}
use mir.Val.{bool_byte}

abbrev is_known : Bool → ℕ
is_known known = cond known 1 0

abbrev is_any : List (List ℕ) → ℕ
is_any parts = cond (length parts == 0) 0 1

pub byte_is : (x : Bool) → bool_byte x ≡ is_known x
byte_is true = refl
byte_is false = refl

-- the path is known where there is a text
known : (first second third : Option (Bor (List ℕ))) → is_known (is_some first || is_some second || is_some third)
    ≡ is_any (text_told first ++ text_told second ++ text_told third)
known None None None = refl
known None None (Some z) = refl
known None (Some y) None = refl
known None (Some y) (Some z) = refl
known (Some x) None None = refl
known (Some x) None (Some z) = refl
known (Some x) (Some y) None = refl
known (Some x) (Some y) (Some z) = refl

pub has_path_is : (texts : PathTexts) → bool_byte (has_path texts) ≡ is_any (texts_told texts)
has_path_is texts = byte_is (has_path texts) ∙ known texts.first texts.second texts.third

-- the texts of a path are those of its three, one after the other
pub texts_are : (texts : PathTexts) (x y z : List ℕ) → x ≡ bytes_told texts.first → y ≡ bytes_told texts.second
    → z ≡ bytes_told texts.third → x ++ y ++ z ≡ flat_map (λ (t : List ℕ). t) (texts_told texts)
texts_are texts x y z first second third =
    let a = text_told texts.first in
    let b = text_told texts.second in
    let c = text_told texts.third in
    let f : List ℕ → List ℕ = λ t. t in
    let both : flat_map f (a ++ b) ≡ flat_map f a ++ flat_map f b = flat_map-append f a b in
    let all : flat_map f (a ++ b ++ c) ≡ flat_map f (a ++ b) ++ flat_map f c = flat_map-append f (a ++ b) c in
    ap₂ (λ (p q : List ℕ). p ++ q) (ap₂ (λ (p q : List ℕ). p ++ q) first second) third
    ∙ sym (all ∙ ap (λ (p : List ℕ). p ++ flat_map f c) both)
