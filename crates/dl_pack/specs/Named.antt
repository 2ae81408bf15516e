-- What the numbers of files and of texts stand for.
use Rattle.std.specs.Prelude.{◌≡◌, ℕ, zero, suc, List, [], ◌∷◌, ◌++◌, if◌then◌else◌, slice_get, get_or, Some}
use Rattle.std.specs.List.{list_any}
use Rattle.std.specs.Option.{option_to_list}
use Rattle.std.specs.Str.{bytes_eq}
use Rattle.dl_pack.specs.declared.names.FileTexts.{FileTexts}

-- a file: the offset of its unit in the line section, and its path as the texts whose concatenation it is (none where it
-- is unknown)
pub record Named : Type 0 where
  pub unit : ℕ
  pub parts : List (List ℕ)

-- the text of a number, counted from 1; none for 0, nor where there are fewer
abbrev pub text_of : List (List ℕ) → ℕ → List (List ℕ)
text_of texts zero = []
text_of texts (suc n) = option_to_list (slice_get texts n)

-- the texts of three numbers, of those that stand for one
abbrev pub parts_of : List (List ℕ) → List ℕ → List (List ℕ)
parts_of texts numbers =
    text_of texts (get_or numbers 0 0) ++ (text_of texts (get_or numbers 1 0) ++ text_of texts (get_or numbers 2 0))

abbrev pub file_of : List (List ℕ) → ℕ → List ℕ → Named
file_of texts unit numbers = record { unit = unit; parts = parts_of texts numbers }

-- what a file stands for
abbrev pub named : List (List ℕ) → FileTexts → Named
named texts f = file_of texts f.unit f.texts

-- each text is kept once: a new one goes last
abbrev pub with_text : List (List ℕ) → List ℕ → List (List ℕ)
with_text texts text = if list_any (bytes_eq text) texts then texts else texts ++ text ∷ []

-- each item stands once
abbrev pub Once : {A : Type 0} → List A → Type 0
Once {A} items = (i j : ℕ) (x : A) → slice_get items i ≡ Some x → slice_get items j ≡ Some x → i ≡ j

-- the later list is the earlier one, and more after it
abbrev pub Grows : {A : Type 0} → (old new : List A) → Type 0
Grows {A} old new = (more : List A) × (new ≡ old ++ more)
