-- The texts that are kept, and the numbers of texts that files have. No promise rests on how this is said.
use Rattle.std.specs.Prelude.{ℕ, suc, ◌≡◌, ◌≤◌, List, length, map, get_or}
use Rattle.std.specs.List.{All}
use Rattle.std.specs.Global.{Vec}
use Rattle.indexmap.specs.IndexSet.{IndexSet}
use Rattle.dl_pack.specs.declared.names.FileTexts.{FileTexts}

abbrev pub HasTexts : ℕ → FileTexts → Type 0
HasTexts count f = All (λ n. n ≤ count) f.texts

abbrev pub texts_in : {S : Type 0} → IndexSet (Vec ℕ) S → List (List ℕ)
texts_in texts = map (λ text. text.items) texts.keys

-- three numbers, and after 0, which stands for no text, none but 0
pub record Packed (numbers : List ℕ) : Type 0 where
  pub three : length numbers ≡ 3
  pub last : (i : ℕ) → get_or numbers i 0 ≡ 0 → get_or numbers (suc i) 0 ≡ 0
