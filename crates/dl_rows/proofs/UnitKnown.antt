-- Bytes that have come to a header or a foreign version have a good initial length.
use Rattle.std.proofs.Common.{◌≡◌, ℕ, List, [], ◌∷◌, ◌++◌, Some, refl, sym, ap, subst, ◌∙◌, append-nil}
use Rattle.dl_head.specs.declared.dialect.Dialect.{Dialect}
use Rattle.dl_field.specs.HeaderData.{HeaderData}
use Rattle.dl_field.specs.Layout.{Item, following_all}
use Rattle.dl_head.specs.HeaderLayout.{header_layout}
use Rattle.dl_head.specs.Header.{Cut, cut, unit_end, unit_len, header_made, foreign_made, foreign_in, IsHeader}
use Rattle.dl_head.proofs.CutLemmas.{cut_of, cut_sound, Sound}
use Rattle.dl_field.proofs.FieldLemmas.{none_some}
use Rattle.dl_head.proofs.HeaderLaws.{header_cut}
use Rattle.dl_head.proofs.FirstFields.{is_length}

known_by : (dialect : Dialect) (b : List ℕ) (items : List Item) (rest : List ℕ) → cut dialect b ≡ cut_of items rest
    → (items ≡ [] → ⊥) → (n : ℕ) × (unit_len dialect b ≡ Some n)
known_by dialect b items rest e some =
    on items e some (subst (λ (c : Cut). Sound dialect.order (header_layout dialect) b c) e
    (cut_sound dialect.order (header_layout dialect) [] b)) where
      on : (items : List Item) → cut dialect b ≡ cut_of items rest → (items ≡ [] → ⊥)
          → Sound dialect.order (header_layout dialect) b (cut_of items rest) → (n : ℕ) × (unit_len dialect b ≡ Some n)
      on [] e some s = absurd (some refl)
      on (i ∷ more) e some s =
          let is = is_length dialect.order s.spelt.0 i s.spelt.3 in
          (_, ap (λ (c : Cut). unit_end c.items) e ∙ ap (λ (j : Item). unit_end (j ∷ more)) is.item)

pub foreign_known : (dialect : Dialect) (b : List ℕ) (v : ℕ) → foreign_in dialect b ≡ Some v
    → (n : ℕ) × (unit_len dialect b ≡ Some n)
foreign_known dialect b v foreign =
    known_by dialect b (cut dialect b).items (cut dialect b).rest refl
    (λ none. none_some (ap (λ (l : List Item). foreign_made (following_all (header_layout dialect) l)) none) foreign)

pub header_known : (dialect : Dialect) (h : HeaderData) (w : List ℕ) → IsHeader dialect h w
    → (n : ℕ) × (unit_len dialect w ≡ Some n)
header_known dialect h w is =
    known_by dialect w is.items (is.padding ++ [])
    (ap (cut dialect) (sym (append-nil w)) ∙ header_cut dialect h w [] is)
    (λ none. none_some {a = h} (ap (λ (l : List Item). header_made (following_all (header_layout dialect) l))
    none) is.made)
