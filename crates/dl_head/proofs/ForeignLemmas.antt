-- A foreign version stays that of its unit.
use Rattle.std.proofs.Common.{◌≡◌, ℕ, List, [], ◌∷◌, ◌++◌, Some, refl, append-nil}
use Rattle.dl_num.specs.declared.fixed.Order.{Order}
use Rattle.dl_head.specs.declared.dialect.Dialect.{Dialect}
use Rattle.dl_field.specs.Layout.{foreign_version, following_all}
use Rattle.dl_head.specs.HeaderLayout.{header_layout}
use Rattle.dl_head.specs.Header.{cut_after, cut, foreign_in}
use Rattle.dl_head.proofs.CutLemmas.{cut-append}
use Rattle.dl_head.proofs.RefusalLaws.{foreign_last}

-- after a foreign version nothing is cut off
no_items : (order : Order) (version : ℕ) (begun b : List ℕ)
    → (cut_after order (foreign_version version) begun b).items ≡ []
no_items order version begun [] = refl
no_items order version begun (x ∷ b) = no_items order version (begun ++ x ∷ []) b

pub foreign_on : (dialect : Dialect) (b u : List ℕ) (version : ℕ) → foreign_in dialect b ≡ Some version
    → foreign_in dialect (b ++ u) ≡ Some version
foreign_on dialect b u version foreign =
    let items = (cut dialect b).items in
    let last = foreign_last (following_all (header_layout dialect) items) version foreign in
    rw (cut-append dialect b u, last, no_items dialect.order version (cut dialect b).rest u, append-nil items) foreign
