-- Fronts of a unit: what a header and a length that stand in them are, and what they decide.
use Rattle.std.proofs.Common.{◌≡◌, ℕ, List, ◌∷◌, ◌++◌, Option, Some, None, refl, sym, ap, ◌∙◌, append_assoc}
use Rattle.dl_head.specs.declared.dialect.Dialect.{Dialect}
use Rattle.dl_field.specs.HeaderData.{HeaderData}
use Rattle.dl_field.specs.Layout.{following_all}
use Rattle.dl_head.specs.HeaderLayout.{header_layout}
use Rattle.dl_head.specs.Header.{Cut, cut_after, cut, unit_end, unit_len, header_in}
use Rattle.dl_head.specs.Refusal.{header_decided}
use Rattle.dl_head.proofs.CutLemmas.{cut-append}
use Rattle.dl_field.proofs.FieldLemmas.{none_some}
use Rattle.dl_head.proofs.HeaderLaws.{found_is_header, header_is_found}
use Rattle.dl_head.proofs.EarlyEnds.{unit_end-append}
use Rattle.dl_rows.specs.Refusal.{left_after, decided_after, unit_decided}
use Rattle.dl_rows.specs.UnitLaws.{RefusedInHeader}

-- a header stands there still where more bytes come
pub header_on : (dialect : Dialect) (b v : List ℕ) (h : HeaderData) (program : List ℕ)
    → header_in dialect b ≡ Some (h, program) → header_in dialect (b ++ v) ≡ Some (h, program ++ v)
header_on dialect b v h program e =
    let f = found_is_header dialect h b program e in
    ap (header_in dialect) (ap (λ (z : List ℕ). z ++ v) f.1 ∙ append_assoc f.0 program v)
    ∙ header_is_found dialect h f.0 (program ++ v) f.2

-- where there is none, there was none
pub no_header_before : (dialect : Dialect) (b v : List ℕ) → header_in dialect (b ++ v) ≡ None
    → header_in dialect b ≡ None
no_header_before dialect b v none = on (header_in dialect b) refl where
  on : (o : Option (HeaderData × List ℕ)) → header_in dialect b ≡ o → header_in dialect b ≡ None
  on None e = e
  on (Some (h, program)) e = absurd (none_some none (header_on dialect b v h program e))

-- the length that stands in the front of bytes is theirs
pub unit_len_on : (dialect : Dialect) (b v : List ℕ) (n : ℕ) → unit_len dialect b ≡ Some n
    → unit_len dialect (b ++ v) ≡ Some n
unit_len_on dialect b v n e =
    ap (λ (c : Cut). unit_end c.items) (cut-append dialect b v)
    ∙ unit_end-append (cut dialect b).items (cut_after dialect.order
    (following_all (header_layout dialect) (cut dialect b).items)
    (cut dialect b).rest v).items n e

-- what bytes without a whole header decide
pub decided_in_header : (dialect : Dialect) (b : List ℕ) → header_in dialect b ≡ None
    → unit_decided dialect b ≡ header_decided dialect b
decided_in_header dialect b none = ap (decided_after dialect b) none

pub refused_in_header : RefusedInHeader
refused_in_header dialect b at kind none = (
  λ r. record {
    place = rw left at r.place;
    decided = sym (decided_in_header dialect b none) ∙ r.decided;
    shortest = λ front x back e. sym (before front x back e) ∙ r.shortest front x back e;
  },
  λ r. record {
    place = rw left r.place;
    decided = decided_in_header dialect b none ∙ r.decided;
    shortest = λ front x back e. before front x back e ∙ r.shortest front x back e;
  },
)
  where
    left : left_after dialect b (header_in dialect b) ≡ (cut dialect b).rest
    left = ap (left_after dialect b) none

    before : (front : List ℕ) (x : ℕ) (back : List ℕ) → b ≡ front ++ x ∷ back
        → unit_decided dialect front ≡ header_decided dialect front
    before front x back e =
        decided_in_header dialect front (no_header_before dialect front (x ∷ back)
        (ap (header_in dialect) (sym e) ∙ none))
