-- The values of an entry, one after the other.
use Rattle.std.proofs.Common.{◌≡◌, ℕ, List, ◌∷◌, Result, Ok, Err, ap, ◌∙◌}
use Rattle.dl_info.specs.declared.front.FieldFault.{FieldFault}
use Rattle.dl_info.specs.declared.form.Encoding.{Encoding}
use Rattle.dl_info.specs.declared.abbreviation.Attribute.{Attribute}
use Rattle.dl_info.specs.Front.{◌>>=◌}
use Rattle.dl_info.specs.Forms.{Told, value_at}
use Rattle.dl_info.specs.Entries.{EntryData, values_at, with_value}

-- an entry that has said e so far comes to this
abbrev pub Gives : Encoding → EntryData → (rest : List ℕ) → Result (EntryData × List ℕ) FieldFault → List Attribute → Type 0
Gives encoding e rest whole attributes = values_at encoding attributes e rest ≡ whole

module _ (encoding : Encoding) (e : EntryData) (rest : List ℕ) (whole : Result (EntryData × List ℕ) FieldFault) (a : Attribute)
    (attributes : List Attribute) (gives : Gives encoding e rest whole (a ∷ attributes)) where
  abbrev onward : Result (Told × List ℕ) FieldFault → Result (EntryData × List ℕ) FieldFault
  onward r = r >>= λ v. values_at encoding attributes (with_value encoding.order a.name v.0 e) v.1

  pub value_stops : (s : FieldFault) → Err s ≡ value_at encoding a.form rest → Err s ≡ whole
  value_stops s stops = ap onward stops ∙ gives

  pub value_passed : (v : Told) (after : List ℕ) → Ok (v, after) ≡ value_at encoding a.form rest
      → Gives encoding (with_value encoding.order a.name v e) after whole attributes
  value_passed v after told = ap onward told ∙ gives
