-- Where units of version 5 alone are read, each header is of version 5.
use Rattle.std.proofs.Common.{◌≡◌, ℕ, ◌-◌, Bool, true, false, if◌then◌else◌, List, [], None, inl, inr, refl, ap}
use Rattle.std.proofs.lemmas.Bool.{cases_eq, eq-eqb, ne_eqb}
use Rattle.dl_table.specs.declared.form.Format.{Format}
use Rattle.dl_field.specs.declared.params.Params.{Params}
use Rattle.dl_field.specs.HeaderData.{HeaderData}
use Rattle.dl_field.specs.Layout.{following_all}
use Rattle.dl_head.specs.declared.dialect.Dialect.{Dialect}
use Rattle.dl_head.specs.declared.dialect.Older.TheVariants as older
use Rattle.dl_head.specs.Dialect.{older_bytes, older_size}
use Rattle.dl_head.specs.HeaderLayout.{header_layout, tables_layout, from_files, from_end, from_address_size}
use Rattle.dl_head.specs.HeaderLayout.{format_alone}
use Rattle.dl_head.specs.Header.{IsHeader}
use Rattle.dl_head.proofs.HeaderLaws.{made_last}
use Rattle.dl_head.proofs.Openings.{after_length}
use Rattle.dl_rows.proofs.HeaderParams.{LeadsTo, leads_all, leads_table, leads_lengths}

abbrev IsOwn : HeaderData → Type 0
IsOwn h = h.params.version ≡ 5

own_tables : (p : Params) → p.version ≡ 5 → LeadsTo ⊥ IsOwn (tables_layout p)
own_tables p own =
    rw (eq-eqb p.version 5 own)
    (leads_table ⊥ IsOwn p.format (from_files p)
    (λ directories. leads_table ⊥ IsOwn p.format (from_end p directories) (λ files. own)))

own_fields : (format : Format) (unit_length : ℕ)
    → LeadsTo ⊥ IsOwn (from_address_size unit_length (format_alone format))
own_fields format unit_length =
    λ address size a segment s b header h c minimum m d maximum operations e is_stmt i f base j g range lines k opcodes
    some l.
    leads_lengths ⊥ IsOwn 1 (opcodes - 1) [] _ (λ lengths count. own_tables _ refl)

none_older : (dialect : Dialect) (v : ℕ) → dialect.older ≡ older.Foreign → older_size dialect v ≡ None
none_older dialect v alone = by _ where
  by : (b : Bool) → (if b then older_bytes dialect.older else None) ≡ None
  by true = ap older_bytes alone
  by false = refl

own_after : (dialect : Dialect) (format : Format) (n v : ℕ) → dialect.older ≡ older.Foreign
    → LeadsTo ⊥ IsOwn (after_length dialect format n v)
own_after dialect format n v alone = elim (cases_eq v 5) [
  | inl same ↦ rw (eq-eqb v 5 same) (own_fields format n)
  | inr other ↦ rw (ne_eqb v 5 other)
      (rw (none_older dialect v alone) tt)
]

pub own_version : (dialect : Dialect) (h : HeaderData) (w : List ℕ) → dialect.older ≡ older.Foreign
    → IsHeader dialect h w → h.params.version ≡ 5
own_version dialect h w alone is =
    rw (made_last (following_all (header_layout dialect) is.items) h is.made) at
    (leads_all ⊥ IsOwn dialect.order (header_layout dialect) is.items is.fields (λ never. absurd never) is.spelt
    (λ format n v fits few. own_after dialect format n v alone))
