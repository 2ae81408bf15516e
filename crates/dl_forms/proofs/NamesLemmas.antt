-- What bytes name, by the unit that they begin with.
use Rattle.std.proofs.Common.{◌≡◌, ◌⊎◌, ◌↔◌, inl, inr, ℕ, ◌+◌, ◌-◌, ◌≤◌, Bool, true, false, List, ◌++◌, length, drop}
use Rattle.std.proofs.Common.{Option, Some, None, refl, sym, ap, subst, ◌∙◌, arith}
use Rattle.std.proofs.lemmas.List.{drop-drop, drop_at}
use Rattle.dl_head.specs.declared.dialect.Dialect.{Dialect}
use Rattle.dl_field.specs.HeaderData.{HeaderData}
use Rattle.dl_field.proofs.FieldLemmas.{none_some, some_same}
use Rattle.dl_head.specs.Header.{IsHeader, foreign_in, header_in, unit_len}
use Rattle.dl_head.proofs.ForeignLemmas.{foreign_on}
use Rattle.dl_head.proofs.HeaderLaws.{header_is_found, header_is_not_foreign}
use Rattle.dl_head.proofs.QuietLemmas.{header_is_not_refused}
use Rattle.dl_rows.proofs.UnitLemmas.{unit_len_on}
use Rattle.dl_object.specs.Section.{IsUnread, NoneFollows}
use Rattle.dl_forms.specs.Names.{Names, here, after, after_unread, named_in, names_str}

-- a header, or the front of a unit that isn't read, which w is
abbrev pub Kind : Dialect → List ℕ → Type 0
Kind dialect w = ((h : HeaderData) × IsHeader dialect h w) ⊎ IsUnread dialect w

-- unnamed header that b begins with names the section
abbrev NoneHere : Dialect → List ℕ → Type 0
NoneHere dialect b = (h : HeaderData) (head back : List ℕ) → b ≡ head ++ back → IsHeader dialect h head
    → names_str h ≡ true → ⊥

both : {b : Bool} → b ≡ true → b ≡ false → ⊥
both e f = let g : ◌≡◌ {A = Bool} true false = sym e ∙ f in absurd cc

-- where unnamed unit begins nothing is named
pub none_named : (dialect : Dialect) (b : List ℕ) → NoneFollows dialect b → Names dialect b → ⊥
none_named dialect b none (here {h = h} head back e is named) = none.none.own h head back e is
none_named dialect b none (after {h = h} head back e is told more) = none.none.own h head back e is
none_named dialect b none (after_unread head back {len = len} e (inl foreign) told le more) =
    none.none.foreign foreign.0 head back len e foreign.1 told le
none_named dialect b none (after_unread head back {len = len} e (inr refused) told le more) =
    none.refused head back len e refused told

-- the length of the unit that bytes begin with, told by its head
len_in : (dialect : Dialect) (b head back : List ℕ) (len : ℕ) → b ≡ head ++ back → unit_len dialect head ≡ Some len
    → unit_len dialect b ≡ Some len
len_in dialect b head back len e told = ap (unit_len dialect) e ∙ unit_len_on dialect head back len told

-- what is named, but not by the unit at the front
past_unit : (dialect : Dialect) (b : List ℕ) (len : ℕ) → unit_len dialect b ≡ Some len → NoneHere dialect b
    → Names dialect b → Names dialect (drop len b)
past_unit dialect b len told none (here {h = h} head back e is named) = absurd (none h head back e is named)
past_unit dialect b len told none (after head back {len = other} e is known more) =
    subst (λ (n : ℕ). Names dialect (drop n b))
    (some_same other len (sym (len_in dialect b head back other e known) ∙ told))
    more
past_unit dialect b len told none (after_unread head back {len = other} e is known le more) =
    subst (λ (n : ℕ). Names dialect (drop n b))
    (some_same other len (sym (len_in dialect b head back other e known) ∙ told))
    more

abbrev header_or : HeaderData → Option (HeaderData × List ℕ) → HeaderData
header_or h None = h
header_or h (Some found) = found.0

same_header : (h h2 : HeaderData) (back back2 : List ℕ)
    → ◌≡◌ {A = Option (HeaderData × List ℕ)} (Some (h, back)) (Some (h2, back2)) → h ≡ h2
same_header h h2 back back2 e = ap (header_or h) e

-- the header that w is names nothing
none_here_own : (dialect : Dialect) (h : HeaderData) (w rest : List ℕ) → IsHeader dialect h w → names_str h ≡ false
    → NoneHere dialect (w ++ rest)
none_here_own dialect h w rest is unnamed h2 head back e is2 named =
    let one = header_is_found dialect h w rest is in
    let two = ap (header_in dialect) e ∙ header_is_found dialect h2 head back is2 in
    both named (ap names_str (sym (same_header h h2 rest back (sym one ∙ two))) ∙ unnamed)

none_here_foreign : (dialect : Dialect) (version : ℕ) (w rest : List ℕ) → foreign_in dialect w ≡ Some version
    → NoneHere dialect (w ++ rest)
none_here_foreign dialect version w rest is h head back e own named =
    none_some (header_is_not_foreign dialect h head back own)
    (ap (foreign_in dialect) (sym e) ∙ foreign_on dialect w rest version is)

-- nor does what a reader of it gives
none_here : (dialect : Dialect) (w rest : List ℕ) (o : Option HeaderData) → Kind dialect w
    → ((h : HeaderData) → o ≡ Some h → IsHeader dialect h w) → (o ≡ None → (h : HeaderData) → IsHeader dialect h w → ⊥)
    → named_in o ≡ false → NoneHere dialect (w ++ rest)
none_here dialect w rest (Some h) kind some none unnamed = none_here_own dialect h w rest (some h refl) unnamed
none_here dialect w rest None (inl own) some none unnamed = absurd (none refl own.0 own.1)
none_here dialect w rest None (inr (inl foreign)) some none unnamed =
    none_here_foreign dialect foreign.0 w rest foreign.1
none_here dialect w rest None (inr (inr r)) some none unnamed =
    λ h head back e is named. header_is_not_refused dialect h head back w rest r.place r.kind is (sym e) r.refused

-- the head w of a unit of `len` bytes
module _ (dialect : Dialect) (w : List ℕ) (len : ℕ) (kind : Kind dialect w) (told : unit_len dialect w ≡ Some len)
    (le : length w ≤ len) (rest : List ℕ) where
  body : drop len (w ++ rest) ≡ drop (len - length w) rest
  body =
      let n : length w + (len - length w) ≡ len = omega (arith, le) in
      ap (λ (k : ℕ). drop k (w ++ rest)) (sym n) ∙ sym (drop-drop (len - length w) (length w) (w ++ rest))
      ∙ ap (drop (len - length w)) (drop_at w rest (length w) refl)

  named_after : (kind : Kind dialect w) → Names dialect (drop len (w ++ rest)) → Names dialect (w ++ rest)
  named_after (inl own) more = after {h = own.0} w rest {len = len} refl own.1 told more
  named_after (inr unread) more = after_unread w rest {len = len} refl unread told le more

  -- what follows the head names what follows the unit
  pub past_head : (o : Option HeaderData) → ((h : HeaderData) → o ≡ Some h → IsHeader dialect h w)
      → (o ≡ None → (h : HeaderData) → IsHeader dialect h w → ⊥) → named_in o ≡ false
      → Names dialect (w ++ rest) ↔ Names dialect (drop (len - length w) rest)
  past_head o some none unnamed = (
    λ found. subst (Names dialect) body (past_unit dialect (w ++ rest) len (unit_len_on dialect w rest len told)
        (none_here dialect w rest o kind some none unnamed) found),
    λ more. named_after kind (subst (Names dialect) (sym body) more),
  )

-- the header of w names the section, whatever follows
pub named_here : (dialect : Dialect) (w rest : List ℕ) (o : Option HeaderData)
    → ((h : HeaderData) → o ≡ Some h → IsHeader dialect h w) → named_in o ≡ true → Names dialect (w ++ rest)
named_here dialect w rest (Some h) some named = here {h = h} w rest refl (some h refl) named
named_here dialect w rest None some named = let g : ◌≡◌ {A = Bool} false true = named in absurd cc
