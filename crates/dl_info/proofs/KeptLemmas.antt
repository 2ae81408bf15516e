-- The abbreviations of a table that are kept, and entries without the attributes whose values have no bytes.
use Rattle.std.proofs.Common.{◌≡◌, ℕ, ◌+◌, ◌-◌, ◌<◌, ◌≤◌, Bool, true, false, cond, List, [], ◌∷◌, ◌++◌, length}
use Rattle.std.proofs.Common.{drop, Option, Some, None, Result, Ok, Err, refl, sym, ap, subst, ◌∙◌, arith, append_assoc}
use Rattle.std.proofs.Common.{Bor}
use Rattle.std.specs.Prelude.{◌==◌, ◌||◌, if◌then◌else◌, nat_lt, not}
use Rattle.std.specs.Option.{option_or}
use Rattle.std.proofs.lemmas.Bool.{le-ltb, true≢false}
use Rattle.std.proofs.lemmas.Bool.Decides.{Decides-eqb}
use Rattle.dl_num.specs.declared.fixed.Order.{Order}
use Rattle.dl_info.specs.declared.front.FieldFault.{FieldFault}
use Rattle.dl_info.specs.declared.front.FieldFault.TheVariants.{Short}
use Rattle.dl_info.specs.declared.form.Encoding.{Encoding}
use Rattle.dl_info.specs.declared.abbreviation.Attribute.{Attribute}
use Rattle.dl_info.specs.declared.abbreviations.Attributes.{Attributes}
use Rattle.dl_info.specs.declared.abbreviations.Attributes.TheVariants as attributes
use Rattle.dl_info.specs.declared.abbreviations.Table.{Table}
use Rattle.dl_info.specs.declared.head.Head.{Head}
use Rattle.dl_info.specs.Front.{◌>>=◌, uleb_at}
use Rattle.dl_info.specs.Forms.{Told, direct_at, has_none, value_at}
use Rattle.dl_info.specs.Abbreviations.{Abbreviation, declaration_at, declared_from, declared_in, or_none}
use Rattle.dl_info.specs.Entries.{EntryData, entry_at, values_at, with_value, without_values}
use Rattle.dl_info.specs.Heads.{head_at}
use Rattle.dl_info.specs.Kept.{AreAlike, IsTable, StandsFor, has_bytes, list_of, kept_in, kept_more, kept_of, with_bytes}
use Rattle.dl_info.proofs.AbbreviationLemmas.{declaration_stops, declarations_go_on, declarations_run_out, declared_here}

-- ---- attributes without bytes

or_nothing : {A : Type 0} (o : Option A) → option_or o None ≡ o
or_nothing None = refl
or_nothing (Some x) = refl

abbrev without : ℕ → Told
without form = record { form = form; bytes = [] }

-- a value of the form has no bytes, and the entry says nothing by it
record IsQuiet (form : ℕ) : Type 0 where
  value : (encoding : Encoding) (b : List ℕ) → value_at encoding form b ≡ Ok (without form, b)
  says : (order : Order) (name : ℕ) (e : EntryData) → with_value order name (without form) e ≡ e

no_bytes : (b : List ℕ) → nat_lt (length b) 0 ≡ false
no_bytes b = le-ltb (length b) 0 (omega arith)

says_none : (name : ℕ) (e : EntryData)
    → (if name == 0x10 then record e { stmt_list = option_or e.stmt_list None } else
    if name == 0x1b then record e { comp_dir = option_or e.comp_dir None } else
    if name == 0x72 then record e { str_offsets_base = option_or e.str_offsets_base None } else e) ≡ e
says_none name e = rw (or_nothing e.stmt_list, or_nothing e.comp_dir, or_nothing e.str_offsets_base)
    (by (name == 0x10) (name == 0x1b) (name == 0x72)) where
      by : (s c b : Bool) → (if s then e else if c then e else if b then e else e) ≡ e
      by true c b = refl
      by false true b = refl
      by false false true = refl
      by false false false = refl

no_present : (encoding : Encoding) (b : List ℕ) → value_at encoding 0x19 b ≡ Ok (without 0x19, b)
unfolding direct_at
no_present encoding b = rw (no_bytes b) refl

flag_present : IsQuiet 0x19
flag_present = record { value = no_present; says = λ order name e. says_none name e }

no_constant : (encoding : Encoding) (b : List ℕ) → value_at encoding 0x21 b ≡ Ok (without 0x21, b)
unfolding direct_at
no_constant encoding b = rw (no_bytes b) refl

implicit_const : IsQuiet 0x21
implicit_const = record { value = no_constant; says = λ order name e. says_none name e }

quiet : (form : ℕ) → has_none form ≡ true → IsQuiet form
quiet form none = by (form == 0x19) (form == 0x21) refl refl none where
  by : (p c : Bool) → (form == 0x19) ≡ p → (form == 0x21) ≡ c → (p || (c || false)) ≡ true → IsQuiet form
  by true c present constant none = subst IsQuiet (sym ((Decides-eqb form 0x19).0 present)) flag_present
  by false true present constant none = subst IsQuiet (sym ((Decides-eqb form 0x21).0 constant)) implicit_const
  by false false present constant none = absurd (true≢false (sym none))

abbrev Values : Type 0
Values = Result (EntryData × List ℕ) FieldFault

same_then : (r : Result (Told × List ℕ) FieldFault) (f g : Told × List ℕ → Values) → ((v : Told × List ℕ) → f v ≡ g v)
    → (r >>= f) ≡ (r >>= g)
same_then (Ok v) f g same = same v
same_then (Err s) f g same = refl

onward : Encoding → Attribute → EntryData → List Attribute → Told × List ℕ → Values
onward encoding a e others v = values_at encoding others (with_value encoding.order a.name v.0 e) v.1

-- an attribute more
alike_more : (a : Attribute) (attributes : List Attribute) → AreAlike (with_bytes attributes) attributes → (none : Bool)
    → has_none a.form ≡ none
    → AreAlike (cond (not none) (a ∷ with_bytes attributes) (with_bytes attributes)) (a ∷ attributes)
unfolding onward
alike_more a attributes others true is encoding e b =
    let q = quiet a.form is in
    others encoding e b
    ∙ sym (ap (λ r. r >>= onward encoding a e attributes) (q.value encoding b)
    ∙ ap (λ x. values_at encoding attributes x b) (q.says encoding.order a.name e))
alike_more a attributes others false is encoding e b =
    same_then (value_at encoding a.form b) (onward encoding a e (with_bytes attributes)) (onward encoding a e attributes)
    (λ v. others encoding (with_value encoding.order a.name v.0 e) v.1)

-- an entry says the same without them
pub alike : (attributes : List Attribute) → AreAlike (with_bytes attributes) attributes
alike [] = λ encoding e b. refl
alike (a ∷ attributes) = alike_more a attributes (alike attributes) (has_none a.form) refl

-- of attributes that are left, those that have bytes come behind those before
pub passed_by : (kept : List Attribute) (a : Attribute) (others whole : List Attribute) → has_bytes a ≡ false
    → kept ++ with_bytes (a ∷ others) ≡ whole → kept ++ with_bytes others ≡ whole
passed_by kept a others whole none so_far =
    ap (λ t. kept ++ cond t (a ∷ with_bytes others) (with_bytes others)) (sym none) ∙ so_far

pub one_kept : (kept now : List Attribute) (a : Attribute) (others whole : List Attribute) → has_bytes a ≡ true
    → now ≡ kept ++ a ∷ [] → kept ++ with_bytes (a ∷ others) ≡ whole → now ++ with_bytes others ≡ whole
one_kept kept now a others whole has are so_far =
    ap (λ l. l ++ with_bytes others) are
    ∙ (append_assoc kept (a ∷ []) (with_bytes others)
    ∙ (ap (λ t. kept ++ cond t (a ∷ with_bytes others) (with_bytes others)) (sym has) ∙ so_far))

-- ---- a table

-- what is kept so far, where these are the attributes that come of all declarations and of those that are left
abbrev Stands : Option (List Attribute) → (whole left : Result (List Attribute) FieldFault) → Type 0
Stands None whole left = whole ≡ left
Stands (Some attributes) whole left = Some attributes ≡ kept_of whole

-- so many declarations of b are left, in rest
abbrev pub IsSoFar : Table → (b : List ℕ) → (left : ℕ) → (rest : List ℕ) → Type 0
IsSoFar t b left rest =
    (code : ℕ) → Stands (kept_in t code) (declared_in (length b) code b) (declared_in left code rest)

ended : (kept : Option (List Attribute)) (whole left : Result (List Attribute) FieldFault) (s : FieldFault) → Err s ≡ left
    → Stands kept whole left → kept ≡ kept_of whole
ended None whole left s stops stands = sym (ap kept_of (stands ∙ sym stops))
ended (Some attributes) whole left s stops stands = stands

pub no_more : (t : Table) (b rest : List ℕ) (i : ℕ) (s : FieldFault) → i < length b → Err s ≡ declaration_at rest
    → IsSoFar t b (length b - i) rest → IsTable t b
no_more t b rest i s less stops so_far code =
    ended (kept_in t code) (declared_in (length b) code b) (declared_in (length b - i) code rest) s
    (declaration_stops (length b) i code rest s (declared_in (length b - i) code rest) less stops refl) (so_far code)

pub all_read : (t : Table) (b rest : List ℕ) (i : ℕ) → length b ≤ i → IsSoFar t b (length b - i) rest → IsTable t b
all_read t b rest i past so_far code =
    ended (kept_in t code) (declared_in (length b) code b) (declared_in (length b - i) code rest) (Short 1)
    (declarations_run_out (length b) i code rest (declared_in (length b - i) code rest) past refl) (so_far code)

pub one_more : (old new : Table) (b rest after : List ℕ) (i : ℕ) (d : Abbreviation) → i < length b
    → Ok (d, after) ≡ declaration_at rest → ((code : ℕ) → kept_in new code ≡ kept_more (kept_in old code) d code)
    → IsSoFar old b (length b - i) rest → IsSoFar new b (length b - (i + 1)) after
one_more old new b rest after i d less told keeps so_far code =
    subst (λ o. Stands o whole (declared_in (length b - (i + 1)) code after)) (sym (keeps code))
    (by (kept_in old code) (d.code == code) refl (so_far code)) where
      whole : Result (List Attribute) FieldFault
      whole = declared_in (length b) code b

      by : (o : Option (List Attribute)) (same : Bool) → (d.code == code) ≡ same
          → Stands o whole (declared_in (length b - i) code rest)
          → Stands (kept_more o d code) whole (declared_in (length b - (i + 1)) code after)
      by (Some attributes) same at stands = stands
      by None true at stands =
          rw at (ap kept_of (declared_here (length b) i code rest after d whole less told at (sym stands)))
      by None false at stands =
          rw at (sym (declarations_go_on (length b) i code rest after d whole less told at (sym stands)))

-- ---- what is found

pub kept_stands : (list : Bor (List Attribute)) (offset code : ℕ) (section : List ℕ) (kept : Option (List Attribute))
    → kept ≡ kept_of (declared_in (length (drop offset section)) code (drop offset section)) → kept ≡ Some list.now
    → StandsFor (Ok (attributes.Kept list)) (declared_from offset code section)
kept_stands list offset code section kept is some =
    by (declared_in (length (drop offset section)) code (drop offset section)) (sym some ∙ is) where
      by : (r : Result (List Attribute) FieldFault) → Some list.now ≡ kept_of r
          → StandsFor (Ok (attributes.Kept list)) (or_none r)
      by (Ok declared) is =
          let same : list.now ≡ with_bytes declared = cc is in
          λ encoding e b. ap (λ l. values_at encoding l e b) same ∙ alike declared encoding e b
      by (Err s) is = absurd (cc is)

-- ---- the first entry

module _ (order : Order) (section unit : List ℕ) where
  pub head_stops : (s : FieldFault) → Err s ≡ head_at order unit → Err s ≡ entry_at order section unit
  unfolding entry_at
  head_stops s stops = rw (← stops) refl

  module _ (head : Head) (rest : List ℕ) (headed : Ok (head, rest) ≡ head_at order unit) where
    pub code_stops : (s : FieldFault) → Err s ≡ uleb_at rest → Err s ≡ entry_at order section unit
    unfolding entry_at
    code_stops s stops = rw (← headed, ← stops) refl

    module _ (code : ℕ) (values : List ℕ) (coded : Ok (code, values) ≡ uleb_at rest) where
      by_attributes : (r : Result (List Attribute) FieldFault) → declared_from head.abbreviations code section ≡ r
          → (r >>= λ list. values_at head.encoding list (without_values head.encoding.format) values)
          ≡ entry_at order section unit
      unfolding entry_at
      by_attributes r is = rw (← headed, ← coded, ← is) refl

      pub attributes_stop : (s : FieldFault) → StandsFor (Err s) (declared_from head.abbreviations code section)
          → Err s ≡ entry_at order section unit
      attributes_stop s stands = by (declared_from head.abbreviations code section) refl stands where
        by : (r : Result (List Attribute) FieldFault) → declared_from head.abbreviations code section ≡ r
            → StandsFor (Err s) r → Err s ≡ entry_at order section unit
        by (Ok list) is stands = absurd stands
        by (Err t) is same = ap Err same ∙ by_attributes (Err t) is

      pub with_attributes : (found : Attributes) → StandsFor (Ok found) (declared_from head.abbreviations code section)
          → values_at head.encoding (list_of found) (without_values head.encoding.format) values
          ≡ entry_at order section unit
      with_attributes found stands = by (declared_from head.abbreviations code section) refl stands where
        by : (r : Result (List Attribute) FieldFault) → declared_from head.abbreviations code section ≡ r
            → StandsFor (Ok found) r
            → values_at head.encoding (list_of found) (without_values head.encoding.format) values
            ≡ entry_at order section unit
        by (Ok list) is same =
            same head.encoding (without_values head.encoding.format) values ∙ by_attributes (Ok list) is
        by (Err t) is stands = absurd stands
