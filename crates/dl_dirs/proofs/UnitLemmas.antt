-- The first entries of units, one after the other.
use Rattle.std.proofs.Common.{◌≡◌, ℕ, zero, suc, ◌+◌, ◌-◌, ◌<◌, ◌≤◌, ◌^◌, Bool, true, false, List, [], ◌++◌, length}
use Rattle.std.proofs.Common.{take, drop, min, nat_lt, inl, inr, refl, sym, ap, subst, ◌∙◌, arith}
use Rattle.std.proofs.Common.{length-append, length-drop, length-take}
use Rattle.std.specs.Prelude.{◌==◌}
use Rattle.std.proofs.lemmas.Bool.{cases_lt}
use Rattle.std.proofs.lemmas.List.{append-nil, nil_from_length, take_all, take_at, take-append-drop}
use Rattle.std.proofs.lemmas.List.{take-append-le}
use Rattle.std.proofs.Math.Seq.{drop-append-add, take-append-add}
use Rattle.dl_num.specs.declared.fixed.Order.{Order}
use Rattle.dl_table.specs.declared.form.Format.TheVariants.{Dwarf32, Dwarf64}
use Rattle.dl_info.specs.declared.head.UnitLength.{UnitLength}
use Rattle.dl_info.specs.declared.unit.Answer.{Answer}
use Rattle.dl_info.specs.declared.unit.Answer.TheVariants.{Found, More, Unreadable}
use Rattle.dl_info.specs.Front.{fixed_at}
use Rattle.dl_info.specs.Heads.{length_at}
use Rattle.dl_info.specs.Entries.{EntryData}
use Rattle.dl_info.specs.Grammar.{Done, IsLength, IsLongLength, Never, Which}
use Rattle.dl_info.specs.Laws.{IsTold}
use Rattle.dl_info.specs.Units.{entry_with, first_entry, unit_length}
use Rattle.dl_info.proofs.GrammarEntries.{length_is_spelled}
use Rattle.dl_info.proofs.SteadyUnits.{answers_stay, lengths_stay, whole_units_tell}
use Rattle.dl_dirs.specs.Units.{after, entries, entries_in, found_in}
use Rattle.dl_dirs.specs.Standing.{told_by, told_length}

-- ---- lengths

-- a length has four bytes at least, and no more than the unit
abbrev pub Bounds : UnitLength → List ℕ → Type 0
Bounds l w = (4 ≤ length w) × (length w ≤ l.size)

long_bounds : (order : Order) (l : UnitLength) (w : List ℕ) → IsLongLength order l w
    → (8 ≤ length w) × (length w + 4 ≤ l.size)
long_bounds order l w s = by (nat_lt (s.0 + 12) (2 ^ 64)) s.5 where
  by : (t : Bool) → Which t (Done (record { format = Dwarf64; size = s.0 + 12 })) Never l s.2
      → (8 ≤ length w) × (length w + 4 ≤ l.size)
  by true done =
      let size : l.size ≡ s.0 + 12 = ap (λ (x : UnitLength). x.size) done.0 in
      let eight : length w ≡ 8 = ap length s.3 ∙ omega (arith, length-append s.1 s.2, s.4.0, ap length done.1) in
      (omega arith, omega arith)
  by false never = absurd never

length_bounds : (order : Order) (l : UnitLength) (w : List ℕ) → IsLength order l w → Bounds l w
length_bounds order l w s = by (nat_lt s.0 0xfffffff0) s.5 where
  long : (t : Bool) → Which t (IsLongLength order) Never l s.2 → Bounds l w
  long true k =
      let b = long_bounds order l s.2 k in
      let parts : length w ≡ length s.1 + length s.2 = ap length s.3 ∙ length-append s.1 s.2 in
      (omega (arith, s.4.0, b.0), omega (arith, s.4.0, b.1))
  long false never = absurd never

  by : (t : Bool) → Which t (Done (record { format = Dwarf32; size = s.0 + 4 }))
      (Which (s.0 == 0xffffffff) (IsLongLength order) Never) l s.2 → Bounds l w
  by true done =
      let size : l.size ≡ s.0 + 4 = ap (λ (x : UnitLength). x.size) done.0 in
      let four : length w ≡ 4 = ap length s.3 ∙ omega (arith, length-append s.1 s.2, s.4.0, ap length done.1) in
      (omega arith, omega arith)
  by false k = long (s.0 == 0xffffffff) k

-- the bytes of a length that b begins with
pub record Spelled (order : Order) (b : List ℕ) (l : UnitLength) : Type 0 where
  pub w : List ℕ
  pub rest : List ℕ
  pub parts : b ≡ w ++ rest
  pub four : 4 ≤ length w
  pub within : length w ≤ l.size
  pub alone : (c : List ℕ) → unit_length order (w ++ c) ≡ Found l

pub spelled : (order : Order) (b : List ℕ) (l : UnitLength) → unit_length order b ≡ Found l → Spelled order b l
spelled order b l is =
    let s = (length_is_spelled order b l).0 is in
    let bounds = length_bounds order l s.0 s.3 in
    record {
      w = s.0;
      rest = s.1;
      parts = s.2;
      four = bounds.0;
      within = bounds.1;
      alone = λ c. (length_is_spelled order (s.0 ++ c) l).1 (s.0, c, refl, s.3);
    }

-- one byte more makes no length of bytes that go past the unit
pub one_more : (order : Order) (front more : List ℕ) (l : UnitLength) → unit_length order front ≡ More
    → length more ≤ 1 → unit_length order (front ++ more) ≡ Found l → length (front ++ more) ≤ l.size
one_more order front more l none few is = elim (cases_lt (length front) (length s.w)) [
  | inl less ↦ omega (arith, length-append front more, s.within, less, few)
  | inr enough ↦ absurd (let both : ◌≡◌ {A = Answer UnitLength} More (Found l) = sym none ∙ before enough in cc)
] where
  s : Spelled order (front ++ more) l
  s = spelled order (front ++ more) l is

  before : length s.w ≤ length front → unit_length order front ≡ Found l
  before enough =
      let front_is : s.w ≡ take (length s.w) front =
      sym (take_at s.w s.rest (length s.w) refl) ∙ ap (take (length s.w)) (sym s.parts)
      ∙ take-append-le (length s.w) front more enough in
      let parts : s.w ++ drop (length s.w) front ≡ front =
      ap (λ v. v ++ drop (length s.w) front) front_is ∙ take-append-drop (length s.w) front in
      subst (λ b. unit_length order b ≡ Found l) parts (s.alone (drop (length s.w) front))

-- ---- units

no_unit : (order : Order) → unit_length order [] ≡ More
unfolding length_at fixed_at
no_unit order = refl

after_same : (f g : UnitLength → List EntryData) (u : Answer UnitLength) → ((l : UnitLength) → u ≡ Found l → f l ≡ g l)
    → after f u ≡ after g u
after_same f g (Found l) same = same l refl
after_same f g More same = refl
after_same f g Unreadable same = refl

shorter : (order : Order) (b : List ℕ) (l : UnitLength) (n : ℕ) → unit_length order b ≡ Found l → length b ≤ suc n
    → length (drop l.size b) ≤ n
shorter order b l n is few =
    let s = spelled order b l is in omega (arith, length-drop l.size b, s.four, s.within, few)

none_in : (order : Order) (abbreviations b : List ℕ) (n : ℕ) → length b ≤ 0
    → entries_in order abbreviations n b ≡ []
unfolding entries_in
none_in order abbreviations b zero few = refl
none_in order abbreviations b (suc n) few =
    let empty : b ≡ [] = nil_from_length b (omega (arith, few)) in
    rw empty (rw (no_unit order) refl)

pub no_entries : (order : Order) (abbreviations : List ℕ) → entries order abbreviations [] ≡ []
no_entries order abbreviations = none_in order abbreviations [] 0 (omega arith)

same_in : (order : Order) (abbreviations : List ℕ) (n m : ℕ) (b : List ℕ) → length b ≤ n → length b ≤ m
    → entries_in order abbreviations n b ≡ entries_in order abbreviations m b
unfolding entries_in
same_in order abbreviations zero m b few more = sym (none_in order abbreviations b m few)
same_in order abbreviations (suc n) zero b few more = none_in order abbreviations b (suc n) more
same_in order abbreviations (suc n) (suc m) b few more =
    ap (λ es. found_in (first_entry order abbreviations b) ++ es)
    (after_same _ _ (unit_length order b)
    (λ l is. same_in order abbreviations n m (drop l.size b) (shorter order b l n is few) (shorter order b l m is more)))

-- the first unit of b, and those after it
pub entries_here : (order : Order) (abbreviations b : List ℕ)
    → entries order abbreviations b ≡ found_in (first_entry order abbreviations b)
    ++ after (λ l. entries order abbreviations (drop l.size b)) (unit_length order b)
unfolding entries_in
entries_here order abbreviations b =
    same_in order abbreviations (length b) (suc (length b)) b (omega arith) (omega arith)
    ∙ ap (λ es. found_in (first_entry order abbreviations b) ++ es)
    (after_same _ _ (unit_length order b)
    (λ l is. same_in order abbreviations (length b) (length (drop l.size b)) (drop l.size b)
    (omega (arith, length-drop l.size b)) (omega arith)))

-- ---- a unit by its first bytes

pub length_told : (order : Order) (abbreviations b : List ℕ) → IsTold (first_entry order abbreviations b)
    → IsTold (unit_length order b)
length_told order abbreviations b told more = told (ap (entry_with order abbreviations b) more)

-- what answers tell once the entry is told
pub record Told (order : Order) (abbreviations u : List ℕ) (answer : Answer UnitLength) : Type 0 where
  pub entry : IsTold (first_entry order abbreviations u)
  pub length : unit_length order u ≡ answer

pub told_found : (order : Order) (abbreviations u : List ℕ) (answer : Answer UnitLength) → IsTold answer
    → told_length order abbreviations u ≡ answer → Told order abbreviations u answer
told_found order abbreviations u answer told is = by (first_entry order abbreviations u) refl where
  by : (e : Answer EntryData) → first_entry order abbreviations u ≡ e → Told order abbreviations u answer
  by (Found e) at = record {
    entry = λ more. absurd (let both : ◌≡◌ {A = Answer EntryData} (Found e) More = sym at ∙ more in cc);
    length = sym (ap (λ x. told_by x (unit_length order u)) at) ∙ is;
  }
  by More at = absurd (told (sym is ∙ ap (λ x. told_by x (unit_length order u)) at))
  by Unreadable at = record {
    entry = λ more. absurd (let both : ◌≡◌ {A = Answer EntryData} Unreadable More = sym at ∙ more in cc);
    length = sym (ap (λ x. told_by x (unit_length order u)) at) ∙ is;
  }

-- what isn't told
pub not_told : (order : Order) (abbreviations u : List ℕ) → told_length order abbreviations u ≡ More
    → first_entry order abbreviations u ≡ More
not_told order abbreviations u is = by (first_entry order abbreviations u) refl where
  by : (e : Answer EntryData) → first_entry order abbreviations u ≡ e → first_entry order abbreviations u ≡ More
  by (Found e) at =
      ap (entry_with order abbreviations u) (sym (ap (λ x. told_by x (unit_length order u)) at) ∙ is)
  by More at = at
  by Unreadable at =
      ap (entry_with order abbreviations u) (sym (ap (λ x. told_by x (unit_length order u)) at) ∙ is)

-- there the unit has more bytes
pub wants_more : (order : Order) (abbreviations u : List ℕ) → told_length order abbreviations u ≡ More → (l : UnitLength)
    → unit_length order u ≡ Found l → length u < l.size
wants_more order abbreviations u is l length_is = elim (cases_lt (length u) l.size) [
  | inl less ↦ less
  | inr enough ↦ absurd (whole_units_tell order abbreviations u l length_is enough (not_told order abbreviations u is))
]

-- what follows a unit whose entry is told
told_on : (order : Order) (abbreviations u rest : List ℕ) (answer : Answer UnitLength) → Told order abbreviations u answer
    → entries order abbreviations (u ++ rest) ≡ found_in (first_entry order abbreviations u)
    ++ after (λ l. entries order abbreviations (drop l.size (u ++ rest))) answer
told_on order abbreviations u rest answer t =
    entries_here order abbreviations (u ++ rest)
    ∙ (rw (answers_stay order abbreviations u rest t.entry)
    (rw (lengths_stay order u rest (length_told order abbreviations u t.entry)) (rw t.length refl)))

-- a unit is told by its own bytes
pub told_alone : (order : Order) (abbreviations u : List ℕ) (l : UnitLength) → Told order abbreviations u (Found l)
    → Told order abbreviations (take l.size u) (Found l)
    × (first_entry order abbreviations (take l.size u) ≡ first_entry order abbreviations u)
told_alone order abbreviations u l t = (record { entry = λ more. t.entry (sym same ∙ more); length = length_is }, same) where
  s : Spelled order u l
  s = spelled order u l t.length

  front : take l.size u ≡ s.w ++ take (l.size - length s.w) s.rest
  front =
      let size : length s.w + (l.size - length s.w) ≡ l.size = omega (arith, s.within) in
      ap (take l.size) s.parts
      ∙ (ap (λ n. take n (s.w ++ s.rest)) (sym size) ∙ take-append-add s.w s.rest (l.size - length s.w))

  length_is : unit_length order (take l.size u) ≡ Found l
  length_is = rw front (s.alone (take (l.size - length s.w) s.rest))

  again : take l.size (take l.size u) ≡ take l.size u
  again = take_all l.size (take l.size u) (omega (arith, length-take l.size u))

  same : first_entry order abbreviations (take l.size u) ≡ first_entry order abbreviations u
  same = rw (length_is, t.length, again) refl

same_front : (u : List ℕ) (size used : ℕ) → used ≡ min size (length u) → take used u ≡ take size u
same_front u size used is = elim (cases_lt (length u) size) [
  | inl less ↦ take_all used u (omega (arith, is, less)) ∙ sym (take_all size u (omega (arith, less)))
  | inr enough ↦ let same : used ≡ size = omega (arith, is, enough) in ap (λ n. take n u) same
]

pub unit_passed : (order : Order) (abbreviations u : List ℕ) (l : UnitLength) (used : ℕ) (rest : List ℕ)
    → told_length order abbreviations u ≡ Found l → used ≡ min l.size (length u)
    → entries order abbreviations (take used u ++ rest) ≡ found_in (first_entry order abbreviations u)
    ++ entries order abbreviations (drop (l.size - used) rest)
unit_passed order abbreviations u l used rest is used_is =
    let t = told_found order abbreviations u (Found l) (λ more. absurd cc) is in
    let alone = told_alone order abbreviations u l t in
    let known : length (take l.size u) ≡ used = omega (arith, length-take l.size u, used_is) in
    let size : length (take l.size u) + (l.size - used) ≡ l.size = omega (arith, known, used_is) in
    ap (λ v. entries order abbreviations (v ++ rest)) (same_front u l.size used used_is)
    ∙ (told_on order abbreviations (take l.size u) rest (Found l) alone.0
    ∙ (ap (λ a. found_in a ++ entries order abbreviations (drop l.size (take l.size u ++ rest))) alone.1
    ∙ ap (λ v. found_in (first_entry order abbreviations u) ++ entries order abbreviations v)
    (ap (λ n. drop n (take l.size u ++ rest)) (sym size) ∙ drop-append-add (take l.size u) rest (l.size - used))))

pub unit_ended : (order : Order) (abbreviations u rest : List ℕ) → told_length order abbreviations u ≡ Unreadable
    → entries order abbreviations (u ++ rest) ≡ found_in (first_entry order abbreviations u)
unit_ended order abbreviations u rest is =
    told_on order abbreviations u rest Unreadable
    (told_found order abbreviations u Unreadable (λ more. absurd cc) is)
    ∙ append-nil (found_in (first_entry order abbreviations u))
