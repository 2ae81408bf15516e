-- How many values, places and entries there may be.
use Rattle.std.proofs.Common.{◌≡◌, ℕ, zero, suc, ◌+◌, ◌/◌, ◌%◌, ◌<◌, ◌≤◌, List, [], ◌∷◌, ◌++◌, length, drop, Bool, true}
use Rattle.std.proofs.Common.{false, nat_lt, Option, Some, None, arith, ap, refl, subst, length-append, length-drop}
use Rattle.std.specs.Prelude.{◌==◌, if◌then◌else◌, IfSome, option_map, option_and_then, unwrap_or}
use Rattle.dl_num.specs.declared.fixed.Order.{Order}
use Rattle.dl_num.specs.LebFront.{leb_front, after_leb}
use Rattle.dl_reloc.specs.declared.target.Class.{Class}
use Rattle.dl_reloc.specs.declared.target.AddendPlace.{AddendPlace}
use Rattle.dl_reloc.specs.declared.target.Target.{Target}
use Rattle.dl_reloc.specs.declared.entry.Relocation.{Relocation}
use Rattle.dl_reloc.specs.declared.change.Change.{Change}
use Rattle.dl_reloc.specs.declared.placed.Placed.{Placed}
use Rattle.dl_reloc.specs.declared.compact.CompactHeader.{CompactHeader}
use Rattle.dl_reloc.specs.Changes.{change_size}
use Rattle.dl_reloc.specs.Types.{change_of}
use Rattle.dl_reloc.specs.Entries.{item, symbol_size, value_in, values_upto}
use Rattle.dl_reloc.specs.Relocated.{entry_at}
use Rattle.dl_reloc.specs.Places.{placed_upto, places_by, places_of}
use Rattle.dl_reloc.specs.Compact.{Next, Told, after_difference, entry_of, first_number, flag_values}
use Rattle.dl_reloc.specs.Compact.{next_by, next_entry, offset_after}

-- ---- symbols

pub values_counted : (class : Class) (order : Order) (table : List ℕ) (n : ℕ)
    → length (values_upto class order table n) ≡ n
values_counted class order table zero = refl
values_counted class order table (suc n) =
    let before = values_upto class order table n in
    let last = value_in class order (item (symbol_size class) n table) ∷ [] in
    omega (arith, length-append before last, values_counted class order table n)

-- a value for each symbol so far
pub values_so_far : (class : Class) (order : Order) (table : List ℕ) (n : ℕ) (first values : List ℕ)
    → values ≡ first ++ values_upto class order table n → length values ≡ length first + n
values_so_far class order table n first values are =
    omega (arith, ap length are, length-append first (values_upto class order table n), values_counted class order table n)

-- ---- places

one_most : (t : Target) (e : Relocation) (table wide : List ℕ) (change : Option Change)
    → length (places_by t e table wide change) ≤ 1
one_most t e table wide None = omega arith
one_most t e table wide (Some change) = by (change_size change == 0) _ where
  by : (none : Bool) (place : Placed) → length (if none then [] else place ∷ []) ≤ 1
  by true place = omega arith
  by false place = omega arith

places_counted : (t : Target) (form : AddendPlace) (entries table wide : List ℕ) (n : ℕ)
    → length (placed_upto t form entries table wide n) ≤ n
places_counted t form entries table wide zero = omega arith
places_counted t form entries table wide (suc n) =
    let before = placed_upto t form entries table wide n in
    let e = entry_at t form entries n in
    omega (
      arith,
      length-append before (places_of t e table wide),
      places_counted t form entries table wide n,
      one_most t e table wide (change_of t e.number),
    )

-- one place at most for each entry so far
pub places_so_far : (t : Target) (form : AddendPlace) (entries table wide : List ℕ) (n : ℕ) (first places : List Placed)
    → places ≡ first ++ placed_upto t form entries table wide n → length places ≤ length first + n
places_so_far t form entries table wide n first places are =
    omega (
      arith,
      ap length are,
      length-append first (placed_upto t form entries table wide n),
      places_counted t form entries table wide n,
    )

-- and for one entry more
pub one_place : (t : Target) (e : Relocation) (table wide : List ℕ) (before after : List Placed)
    → after ≡ before ++ places_of t e table wide → length after ≤ length before + 1
one_place t e table wide before after are =
    omega (
      arith,
      ap length are,
      length-append before (places_of t e table wide),
      one_most t e table wide (change_of t e.number),
    )

-- ---- compact entries

if_some : {A : Type 0} (P : A → Type 0) (c : Bool) (x : A) → P x → IfSome (if c then Some x else None) P
if_some P true x holds = holds
if_some P false x holds = tt

if_and_then : {A B : Type 0} (P : A → Type 0) (Q : B → Type 0) (f : A → Option B) (o : Option A) → IfSome o P
    → ((a : A) → P a → IfSome (f a) Q) → IfSome (option_and_then f o) Q
if_and_then P Q f None holds next = tt
if_and_then P Q f (Some a) holds next = next a holds

if_map : {A B : Type 0} (P : A → Type 0) (Q : B → Type 0) (f : A → B) (o : Option A) → IfSome o P
    → ((a : A) → P a → Q (f a)) → IfSome (option_map f o) Q
if_map P Q f None holds next = tt
if_map P Q f (Some a) holds next = next a holds

after_within : (b : List ℕ) → length (after_leb b) ≤ length b
after_within b = omega (arith, length-drop (length (leb_front b)) b)

-- a number has a byte
after_less : (a : ℕ) (b : List ℕ) → length (after_leb (a ∷ b)) < length (a ∷ b)
after_less a b = by (nat_lt a 128) where
  by : (last : Bool) → length (drop (length (if last then a ∷ [] else a ∷ leb_front b)) (a ∷ b)) < length (a ∷ b)
  by true = omega (arith, length-drop 1 (a ∷ b))
  by false = omega (arith, length-drop (length (a ∷ leb_front b)) (a ∷ b))

first_less : (b : List ℕ) → IfSome (first_number b) (λ n. length (after_leb b) < length b)
first_less [] = tt
first_less (a ∷ b) = if_some (λ n. length (after_leb (a ∷ b)) < length (a ∷ b)) _ _ (after_less a b)

told_within : (flag : Bool) (before : ℕ) (b : List ℕ)
    → IfSome (after_difference flag before b) (λ told. length told.rest ≤ length b)
told_within false before b = omega arith
told_within true before b = if_some (λ (told : Told). length told.rest ≤ length b) _ _ (after_within b)

-- the last of the three numbers that an entry may have beside its offset
third_less : (class : Class) (h : CompactHeader) (e : Relocation) (offset flags symbol number : ℕ) (b : List ℕ) (end : ℕ)
    → length b < end → IfSome (option_map (entry_of class h offset symbol number)
    (after_difference (flags / 4 == 1) (unwrap_or e.addend 0) b)) (λ next. length next.rest < end)
third_less class h e offset flags symbol number b end less =
    if_map (λ (addend : Told). length addend.rest ≤ length b) (λ (next : Next). length next.rest < end)
    (entry_of class h offset symbol number) (after_difference (flags / 4 == 1) (unwrap_or e.addend 0) b)
    (told_within (flags / 4 == 1) (unwrap_or e.addend 0) b) (λ addend within. omega (arith, within, less))

-- the second, and the last
second_less : (class : Class) (h : CompactHeader) (e : Relocation) (offset flags symbol : ℕ) (b : List ℕ) (end : ℕ)
    → length b < end → IfSome (option_and_then (λ number. option_map (entry_of class h offset symbol number.number)
    (after_difference (flags / 4 == 1) (unwrap_or e.addend 0) number.rest))
    (after_difference (flags / 2 % 2 == 1) e.number b)) (λ next. length next.rest < end)
second_less class h e offset flags symbol b end less =
    if_and_then (λ (number : Told). length number.rest ≤ length b) (λ (next : Next). length next.rest < end)
    (λ number. option_map (entry_of class h offset symbol number.number)
    (after_difference (flags / 4 == 1) (unwrap_or e.addend 0) number.rest))
    (after_difference (flags / 2 % 2 == 1) e.number b) (told_within (flags / 2 % 2 == 1) e.number b)
    (λ number within. third_less class h e offset flags symbol number.number number.rest end (omega (arith, within, less)))

by_less : (class : Class) (h : CompactHeader) (e : Relocation) (offset flags : ℕ) (b : List ℕ) (end : ℕ) → length b < end
    → IfSome (next_by class h e offset flags b) (λ next. length next.rest < end)
by_less class h e offset flags b end less =
    if_and_then (λ (symbol : Told). length symbol.rest ≤ length b) (λ (next : Next). length next.rest < end)
    (λ symbol. option_and_then (λ number. option_map (entry_of class h offset symbol.number number.number)
    (after_difference (flags / 4 == 1) (unwrap_or e.addend 0) number.rest))
    (after_difference (flags / 2 % 2 == 1) e.number symbol.rest))
    (after_difference (flags % 2 == 1) e.symbol b) (told_within (flags % 2 == 1) e.symbol b)
    (λ symbol within. second_less class h e offset flags symbol.number symbol.rest end (omega (arith, within, less)))

any_less : (class : Class) (h : CompactHeader) (e : Relocation) (b : List ℕ)
    → IfSome (next_entry class h e b) (λ next. length next.rest < length b)
any_less class h e b =
    if_and_then (λ (n : ℕ). length (after_leb b) < length b) (λ (next : Next). length next.rest < length b)
    (λ n. next_by class h e (offset_after class h e (n / flag_values h)) (n % flag_values h) (after_leb b))
    (first_number b) (first_less b)
    (λ n less. by_less class h e (offset_after class h e (n / flag_values h)) (n % flag_values h) (after_leb b) (length b)
    less)

-- the bytes after an entry are fewer
pub entry_less : (class : Class) (h : CompactHeader) (e next : Relocation) (b rest : List ℕ)
    → next_entry class h e b ≡ Some (record { entry = next; rest = rest }) → length rest < length b
entry_less class h e next b rest found =
    subst (λ (o : Option Next). IfSome o (λ n. length n.rest < length b)) found (any_less class h e b)
