-- What one entry makes of the bytes of a section, and one more of several.
use Rattle.std.proofs.Common.{◌≡◌, ℕ, zero, suc, ◌+◌, ◌<◌, ◌≤◌, List, take, drop, length, Some, Ok, Err}
use Rattle.std.proofs.Common.{arith, ap, ◌∙◌, refl, sym, subst, inl, inr, Option, None, Result, MatchResult}
use Rattle.std.proofs.Common.{true, eqb}
use Rattle.std.proofs.lemmas.Bool.{cases_lt, eqb-true, le-leb, lt-leb, ne_eqb}
use Rattle.std.specs.Option.{option_eq}
use borrow.Rule.Slice.PartMut.{put_mid}
use Rattle.dl_reloc.specs.declared.target.AddendPlace.{AddendPlace}
use Rattle.dl_reloc.specs.declared.target.Target.{Target}
use Rattle.dl_reloc.specs.declared.entry.Relocation.{Relocation}
use Rattle.dl_reloc.specs.declared.change.Change.{Change}
use Rattle.dl_reloc.specs.declared.apply.RelocationFault.{RelocationFault}
use Rattle.dl_reloc.specs.declared.apply.RelocationFault.TheVariants.{PlaceOutside, SymbolOutside}
use Rattle.dl_reloc.specs.declared.change.Change.TheVariants.{Set}
use Rattle.dl_reloc.specs.declared.change.Width.TheVariants.{Bits64}
use Rattle.dl_reloc.specs.Changes.{change_size}
use Rattle.dl_reloc.specs.LowTypes.{IsLong}
use Rattle.dl_reloc.specs.Types.{change_of}
use Rattle.dl_reloc.specs.Entries.{count, item, entry_size, entry_in, symbol_value}
use Rattle.dl_reloc.specs.Relocated.{place_changed, by_symbol, by_change, applied, and_then, entry_at, applied_upto}
use Rattle.dl_reloc.specs.Relocated.{relocated}

-- an entry that is applied
pub entry_applied : (t : Target) (symbols : List ℕ) (e : Relocation) (b : List ℕ) (change : Change) (value at k : ℕ)
    (new : List ℕ) → (change_size change ≡ 0 → ⊥)
    → e.offset + change_size change ≤ length b → symbol_value symbols e.symbol ≡ Some value
    → at ≡ e.offset → k ≡ change_size change
    → new ≡ place_changed t.order change value e.addend (take k (drop at b))
    → by_change t symbols e b (Some change) ≡ Ok (put_mid at k b new)
entry_applied t symbols e b change value at k new some within symbol place size told =
    rw (ne_eqb (change_size change) 0 some, le-leb (e.offset + change_size change) (length b) within)
    (ap (by_symbol t.order change e b) symbol
    ∙ rw (told, place, size) refl)

-- the type that sets 64 bits, where it is this one
pub long_is : (t : Target) (long : Option ℕ) (n : ℕ) → true ≡ option_eq eqb long (Some n) → IsLong t long
    → change_of t n ≡ Some (Set Bits64)
long_is t None n same is = absurd (cc (same))
long_is t (Some m) n same is =
    let P : ℕ → Type 0 = λ k. change_of t k ≡ Some (Set Bits64) in
    subst P (eqb-true m n (sym same)) is

-- one whose type does this
pub applied_by : (t : Target) (symbols : List ℕ) (e : Relocation) (b : List ℕ) (change : Change)
    (result : Result (Unit {0}) RelocationFault) (new : List ℕ) → change_of t e.number ≡ Some change
    → MatchResult result (λ _. by_change t symbols e b (Some change) ≡ Ok new)
    (λ fault. by_change t symbols e b (Some change) ≡ Err fault)
    → MatchResult result (λ _. applied t symbols e b ≡ Ok new) (λ fault. applied t symbols e b ≡ Err fault)
applied_by t symbols e b change result new is told =
    let P : Option Change → Type 0 = λ o. MatchResult result (λ _. by_change t symbols e b o ≡ Ok new)
    (λ fault. by_change t symbols e b o ≡ Err fault) in
    subst P (sym is) told

-- one whose place doesn't lie in the section
pub entry_outside : (t : Target) (symbols : List ℕ) (e : Relocation) (b : List ℕ) (change : Change)
    → (change_size change ≡ 0 → ⊥) → length b < e.offset + change_size change
    → by_change t symbols e b (Some change) ≡ Err PlaceOutside
entry_outside t symbols e b change some outside =
    rw (ne_eqb (change_size change) 0 some, lt-leb (e.offset + change_size change) (length b) outside) refl

-- one whose symbol isn't there
pub entry_without_symbol : (t : Target) (symbols : List ℕ) (e : Relocation) (b : List ℕ) (change : Change)
    → (change_size change ≡ 0 → ⊥) → e.offset + change_size change ≤ length b
    → ◌≡◌ {A = Option ℕ} (symbol_value symbols e.symbol) None
    → by_change t symbols e b (Some change) ≡ Err SymbolOutside
entry_without_symbol t symbols e b change some within none =
    rw (ne_eqb (change_size change) 0 some, le-leb (e.offset + change_size change) (length b) within)
    (ap (by_symbol t.order change e b) none)

-- the entry that was read
pub entry_is : (t : Target) (form : AddendPlace) (entries : List ℕ) (n size : ℕ) (bytes : List ℕ) (e : Relocation)
    → size ≡ entry_size t.class form → bytes ≡ item size n entries → e ≡ entry_in t form bytes
    → e ≡ entry_at t form entries n
entry_is t form entries n size bytes e sized told read =
    read ∙ (ap (entry_in t form) told ∙ ap (λ s. entry_in t form (item s n entries)) sized)

-- entry n, after those before it
pub next_applied : (t : Target) (form : AddendPlace) (entries symbols : List ℕ) (n : ℕ) (b before after : List ℕ) (e : Relocation)
    → applied_upto t form entries symbols n b ≡ Ok before → e ≡ entry_at t form entries n
    → applied t symbols e before ≡ Ok after → applied_upto t form entries symbols (n + 1) b ≡ Ok after
next_applied t form entries symbols n b before after e so_far is next =
    let one : n + 1 ≡ suc n = omega arith in
    ap (λ k. applied_upto t form entries symbols k b) one
    ∙ (ap (and_then (applied t symbols (entry_at t form entries n))) so_far
    ∙ (ap (λ z. applied t symbols z before) (sym is) ∙ next))

-- a fault decides, whatever follows
pub fault_stays : (t : Target) (form : AddendPlace) (entries symbols : List ℕ) (end n : ℕ) (b : List ℕ)
    (fault : RelocationFault) → n ≤ end → applied_upto t form entries symbols n b ≡ Err fault
    → applied_upto t form entries symbols end b ≡ Err fault
fault_stays t form entries symbols zero n b fault le is =
    let none : zero ≡ n = omega (arith, le) in
    ap (λ k. applied_upto t form entries symbols k b) none ∙ is
fault_stays t form entries symbols (suc end) n b fault le is = elim (cases_lt n (suc end)) [
  | inl less ↦ ap (and_then (applied t symbols (entry_at t form entries end)))
      (fault_stays t form entries symbols end n b fault (omega (arith, less)) is)
  | inr more ↦ (let same : suc end ≡ n = omega (arith, le, more) in
      ap (λ k. applied_upto t form entries symbols k b) same ∙ is)
]

-- entry n of all has a fault, and those before it have none
pub relocated_to_fault : (t : Target) (form : AddendPlace) (entries symbols : List ℕ) (n end : ℕ) (b before : List ℕ)
    (e : Relocation) (fault : RelocationFault) → n < end → end ≡ count (entry_size t.class form) entries
    → applied_upto t form entries symbols n b ≡ Ok before
    → e ≡ entry_at t form entries n → applied t symbols e before ≡ Err fault
    → relocated t form entries symbols b ≡ Err fault
relocated_to_fault t form entries symbols n end b before e fault less all so_far is next =
    ap (λ k. applied_upto t form entries symbols k b) (sym all)
    ∙ fault_stays t form entries symbols end (suc n) b fault (omega (arith, less))
    (ap (and_then (applied t symbols (entry_at t form entries n))) so_far
    ∙ (ap (λ z. applied t symbols z before) (sym is) ∙ next))
