-- The entries of an archive, one after the other.
use Rattle.std.proofs.Common.{◌≡◌, ◌≤◌, ◌<◌, ◌+◌, ◌-◌, ◌^◌, ℕ, zero, suc, Bool, true, false, cond, List, [], ◌∷◌, length, Option, Some}
use Rattle.std.proofs.Common.{None, IfSome, Err, refl, sym, ap, ◌∙◌, arith, inl, inr, nat_le}
use Rattle.std.specs.Prelude.{option_map, option_and_then, bytes_eq}
use Rattle.std.specs.Option.{option_map_or}
use Rattle.std.specs.Prelude.{◌==◌}
use Rattle.std.proofs.lemmas.Bool.{cases_Bool, eqb-true, leb-true, le-leb, lt-leb}
use Rattle.dl_elf.specs.Elf.{bytes_at}
use Rattle.dl_elf.specs.Sections.{lies_within}
use Rattle.dl_elf.specs.declared.file.Range.{Range}
use Rattle.dl_archive.specs.Archive.{after, and_others, body_of, end_of, entry_at, entry_of, entry_with, EntryData, header_at, header_in}
use Rattle.dl_archive.specs.Archive.{members_from, members_upto, name_field, names_after, number_of, stored, without_end}
use Rattle.dl_archive.specs.declared.header.Header.{Header}
use Rattle.dl_archive.specs.declared.fault.ArchiveFault.{ArchiveFault}
use Rattle.dl_archive.specs.declared.fault.ArchiveFault.TheVariants.{Damaged, Read}
use Rattle.dl_archive.specs.declared.kind.Kind.{Kind}
use Rattle.dl_archive.specs.declared.members.Members.{Members}
use Rattle.dl_archive.specs.declared.name_field.NameField.{NameField}
use Rattle.dl_archive.specs.Told.{Ended, EntryTold}

-- ---- the next entry begins behind the one before it

with_size : (at : ℕ) (name : NameField) (size : Option ℕ)
    → IfSome (option_map (λ n. record { offset = at; name = name; size = n }) size) (λ (h : Header). h.offset ≡ at)
with_size at name None = tt
with_size at name (Some n) = refl

with_field : (at : ℕ) (size : Option ℕ) (name : Option NameField) → IfSome (option_and_then (λ (field : NameField).
    option_map (λ n. record { offset = at; name = field; size = n }) size) name) (λ (h : Header). h.offset ≡ at)
with_field at size None = tt
with_field at size (Some name) = with_size at name size

where_if : {A : Type 0} (P : A → Type 0) (t : Bool) (o : Option A) → IfSome o P → IfSome (cond t o None) P
where_if P true o h = h
where_if P false o h = tt

header_offset : (at : ℕ) (b : List ℕ) → IfSome (header_in at b) (λ h. h.offset ≡ at)
header_offset at b =
    where_if (λ (h : Header). h.offset ≡ at) (bytes_eq (bytes_at 58 2 b) (0x60 ∷ 10 ∷ [])) _
    (with_field at (number_of (without_end 32 (bytes_at 48 10 b))) (name_field (without_end 32 (bytes_at 0 16 b))))

-- where bytes lie that begin in the file
ends_in : (f : List ℕ) (at size : ℕ) → at ≤ length f → lies_within at size f ≡ true → at + size ≤ length f
ends_in f at size begins lies = elim (cases_Bool (size == 0)) [
  | inl none ↦ (let empty : size ≡ 0 = eqb-true size 0 none in omega (arith, begins, empty))
  | inr some ↦ leb-true (at + size) (length f) (rw some at lies)
]

moves_with : (kind : Kind) (h : Header) (at most : ℕ) → h.offset ≡ at → end_of kind h ≤ most → most < 2 ^ 64
    → (o : Option EntryData) → IfSome {T = EntryData × ℕ} (option_map (λ e. (e, after kind h)) o) (λ e. (at < e.1) × (at < most))
moves_with kind h at most is within short None = tt
moves_with kind h at most is within short (Some e) = (omega (arith, is, within, short), omega (arith, is, within))

moves_from : (kind : Kind) (f : List ℕ) (names : Option Range) (at : ℕ) (o : Option Header) → length f < 2 ^ 64
    → IfSome o (λ h. h.offset ≡ at) → IfSome (option_and_then (entry_with kind f names) o) (λ e. (at < e.1) × (at < length f))
moves_from kind f names at None short is = tt
moves_from kind f names at (Some h) short is = elim (cases_Bool (nat_le (end_of kind h) (length f))) [
  | inl within ↦ rw within (moves_with kind h at (length f) is (leb-true (end_of kind h) (length f) within) short
      (entry_of kind f names h h.name))
  | inr without ↦ rw without tt
]

moves : (kind : Kind) (f : List ℕ) (names : Option Range) (at : ℕ) → length f < 2 ^ 64
    → IfSome (entry_at kind f names at) (λ e. (at < e.1) × (at < length f))
moves kind f names at short =
    moves_from kind f names at (header_at f at) short
    (where_if (λ (h : Header). h.offset ≡ at) (nat_le (at + 60) (length f)) (header_in at (bytes_at at 60 f))
    (header_offset at (bytes_at at 60 f)))

-- ---- the members that are left

pub end_told : (n : ℕ) (kind : Kind) (f : List ℕ) (names : Option Range) (at : ℕ) → length f ≤ at
    → members_upto n kind f names at ≡ ([], None)
end_told zero kind f names at end = refl
end_told (suc n) kind f names at end = rw (le-leb (length f) at end) refl

by_entry : (m k : ℕ) (kind : Kind) (f : List ℕ) (names : Option Range) (at : ℕ) (o : Option (EntryData × ℕ))
    → IfSome o (λ e. (at < e.1) × (at < length f))
    → ((e : EntryData × ℕ) → at < e.1
    → members_upto m kind f (names_after e.0 names) e.1 ≡ members_upto k kind f (names_after e.0 names) e.1)
    → option_map_or (λ e. and_others e.0 (members_upto m kind f (names_after e.0 names) e.1)) o ([], Some at)
    ≡ option_map_or (λ e. and_others e.0 (members_upto k kind f (names_after e.0 names) e.1)) o ([], Some at)
by_entry m k kind f names at None later same = refl
by_entry m k kind f names at (Some e) later same = ap (and_others e.0) (same e later.0)

-- no more entries are there than bytes
enough : (m k : ℕ) (kind : Kind) (f : List ℕ) (names : Option Range) (at : ℕ) → length f < 2 ^ 64 → length f ≤ at + m
    → length f ≤ at + k → members_upto m kind f names at ≡ members_upto k kind f names at
enough zero k kind f names at short l l' = sym (end_told k kind f names at (omega (arith, l)))
enough (suc m) zero kind f names at short l l' = end_told (suc m) kind f names at (omega (arith, l'))
enough (suc m) (suc k) kind f names at short l l' = elim (cases_Bool (nat_le (length f) at)) [
  | inl end ↦ rw end refl
  | inr more ↦ rw more (by_entry m k kind f names at (entry_at kind f names at) (moves kind f names at short)
      (λ e later. enough m k kind f (names_after e.0 names) e.1 short (omega (arith, l, later)) (omega (arith, l', later))))
]

-- what stands at an offset in the file, by what the entry there is
at_entry : (kind : Kind) (f : List ℕ) (names : Option Range) (at : ℕ) → at < length f
    → members_from kind f names at ≡ option_map_or (λ e. and_others e.0 (members_upto (length f - 1) kind f (names_after e.0 names) e.1))
    (entry_at kind f names at) ([], Some at)
at_entry kind f names at more =
    let some : length f ≡ suc (length f - 1) = omega (arith, more) in
    ap (λ n. members_upto n kind f names at) some ∙ rw (lt-leb (length f) at more) refl

pub damage_told : (kind : Kind) (f : List ℕ) (names : Option Range) (at : ℕ) → entry_at kind f names at ≡ None
    → at < length f → members_from kind f names at ≡ ([], Some at)
damage_told kind f names at none more = at_entry kind f names at more ∙ rw none refl

pub entry_told : (kind : Kind) (f : List ℕ) (names : Option Range) (at : ℕ) (e : EntryData × ℕ) → length f < 2 ^ 64
    → entry_at kind f names at ≡ Some e → members_from kind f names at ≡ and_others e.0 (members_from kind f (names_after e.0 names) e.1)
entry_told kind f names at e short is =
    let later : (at < e.1) × (at < length f) = rw is at (moves kind f names at short) in
    at_entry kind f names at later.1 ∙ rw is (ap (and_others e.0)
    (enough (length f - 1) (length f) kind f (names_after e.0 names) e.1 short (omega (arith, later.0, later.1)) (omega arith)))

-- a header lies in the file
sure : {A P : Type 0} (o : Option A) → P → IfSome o (λ x. P)
sure None p = tt
sure (Some x) p = p

header_within : (f : List ℕ) (at : ℕ) → IfSome (header_at f at) (λ h. at + 60 ≤ length f)
header_within f at = elim (cases_Bool (nat_le (at + 60) (length f))) [
  | inl within ↦ rw within (sure (header_in at (bytes_at at 60 f)) (leb-true (at + 60) (length f) within))
  | inr without ↦ rw without tt
]

-- the entry with a header whose bytes lie in the file
pub entry_with_header : (kind : Kind) (f : List ℕ) (names : Option Range) (at : ℕ) (h : Header) (e : EntryData) (next : ℕ)
    → header_at f at ≡ Some h → h.offset ≡ at → lies_within (body_of h) (stored kind h) f ≡ true
    → entry_of kind f names h h.name ≡ Some e → next ≡ after kind h → entry_at kind f names at ≡ Some (e, next)
entry_with_header kind f names at h e next is there lies named later =
    let header : at + 60 ≤ length f = rw is at (header_within f at) in
    let within : end_of kind h ≤ length f = ends_in f (body_of h) (stored kind h) (omega (arith, header, there)) lies in
    rw (is, le-leb (end_of kind h) (length f) within, named, later) refl

-- ---- what is told

pub fault_told : {S : Type 0} (f : List ℕ) (m : Members S) (fault : ArchiveFault) → Ended {T = Unit {0}} f m.next (Err fault)
    → entry_at m.kind f m.names m.next ≡ None → EntryTold f m m (Err fault)
fault_told f m (Damaged at) ended none =
    (damage_told m.kind f m.names m.next none ended.1 ∙ ap (λ n. ([], Some n)) (sym ended.0), refl)
fault_told f m (Read error) ended none = refl
