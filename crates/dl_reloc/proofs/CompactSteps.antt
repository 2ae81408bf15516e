-- What the entries of a section of compact relocations make of bytes, one entry further on.
use Rattle.std.proofs.Common.{◌≡◌, ℕ, suc, ◌+◌, ◌-◌, ◌^◌, ◌<◌, List, [], Option, Some, None, Ok, Err, false}
use Rattle.std.proofs.Common.{arith, ap, ◌∙◌}
use Rattle.dl_reloc.specs.declared.target.Class.{Class}
use Rattle.dl_reloc.specs.declared.target.Target.{Target}
use Rattle.dl_reloc.specs.declared.entry.Relocation.{Relocation}
use Rattle.dl_reloc.specs.declared.compact.CompactHeader.{CompactHeader}
use Rattle.dl_reloc.specs.declared.apply.RelocationFault.{RelocationFault}
use Rattle.dl_reloc.specs.declared.apply.RelocationFault.TheVariants.{Damaged}
use Rattle.dl_reloc.specs.Relocated.{applied, and_then}
use Rattle.dl_num.specs.LebFront.{after_leb}
use Rattle.dl_reloc.specs.Compact.{Compact, Next, applied_all, before_all, compact_after, compact_with, header_of}
use Rattle.dl_reloc.specs.Compact.{if_whole, made_by, next_entry, relocated_compact, unsigned_front, with_entry}

-- what follows an entry, by what was read of it
abbrev pub by : Class → CompactHeader → (n : ℕ) → Option Next → Compact
by class h n next = elim next [
  | Some next ↦ with_entry next.entry (compact_after class h next.entry n next.rest)
  | None ↦ record { entries = []; whole = false }
]

-- one of n - i entries
pub one_of : (class : Class) (h : CompactHeader) (e : Relocation) (b : List ℕ) (n i : ℕ) → i < n
    → compact_after class h e (n - i) b ≡ by class h (n - (i + 1)) (next_entry class h e b)
one_of class h e b n i less =
    let one : n - i ≡ suc (n - (i + 1)) = omega (arith, less) in
    ap (λ k. compact_after class h e k b) one

-- before the first entry
pub begun : (t : Target) (section symbols b : List ℕ) (h : CompactHeader) (e : Relocation) (rest : List ℕ) (n : ℕ)
    → unsigned_front (2 ^ 64) section ≡ Some n → h ≡ header_of n → e ≡ before_all h → rest ≡ after_leb section
    → relocated_compact t section symbols b
    ≡ made_by t symbols (compact_after t.class h e (h.count - 0) rest) b
begun t section symbols b h e rest n told header entry follows =
    let whole : h.count - 0 ≡ h.count = omega arith in
    rw (whole, entry, header, follows) (ap (λ o. made_by t symbols (compact_with t.class section o) b) told)

-- an entry that is applied
pub next_made : (t : Target) (symbols : List ℕ) (h : CompactHeader) (e next : Relocation) (b rest before after : List ℕ)
    (n i : ℕ) → i < n → next_entry t.class h e b ≡ Some (record { entry = next; rest = rest })
    → applied t symbols next before ≡ Ok after
    → made_by t symbols (compact_after t.class h e (n - i) b) before
    ≡ made_by t symbols (compact_after t.class h next (n - (i + 1)) rest) after
next_made t symbols h e next b rest before after n i less found is =
    let m = n - (i + 1) in
    let c = compact_after t.class h next m rest in
    ap (λ d. made_by t symbols d before) (one_of t.class h e b n i less ∙ ap (by t.class h m) found)
    ∙ ap (λ r. and_then (if_whole c.whole) (and_then (applied_all t symbols c.entries) r)) is

-- one that has a fault
pub next_refused : (t : Target) (symbols : List ℕ) (h : CompactHeader) (e next : Relocation) (b rest before : List ℕ)
    (n i : ℕ) (fault : RelocationFault) → i < n
    → next_entry t.class h e b ≡ Some (record { entry = next; rest = rest })
    → applied t symbols next before ≡ Err fault
    → made_by t symbols (compact_after t.class h e (n - i) b) before ≡ Err fault
next_refused t symbols h e next b rest before n i fault less found is =
    let m = n - (i + 1) in
    let c = compact_after t.class h next m rest in
    ap (λ d. made_by t symbols d before) (one_of t.class h e b n i less ∙ ap (by t.class h m) found)
    ∙ ap (λ r. and_then (if_whole c.whole) (and_then (applied_all t symbols c.entries) r)) is

-- one that isn't there
pub next_damaged : (t : Target) (symbols : List ℕ) (h : CompactHeader) (e : Relocation) (b before : List ℕ) (n i : ℕ)
    → i < n → next_entry t.class h e b ≡ None
    → made_by t symbols (compact_after t.class h e (n - i) b) before ≡ Err Damaged
next_damaged t symbols h e b before n i less none =
    ap (λ d. made_by t symbols d before)
    (one_of t.class h e b n i less ∙ ap (by t.class h (n - (i + 1))) none)
