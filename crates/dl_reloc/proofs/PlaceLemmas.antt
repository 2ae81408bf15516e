-- The places of the entries of a section of relocations, one entry further on.
use Rattle.std.proofs.Common.{◌≡◌, ℕ, suc, ◌+◌, ◌-◌, ◌<◌, List, ◌++◌, Some, None, arith, ap, ◌∙◌}
use Rattle.std.proofs.Common.{sym, append-nil, append_assoc}
use Rattle.dl_reloc.specs.declared.target.AddendPlace.{AddendPlace}
use Rattle.dl_reloc.specs.declared.target.Target.{Target}
use Rattle.dl_reloc.specs.declared.entry.Relocation.{Relocation}
use Rattle.dl_reloc.specs.declared.placed.Placed.{Placed}
use Rattle.dl_reloc.specs.declared.compact.CompactHeader.{CompactHeader}
use Rattle.dl_reloc.specs.Compact.{compact_after, next_entry}
use Rattle.dl_reloc.specs.Relocated.{entry_at}
use Rattle.dl_reloc.specs.Places.{placed_all, placed_upto, places_of}
use Rattle.dl_reloc.proofs.CompactSteps.{by, one_of}

-- ---- entries of one size

-- entry n, after those before it
pub next_placed : (t : Target) (form : AddendPlace) (entries table wide : List ℕ) (n : ℕ) (e : Relocation)
    (first before after : List Placed) → before ≡ first ++ placed_upto t form entries table wide n
    → e ≡ entry_at t form entries n → after ≡ before ++ places_of t e table wide
    → after ≡ first ++ placed_upto t form entries table wide (n + 1)
next_placed t form entries table wide n e first before after so_far is more =
    let one : n + 1 ≡ suc n = omega arith in
    let those = placed_upto t form entries table wide n in
    more ∙ (ap (λ ps. ps ++ places_of t e table wide) so_far
    ∙ (ap (λ z. (first ++ those) ++ places_of t z table wide) is
    ∙ (append_assoc first those (places_of t (entry_at t form entries n) table wide)
    ∙ ap (λ k. first ++ placed_upto t form entries table wide k) (sym one))))

-- ---- compact entries

-- one more entry
pub next_place : (t : Target) (table wide : List ℕ) (h : CompactHeader) (e next : Relocation) (b rest : List ℕ) (n i : ℕ)
    (before after all : List Placed) → i < n
    → next_entry t.class h e b ≡ Some (record { entry = next; rest = rest })
    → before ++ placed_all t (compact_after t.class h e (n - i) b).entries table wide ≡ all
    → after ≡ before ++ places_of t next table wide
    → after ++ placed_all t (compact_after t.class h next (n - (i + 1)) rest).entries table wide ≡ all
next_place t table wide h e next b rest n i before after all less found so_far more =
    let left = placed_all t (compact_after t.class h next (n - (i + 1)) rest).entries table wide in
    ap (λ ps. ps ++ left) more
    ∙ (append_assoc before (places_of t next table wide) left
    ∙ (ap (λ d. before ++ placed_all t d.entries table wide)
    (sym (one_of t.class h e b n i less ∙ ap (by t.class h (n - (i + 1))) found)) ∙ so_far))

-- one that isn't there
pub none_left : (t : Target) (table wide : List ℕ) (h : CompactHeader) (e : Relocation) (b : List ℕ) (n i : ℕ)
    (before all : List Placed) → i < n → next_entry t.class h e b ≡ None
    → before ++ placed_all t (compact_after t.class h e (n - i) b).entries table wide ≡ all → before ≡ all
none_left t table wide h e b n i before all less none so_far =
    sym (append-nil before)
    ∙ (ap (λ d. before ++ placed_all t d.entries table wide)
    (sym (one_of t.class h e b n i less ∙ ap (by t.class h (n - (i + 1))) none)) ∙ so_far)
