use Rattle.std.proofs.Common.{◌≡◌, ◌++◌, ℕ, List, MatchResult, Ok, Err, refl, subst, sym}
use Rattle.dl_num.specs.declared.fixed.Order.TheVariants.{Little}
use Rattle.dl_reloc.specs.declared.target.Class.TheVariants.{Bits64}
use Rattle.dl_reloc.specs.declared.target.AddendPlace.{AddendPlace}
use Rattle.dl_reloc.specs.declared.target.AddendPlace.TheVariants.{Rela}
use Rattle.dl_reloc.specs.declared.target.Target.{Target}
use Rattle.dl_reloc.specs.Relocated.{relocated, AreWhole}
use Rattle.dl_reloc.proofs.apply.relocate.Goals as goal

same_target : (t : Target) → t.class ≡ Bits64 → t.order ≡ Little
    → record { machine = t.machine; class = Bits64; order = Little } ≡ t
same_target t class order = rw (← class, ← order) refl

-- what holds of a target and form that are told again
told_again : (P : Target → AddendPlace → Type 0) (t : Target) (form : AddendPlace) → t.class ≡ Bits64 → t.order ≡ Little
    → form ≡ Rela → P (record { machine = t.machine; class = Bits64; order = Little }) Rela → P t form
told_again P t form class order rela told =
    let Q : Target → Type 0 = λ s. P s Rela in
    let R : AddendPlace → Type 0 = λ k. P t k in
    subst R (sym rela) (subst Q (same_target t class order) told)

pub returns-in-Bits64-Little-Rela-clause-made : goal.returns-in-Bits64-Little-Rela-clause-made
returns-in-Bits64-Little-Rela-clause-made c =
    let is = c.in-Bits64-Little-Rela in
    told_again (λ t form. MatchResult c.relocate_entries.result
    (λ _. relocated t form c.args.entries.now c.args.symbols.now c.args.bytes.now ≡ Ok c.relocate_entries.new.bytes)
    (λ fault. relocated t form c.args.entries.now c.args.symbols.now c.args.bytes.now ≡ Err fault))
    c.args.target.now c.args.form is.is-0 is.is-1 is.is-2 c.relocate_entries.ensures.made

pub returns-in-Bits64-Little-Rela-clause-follows : goal.returns-in-Bits64-Little-Rela-clause-follows
returns-in-Bits64-Little-Rela-clause-follows c =
    let is = c.in-Bits64-Little-Rela in
    let entries = c.args.entries.now in
    let symbols = c.args.symbols.now in
    told_again (λ t form. (before first : List ℕ) → AreWhole t form before
    → relocated t form before symbols first ≡ Ok c.args.bytes.now → MatchResult c.relocate_entries.result
    (λ _. relocated t form (before ++ entries) symbols first ≡ Ok c.relocate_entries.new.bytes)
    (λ fault. (rest : List ℕ) → relocated t form ((before ++ entries) ++ rest) symbols first ≡ Err fault))
    c.args.target.now c.args.form is.is-0 is.is-1 is.is-2 c.relocate_entries.ensures.follows
