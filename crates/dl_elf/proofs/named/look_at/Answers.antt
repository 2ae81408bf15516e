use Rattle.std.proofs.Common.{◌≡◌, ◌∙◌, sym, ap}
use Rattle.dl_elf.specs.Slots.{name_front}
use Rattle.dl_elf.specs.Slots.{slot_at, name_at}
use Rattle.dl_elf.proofs.ForwardLemmas.{passed_forward, passed_upto}
use Rattle.dl_elf.proofs.FoundLemmas.{found_more, found_noted, outside_not_wanted, nobits_not_wanted}
use Rattle.dl_elf.proofs.named.look_at.Goals as goal

pub returns-in_default-clause-found : goal.returns-in_default-clause-found
returns-in_default-clause-found g c = λ f is short found k less.
    let e = c.args.elf.now in
    found_more e f (name_at k) c.args.number (slot_at c.args.sections.now.found k) (found k less)
    (outside_not_wanted e f (name_at k) c.args.number (sym c.in_default.is ∙ c.in_ok-header.ensures.section f is short))

pub returns-then-header-eq-NOBITS-clause-found : goal.returns-then-header-eq-NOBITS-clause-found
returns-then-header-eq-NOBITS-clause-found g c = λ f is short found k less.
    let e = c.args.elf.now in
    rw c.pass.ensures.slots (found_more e f (name_at k) c.args.number (slot_at c.args.sections.now.found k)
    (found k less)
    (nobits_not_wanted e f (name_at k) c.args.number c.in-Some.header (sym c.in-Some.is
    ∙ c.in_ok-header.ensures.section f is short) c.if-header-eq-NOBITS.true))

pub returns-then-header-eq-NOBITS-clause-forward : goal.returns-then-header-eq-NOBITS-clause-forward
returns-then-header-eq-NOBITS-clause-forward g c = λ f is short none.
    rw c.pass.ensures.forward (passed_forward c.args.elf.now f c.args.number c.args.sections.now.forward
    c.in-Some.header (sym c.in-Some.is ∙ c.in_ok-header.ensures.section f is short) none)

pub returns-then-header-eq-NOBITS-clause-most : goal.returns-then-header-eq-NOBITS-clause-most
returns-then-header-eq-NOBITS-clause-most g c = λ upto.
    rw c.pass.ensures.forward (passed_upto c.args.number c.args.sections.now.forward c.in-Some.header upto)

pub returns-clause-found : goal.returns-clause-found
returns-clause-found g c = λ f is short found k less.
    let e = c.args.elf.now in
    let b = c.shown.result.now in
    let name : b ≡ name_front e f c.in-Some.header 20 =
    c.shown.ensures.bytes ∙ c.in_ok-at.ensures.name f is short in
    let kept = ap (λ s. slot_at s k) c.pass.ensures.slots in
    rw (c.note.ensures.slots k less, kept) (found_noted e f (name_at k) c.args.number c.in-Some.header b
    (slot_at c.args.sections.now.found k) c.requires.from
    (sym c.in-Some.is ∙ c.in_ok-header.ensures.section f is short) c.if-header-eq-NOBITS.false name (found k less))

pub returns-clause-forward : goal.returns-clause-forward
returns-clause-forward g c = λ f is short none.
    rw (c.note.ensures.forward, c.pass.ensures.forward) (passed_forward c.args.elf.now f c.args.number
    c.args.sections.now.forward c.in-Some.header (sym c.in-Some.is ∙ c.in_ok-header.ensures.section f is short) none)

pub returns-clause-most : goal.returns-clause-most
returns-clause-most g c = λ upto.
    rw (c.note.ensures.forward, c.pass.ensures.forward)
    (passed_upto c.args.number c.args.sections.now.forward c.in-Some.header upto)
