use Rattle.std.proofs.Common.{◌≡◌, ◌∙◌, sym, ap, arith, true}
use Rattle.std.specs.Prelude.{option_map}
use Rattle.dl_elf.specs.Sections.{lies_within}
use Rattle.dl_archive.specs.Archive.{after, body_of, stored}
use Rattle.dl_archive.specs.Told.{entry_seen}
use Rattle.dl_archive.proofs.MemberLemmas.{entry_with_header}
use Rattle.dl_archive.proofs.entry.entry_at.Goals as goal

pub returns-clause-entry : goal.returns-clause-entry
returns-clause-entry g c = λ f is short.
    let h = c.in-Some.header in
    let there : h.offset ≡ c.args.offset = rw c.in-Some.is at c.in_ok-header.ensures.offset in
    let lies : lies_within (body_of h) (stored c.args.kind h) f ≡ true =
    rw (c.in-Some-ends.ensures.0, c.stored.ensures) at (sym (c.in_ok-lies_within.ensures.within f is short) ∙ c.if-not-branch.false) in
    let later : c.saturating_add.result ≡ after c.args.kind h =
    rw c.in-Some-ends.ensures.1 at c.saturating_add.ensures in
    sym (entry_with_header c.args.kind f c.args.names c.args.offset h (entry_seen c.in-Some-2.entry) c.saturating_add.result
    (sym (c.in_ok-header.ensures.header f is short) ∙ c.in-Some.is) there lies
    (sym (c.in_ok-entry.ensures.entry f is short) ∙ ap (option_map entry_seen) c.in-Some-2.is) later)

pub returns-clause-later : goal.returns-clause-later
returns-clause-later g c =
    let there : c.in-Some.header.offset ≡ c.args.offset = rw c.in-Some.is at c.in_ok-header.ensures.offset in
    omega (arith, c.saturating_add.ensures, c.in-Some-ends.ensures, there)
