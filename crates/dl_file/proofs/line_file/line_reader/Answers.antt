use Rattle.std.proofs.Common.{◌≡◌, ◌+◌, ◌^◌, ◌⊎◌, ◌≤◌, ◌<◌, ◌-◌, Some, Ok, Err, arith, ap, drop, inl, inr, length, sym, refl, subst, ℕ, List, ◌∙◌}
use Rattle.std.proofs.lemmas.List.{with_items_is}
use Rattle.std.proofs.lemmas.Result.{err_from_is_err_and}
use Rattle.dl_file.specs.Answering.{IsMade}
use Rattle.dl_file.specs.LineTable.{HoldsTooMuch, IsLine, IsTooLong, Plain, content_of, held_bytes, plain_content}
use Rattle.dl_file.specs.OneByOne.{relocated_upto}
use Rattle.dl_file.proofs.AnswerLemmas.{opened_line, uncounted_opens, unmade_opens, unread_opens}
use Rattle.dl_file.proofs.RelocationLemmas.{line_made, line_refused, line_unread, some_relocations}
use Rattle.dl_file.proofs.RefusedLemmas.{refused_err}
use Rattle.dl_memory.specs.Refusals.{IsRefused, WasRefused}
use Rattle.dl_file.proofs.line_file.line_reader.Goals as goal

pub returns-in_err-relocations-clause-opens : goal.returns-in_err-relocations-clause-opens
returns-in_err-relocations-clause-opens g c = λ f is short.
    let p = err_from_is_err_and c.from_residual.result c.from_residual.ensures.1 in
    rw (p.1, p.2) (uncounted_opens g.S.ReadAt g.S.ReadAt.all_bytes g.S.ReadAt.fails_with
    (g.S.ReadAt.fails_with c.args.source.now) c.args.elf.now f c.args.line.now _ c.in_err-relocations.field-0.0
    (c.in_err-relocations.ensures.found f is short))

pub returns-then-relocations-eq0-clause-opens : goal.returns-then-relocations-eq0-clause-opens
returns-then-relocations-eq0-clause-opens g c = λ f is short.
    opened_line g.S.ReadAt.all_bytes g.S.ReadAt.fails_with (g.S.ReadAt.fails_with c.args.source.now) c.args.elf.now f
    c.args.line.now (Unit {0}) c.in_ok-reader.reader
    ((c.in_ok-relocations.ensures.found f is short).0 ∙ ap Some c.if-relocations-eq0.true)
    (c.in_ok-reader.ensures.opens f is short)

pub returns-then-relocations-gt-MOST_RELOCATIONS-clause-opens :
    goal.returns-then-relocations-gt-MOST_RELOCATIONS-clause-opens
returns-then-relocations-gt-MOST_RELOCATIONS-clause-opens g c = λ f is short.
    let e = c.args.elf.now in
    let line = c.args.line.now in
    let told = (c.in_ok-relocations.ensures.found f is short).0 in
    let sections = c.in_ok-relocations.relocations.count in
    let many : 16 < sections = omega (arith, c.if-relocations-gt-MOST_RELOCATIONS.true) in
    sym (line_refused e f line.section (content_of f line) sections told many)

pub returns-in_err-bytes-clause-opens : goal.returns-in_err-bytes-clause-opens
returns-in_err-bytes-clause-opens g c = λ f is short.
    let p = err_from_is_err_and c.from_residual-in_err-bytes.result c.from_residual-in_err-bytes.ensures.1 in
    let e = c.args.elf.now in
    let line = c.args.line.now in
    let told = (c.in_ok-relocations.ensures.found f is short).0 in
    let sections = c.in_ok-relocations.relocations.count in
    let few : sections ≤ 16 = omega (arith, c.if-relocations-gt-MOST_RELOCATIONS.false) in
    let some = some_relocations e f line.section.number sections told c.if-relocations-eq0.false in
    rw (p.1, p.2) (unread_opens g.S.ReadAt g.S.ReadAt.all_bytes g.S.ReadAt.fails_with
    (g.S.ReadAt.fails_with c.args.source.now) (IsLine e f line) _ (held_bytes (content_of f line)) c.in_err-bytes.field-0.0
    (inl some) (λ first held. sym (line_unread e f line.section (content_of f line) sections first told c.if-relocations-eq0.false few held))
    (c.in_err-bytes.ensures.bytes f is short))

pub returns-in_err-relocate_line-clause-opens : goal.returns-in_err-relocate_line-clause-opens
returns-in_err-relocate_line-clause-opens g c = λ f is short.
    let result = c.from_residual-in_err-relocate_line.result in
    let p = err_from_is_err_and result c.from_residual-in_err-relocate_line.ensures.1 in
    let e = c.args.elf.now in
    let line = c.args.line.now in
    let told = (c.in_ok-relocations.ensures.found f is short).0 in
    let sections = c.in_ok-relocations.relocations.count in
    let few : sections ≤ 16 = omega (arith, c.if-relocations-gt-MOST_RELOCATIONS.false) in
    let some = some_relocations e f line.section.number sections told c.if-relocations-eq0.false in
    let held = c.in_ok-bytes.ensures.bytes f is short in
    let made = line_made e f line.section (content_of f line) sections c.in_ok-bytes.bytes.items told c.if-relocations-eq0.false few held in
    rw (p.1, p.2) (unmade_opens g.S.ReadAt g.S.ReadAt.all_bytes g.S.ReadAt.fails_with
    (g.S.ReadAt.fails_with c.args.source.now) (IsLine e f line) _
    (relocated_upto e f line.section c.in_ok-bytes.bytes.items (e.count - 1)) c.relocate_line.new.bytes
    c.in_err-relocate_line.field-0.0 (inl some) (λ first fault. sym (made ∙ ap plain_content fault))
    (subst (λ (b : List ℕ). IsMade {A = Unit {0}} (relocated_upto e f line.section b (e.count - 1)) c.relocate_line.new.bytes
    (Err c.in_err-relocate_line.field-0.0)) c.as_mut_slice.ensures.value (c.in_err-relocate_line.ensures.made f is short)))

pub returns-clause-opens : goal.returns-clause-opens
returns-clause-opens g c = λ f is short.
    let e = c.args.elf.now in
    let line = c.args.line.now in
    let told = (c.in_ok-relocations.ensures.found f is short).0 in
    let sections = c.in_ok-relocations.relocations.count in
    let few : sections ≤ 16 = omega (arith, c.if-relocations-gt-MOST_RELOCATIONS.false) in
    let made = c.relocate_line.new.bytes in
    let held = c.in_ok-bytes.ensures.bytes f is short in
    let of = line_made e f line.section (content_of f line) sections c.in_ok-bytes.bytes.items told c.if-relocations-eq0.false few held in
    let relocated : relocated_upto e f line.section c.in_ok-bytes.bytes.items (e.count - 1) ≡ Ok made =
    subst (λ (b : List ℕ). relocated_upto e f line.section b (e.count - 1) ≡ Ok made) c.as_mut_slice.ensures.value
    (c.in_ok-relocate_line.ensures.made f is short) in
    let same_len : length made ≡ c.in_ok-bytes.bytes.len =
    c.relocate_line.auto.bytes ∙ (ap (λ b. length b) c.as_mut_slice.ensures.value ∙ sym c.in_ok-bytes.bytes.ok.0) in (
      Plain made,
      sym (of ∙ ap plain_content relocated),
      (
        ap (λ at. Some (drop at c.new.result.inner.items)) c.new.ensures.position
            ∙ (ap (λ v. Some v.items) c.new.ensures.inner
            ∙ ap Some (with_items_is c.in_ok-bytes.bytes made same_len)),
        refl,
        refl,
        λ error fails. absurd fails,
      ),
    )

pub returns-in_err-bytes-clause-refused : goal.returns-in_err-bytes-clause-refused
returns-in_err-bytes-clause-refused g c = λ f is short.
    let p = err_from_is_err_and c.from_residual-in_err-bytes.result c.from_residual-in_err-bytes.ensures.1 in
    let e = c.args.elf.now in
    let line = c.args.line.now in
    let some = some_relocations e f line.section.number c.in_ok-relocations.relocations.count
    (c.in_ok-relocations.ensures.found f is short).0 c.if-relocations-eq0.false in
    let Refusal = WasRefused (g.M.Memory.refuses c.args.memory.now) in
    rw (p.1, p.2) (refused_err (Refusal ⊎ IsTooLong line) (Refusal ⊎ HoldsTooMuch e f line) c.in_err-bytes.field-0.0
    (λ why. elim why [ inl refused ↦ inl refused | inr long ↦ inr (some, long) ])
    c.in_err-bytes.ensures.refused)

pub returns-in_err-bytes-clause-most : goal.returns-in_err-bytes-clause-most
returns-in_err-bytes-clause-most g c = λ f is short.
    let p = err_from_is_err_and c.from_residual-in_err-bytes.result c.from_residual-in_err-bytes.ensures.1 in
    let e = c.args.elf.now in
    let line = c.args.line.now in
    let some = some_relocations e f line.section.number c.in_ok-relocations.relocations.count
    (c.in_ok-relocations.ensures.found f is short).0 c.if-relocations-eq0.false in
    let Refusal = IsRefused (g.M.Memory.refuses c.args.memory.now) (length f + 2 ^ 32) in
    rw (p.1, p.2) (refused_err (Refusal ⊎ IsTooLong line) (Refusal ⊎ HoldsTooMuch e f line) c.in_err-bytes.field-0.0
    (λ why. elim why [ inl refused ↦ inl refused | inr long ↦ inr (some, long) ]) (c.in_err-bytes.ensures.most f is short))
