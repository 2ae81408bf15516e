use Rattle.std.proofs.Common.{◌≡◌, ◌∙◌, ◌+◌, ◌-◌, ◌^◌, ◌<◌, min, length, sym, ap, arith}
use Rattle.dl_num.proofs.LebFrontLemmas.{true_false}
use Rattle.dl_elf.proofs.NumberedLemmas.{name_differs, name_ends, name_more, ok_map}
use Rattle.dl_elf.proofs.numbered.has_name.Goals as goal

pub returns-then-not-branch-clause-named : goal.returns-then-not-branch-clause-named
returns-then-not-branch-clause-named g c = λ f is short.
    let i = c.loop-index.index in
    sym (name_differs c.args.elf.now f c.args.name.now c.args.section.now i c.saturating_add-at.result short
    (c.saturating_add-at.ensures ∙ ap (λ k. min (k + i) (2 ^ 64 - 1)) c.saturating_add-start.ensures)
    c.loop-index-test.true
    (λ here. true_false ((c.in_ok-has_byte.ensures.byte f is short).1 here) c.if-not-branch.true))

pub loop-index-preserved : goal.loop-index-preserved
loop-index-preserved g c = record {
  names = c.in_ok-has_byte.ensures.shows;
  same = λ f is short.
      let i = c.loop-index.index in
      name_more f c.args.name.now (c.args.elf.now.names.offset + c.args.section.now.name_offset) i
      c.saturating_add-at.result short
      (c.saturating_add-at.ensures ∙ ap (λ k. min (k + i) (2 ^ 64 - 1)) c.saturating_add-start.ensures)
      c.loop-index-test.true (c.loop-index.invariant.same f is short)
      ((c.in_ok-has_byte.ensures.byte f is short).0 c.if-not-branch.false);
}

pub returns-clause-named : goal.returns-clause-named
returns-clause-named g c = λ f is short.
    let name = c.args.name.now in
    let whole : c.loop-index.index ≡ length name =
    omega (arith, c.loop-index-test.false, c.loop-index.auto.index-end) in
    let left : length name < c.args.elf.now.names.size - c.args.section.now.name_offset =
    rw (← c.saturating_sub-left.ensures) c.if-left-name.false in
    ok_map c.has_byte-2.result
    (λ named follows. name_ends c.args.elf.now f name c.args.section.now c.saturating_add-end.result named short
    (omega (arith, left))
    (c.saturating_add-end.ensures ∙ ap (λ k. min (k + length name) (2 ^ 64 - 1)) c.saturating_add-start.ensures)
    (rw whole at (c.loop-index.invariant.same f is short)) follows)
    (c.has_byte-2.ensures.byte f is short)
