use Rattle.std.proofs.Common.{arith, ◌-◌}
use Rattle.std.proofs.lemmas.Result.{err_from_is_err_and}
use Rattle.dl_file.specs.OneByOne.{relocated_at, relocated_upto}
use Rattle.dl_file.proofs.AnswerLemmas.{fault_made}
use Rattle.dl_file.proofs.RelocationLemmas.{next_relocated, none_relocated, relocated_to_fault, relocated_whole}
use Rattle.dl_file.proofs.relocating.relocate_line.Goals as goal

pub loop-at-init : goal.loop-at-init
loop-at-init g c = record {
  from = c.requires.from;
  upto = c.requires.within;
  shows = c.new-window.ensures (g.S.ReadAt.all_bytes c.args.source.now);
  made = λ f is short. none_relocated c.args.elf.now f c.args.line.now _ (c.args.first - 1) (c.requires.none f is short);
}

pub returns-in_err-relocate_at-clause-made : goal.returns-in_err-relocate_at-clause-made
returns-in_err-relocate_at-clause-made g c = λ f is short.
    let p = err_from_is_err_and c.from_residual.result c.from_residual.ensures.1 in
    let e = c.args.elf.now in
    let line = c.args.line.now in
    let why = c.in_err-relocate_at.field-0.0 in
    rw (p.1, p.2) (fault_made (relocated_at e f line c.loop-at.at c.loop-at.bytes)
    (relocated_upto e f line c.args.bytes.now (e.count - 1)) c.relocate_at.new.bytes c.relocate_at.new.bytes why
    (relocated_to_fault e f line c.args.bytes.now c.loop-at.at c.loop-at.bytes why c.loop-at.invariant.from c.loop-at-test.true
    (c.loop-at.invariant.made f is short)) (c.in_err-relocate_at.ensures.made f is short))

pub loop-at-preserved : goal.loop-at-preserved
loop-at-preserved g c =
    let from = c.loop-at.invariant.from in
    let within = c.loop-at-test.true in
    record {
      from = omega (arith, from);
      upto = omega (arith, from, within);
      shows = c.relocate_at.ensures.shows;
      made = λ f is short. next_relocated c.args.elf.now f c.args.line.now c.args.bytes.now c.loop-at.at c.loop-at.bytes
          c.relocate_at.new.bytes from (c.loop-at.invariant.made f is short)
          (c.in_ok-relocate_at.ensures.made f is short);
    }

pub returns-clause-made : goal.returns-clause-made
returns-clause-made g c = λ f is short.
    relocated_whole c.args.elf.now f c.args.line.now c.args.bytes.now c.loop-at.at c.loop-at.bytes c.loop-at.invariant.upto
    c.loop-at-test.false (c.loop-at.invariant.made f is short)
