use Rattle.std.proofs.Common.{arith, ◌-◌, ◌*◌, ◌∙◌, ap, length, sym, Ok}
use Rattle.std.proofs.lemmas.Result.{err_from_is_err_and}
use Rattle.dl_file.specs.OneByOne.{placed_at, placed_upto}
use Rattle.dl_memory.specs.Refusals.{IsRefused}
use Rattle.dl_file.proofs.BoundLemmas.{grows_on, refused_here}
use Rattle.dl_file.proofs.RefusedLemmas.{refused_err}
use Rattle.dl_file.proofs.PlaceLemmas.{fault_listed, listed_to_fault, next_listed, none_placed}
use Rattle.dl_file.proofs.places.list_places.Goals as goal

pub loop-at-init : goal.loop-at-init
loop-at-init g c = record {
  from = c.requires.from;
  upto = c.requires.within;
  shows = c.new-window.ensures (g.S.ReadAt.all_bytes c.args.source.now);
  listed = λ f is short. none_placed c.args.elf.now f c.args.line.now (c.args.first - 1) (c.requires.none f is short)
      ∙ ap Ok (sym c.new-places.ensures.items);
  few = λ f is short. (0, c.requires.none f is short, omega (arith, ap length c.new-places.ensures.items));
}

pub returns-in_err-push_at-clause-stops : goal.returns-in_err-push_at-clause-stops
returns-in_err-push_at-clause-stops g c = λ f is short.
    let p = err_from_is_err_and c.from_residual.result c.from_residual.ensures.1 in
    let e = c.args.elf.now in
    let line = c.args.line.now in
    let why = c.in_err-push_at.field-0.0 in
    rw (p.1, p.2) (fault_listed (placed_at e f line c.loop-at.at c.loop-at.places.items)
    (placed_upto e f line (e.count - 1)) _ _ why
    (listed_to_fault e f line c.loop-at.at c.loop-at.places.items why c.loop-at.invariant.from c.loop-at-test.true
    (c.loop-at.invariant.listed f is short)) (λ needs. needs) (c.in_err-push_at.ensures.stops f is short))

pub loop-at-preserved : goal.loop-at-preserved
loop-at-preserved g c =
    let from = c.loop-at.invariant.from in
    let within = c.loop-at-test.true in
    record {
      from = omega (arith, from);
      upto = omega (arith, from, within);
      shows = c.in_ok-push_at.ensures.shows;
      listed = λ f is short. next_listed c.args.elf.now f c.args.line.now c.loop-at.at c.loop-at.places.items
          c.push_at.new.places.items from (c.loop-at.invariant.listed f is short)
          (c.in_ok-push_at.ensures.pushed f is short);
      few = λ f is short. grows_on c.args.elf.now f c.args.line.now.number c.loop-at.at (length f) c.loop-at.places.items
          c.push_at.new.places.items from (c.loop-at.invariant.few f is short) (c.in_ok-push_at.ensures.few f is short);
    }

pub returns-in_err-push_at-clause-most : goal.returns-in_err-push_at-clause-most
returns-in_err-push_at-clause-most g c = λ f is short.
    let p = err_from_is_err_and c.from_residual.result c.from_residual.ensures.1 in
    rw (p.1, p.2) (refused_err _ (IsRefused (g.M.Memory.refuses c.args.memory.now) (16 * length f)) c.in_err-push_at.field-0.0
    (λ refused. refused_here (g.M.Memory.refuses c.args.memory.now) c.args.elf.now f c.args.line.now.number c.loop-at.at (length f)
    c.loop-at.places.items c.loop-at.invariant.from c.loop-at-test.true (c.requires.sections f is short)
    (c.loop-at.invariant.few f is short) refused.0 refused.1) (c.in_err-push_at.ensures.most f is short))
