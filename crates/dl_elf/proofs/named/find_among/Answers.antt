use Rattle.std.proofs.Common.{arith}
use Rattle.dl_elf.proofs.ForwardLemmas.{none_at_first}
use Rattle.dl_elf.proofs.FoundLemmas.{empty_found, found_at_end, all_found}
use Rattle.dl_elf.proofs.named.find_among.Goals as goal

pub loop-number-init : goal.loop-number-init
loop-number-init g c = record {
  headers = c.new-headers.ensures (g.S.ReadAt.all_bytes c.args.source.now);
  names = c.new-names.ensures (g.S.ReadAt.all_bytes c.args.source.now);
  upto = omega arith;
  found = λ f is short. empty_found c.args.elf.now f c.new-sections.result.found c.new-sections.ensures.slots;
  reached = omega (arith, c.new-sections.ensures.forward);
  forward = λ f is short. none_at_first c.args.elf.now f c.new-sections.result.forward c.new-sections.ensures.forward;
}

pub loop-number-preserved : goal.loop-number-preserved
loop-number-preserved g c =
    let so_far = c.loop-number.invariant in
    let told = c.in_ok-look_at.ensures in
    record {
      headers = told.headers;
      names = told.names;
      upto = omega (arith, so_far.upto, c.loop-number-test.true);
      found = λ f is short. told.found f is short (so_far.found f is short);
      reached = told.most so_far.reached;
      forward = λ f is short. told.forward f is short (so_far.forward f is short);
    }

pub returns-clause-found : goal.returns-clause-found
returns-clause-found g c = λ f is short.
    let end = c.loop-number.invariant in
    all_found c.args.elf.now f c.loop-number.sections.found
    (found_at_end c.args.elf.now f c.loop-number.number c.loop-number.sections.found
    (omega arith) c.loop-number-test.false end.upto (end.found f is short))
