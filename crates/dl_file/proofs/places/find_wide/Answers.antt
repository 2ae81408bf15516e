use Rattle.std.proofs.Common.{◌-◌, ◌∙◌, sym, arith}
use Rattle.dl_file.proofs.ListedLemmas.{wide_listed}
use Rattle.dl_file.proofs.PlaceLemmas.{wide_is, wide_more, wide_whole}
use Rattle.dl_file.proofs.places.find_wide.Goals as goal

pub returns-in-Some-clause-section : goal.returns-in-Some-clause-section
returns-in-Some-clause-section g c = λ f is short.
    sym (wide_is c.args.elf.now f c.args.number c.loop-at.at c.in-Some.section c.loop-at.invariant.from
    c.loop-at-test.true (c.loop-at.invariant.none f is short)
    (sym (c.in_ok-section.ensures.section f is short) ∙ c.in-Some.is))
    ∙ wide_listed c.args.elf.now f c.args.number (c.args.elf.now.count - 1)

pub loop-at-preserved : goal.loop-at-preserved
loop-at-preserved g c =
    let from = c.loop-at.invariant.from in
    record {
      from = omega (arith, from);
      upto = omega (arith, from, c.loop-at-test.true);
      shows = c.in_ok-section.ensures.shows;
      none = λ f is short. wide_more c.args.elf.now f c.args.number c.loop-at.at from
          (c.loop-at.invariant.none f is short)
          (sym (c.in_ok-section.ensures.section f is short) ∙ c.in_default.is);
    }

pub returns-clause-section : goal.returns-clause-section
returns-clause-section g c = λ f is short.
    sym (wide_whole c.args.elf.now f c.args.number c.loop-at.at c.loop-at.invariant.upto c.loop-at-test.false
    (c.loop-at.invariant.none f is short))
    ∙ wide_listed c.args.elf.now f c.args.number (c.args.elf.now.count - 1)
