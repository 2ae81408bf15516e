use Rattle.std.proofs.Common.{◌∙◌, arith}
use Rattle.std.proofs.lemmas.List.{length-set}
use Rattle.dl_findings.specs.RuleNames.{rule_place}
use Rattle.dl_findings.proofs.BitLemmas.{one_more}
use Rattle.dl_findings.proofs.CountLemmas.{place-lt}
use Rattle.dl_findings.proofs.rules.Rules.of_bits.Goals as goal

pub loop-place-preserved : goal.loop-place-preserved
loop-place-preserved c =
    let l = c.loop-place in
    record {
      long = length-set l.has l.place _ ∙ l.invariant.long;
      read = one_more c.args.bits l.has l.place
          (omega (arith, l.auto.place-end, c.loop-place-test.true, l.invariant.long)) l.invariant.read;
    }

pub returns : goal.returns
returns c r =
    let l = c.loop-place in
    l.invariant.read (rule_place r) (omega (arith, place-lt r, c.loop-place-test.false))
