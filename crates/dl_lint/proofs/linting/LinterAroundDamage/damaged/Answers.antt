use Rattle.std.proofs.Common.{ap}
use Rattle.dl_sections.specs.DamageTold.{damages_told}
use Rattle.dl_findings.specs.FindingTold.{findings_text}
use Rattle.dl_lint.specs.Linting.{strings_of}
use Rattle.dl_lint.proofs.LintingLemmas.{found_damage, tells_damage}
use Rattle.dl_lint.proofs.linting.LinterAroundDamage.damaged.Goals as goal

pub returns : goal.returns
returns g c = record {
  tells = λ first start now visits linted. tells_damage linted c.damaged.new.self c.args._unit c.args.damage
      (c.damaged.ensures first.damages.now (damages_told visits) linted.heard);
  quiet = λ first visits. ap (findings_text first.report.question.now.form)
      (found_damage (strings_of first) first.report.question.now visits c.args._unit c.args.damage.offset c.args.damage.kind);
  reasons = λ first visits offset kind no. (let e = no.0 in absurd cc);
}
