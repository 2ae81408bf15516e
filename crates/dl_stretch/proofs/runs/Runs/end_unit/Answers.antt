use Rattle.std.proofs.Common.{◌∙◌, [], true, false}
use Rattle.std.specs.Prelude.{if◌then◌else◌}
use Rattle.dl_stretch.specs.Held.{held}
use Rattle.dl_stretch.specs.Runs.{number_in}
use Rattle.dl_stretch.specs.Stands.{Holds}
use Rattle.dl_stretch.proofs.UnitLemmas.{unit_more}
use Rattle.dl_stretch.proofs.runs.Runs.end_unit.Goals as goal

pub returns-clause-ended : goal.returns-clause-ended
returns-clause-ended c = λ live units rows stands. record {
  whole = λ a lt. c.end_unit.ensures.whole a lt
      ∙ unit_more live units rows (λ file. held (number_in c.args.numbers.now c.args.other file)) a _ _ (stands.whole a lt)
      (stands.unit.right a lt);
  unit = elim (live 0) as (λ b. Holds c.end_unit.new.self (if b then [] else [])) [
    | true ↦ c.end_unit.ensures.unit
    | false ↦ c.end_unit.ensures.unit
  ];
  told = c.new-self.ensures live;
}
