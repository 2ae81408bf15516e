use Rattle.std.proofs.Common.{arith, length, ◌∙◌, ◌++◌, ◌∷◌, [], ap₂, refl, subst}
use Rattle.std.specs.Option.{option_copied}
use Rattle.dl_path.specs.Paths.{beside_table}
use Rattle.dl_stretch.specs.Kept.{unit_count}
use Rattle.dl_stretch.specs.Runs.{held_in}
use Rattle.dl_stretch.specs.Stands.{Stands}
use Rattle.dl_making.specs.declared.files.UnitFiles.{UnitFiles}
use Rattle.dl_memory.proofs.RefusalLemmas.{wants_fewer}
use Rattle.dl_making.proofs.KeepLemmas.{unit_adds, unit_text_is}
use Rattle.dl_making.proofs.MakerLemmas.{ended, file_is}
use Rattle.dl_making.proofs.maker.Maker.end_unit.Goals as goal

pub returns-clause-ended : goal.returns-clause-ended
returns-clause-ended g c =
    let unit : UnitFiles = record {
      strings = c.args.self.now.strings;
      header = c.args.header;
      directory = c.beside_table.result;
      offset = c.args.self.now.unit;
    } in
    ended c.args.self.now _ _ unit c.unit_runs-runs.result.now c.in_ok-numbers.numbers.items c.in_ok-numbers.other
    c.in_ok-numbers.ensures.held c.end_unit.ensures.count c.end_unit.ensures.whole
    (unit_adds c.args.self.now c.numbers_of.new.names (option_copied c.args.header) unit (unit_count c.args.self.now.runs) (length c.unit_runs-runs.result.now) c.unit_runs-runs.ensures.count
    (unit_text_is c.args.self.now (option_copied c.args.header) unit refl
    (c.beside_table.ensures ∙ ap₂ beside_table c.has_directory_0.ensures c.of.ensures) refl) c.in_ok-numbers.ensures.few)
    c.numbers_of.ensures.grows c.numbers_of.ensures.once c.in_ok-numbers.ensures.numbers c.unit_runs-runs.ensures.named
    (λ file. file_is c.args.self.now _ unit file refl
    (c.beside_table.ensures ∙ ap₂ beside_table c.has_directory_0.ensures c.of.ensures) refl refl)
    (λ live units rows st. subst (λ ns. Stands live c.end_unit.new.self
    (units ++ record { number = held_in ns c.in_ok-numbers.other; rows = rows } ∷ []) [])
    c.as_slice.ensures.value (c.end_unit.ensures.ended live units rows st))

pub returns-in_err-numbers-clause-wants : goal.returns-in_err-numbers-clause-wants
returns-in_err-numbers-clause-wants g c =
    let unit : UnitFiles = record {
      strings = c.args.self.now.strings;
      header = c.args.header;
      directory = c.beside_table.result;
      offset = c.args.self.now.unit;
    } in
    wants_fewer _ _ _ _ (omega (
      arith,
      c.unit_runs-runs.ensures.count,
      unit_text_is c.args.self.now (option_copied c.args.header) unit refl
          (c.beside_table.ensures ∙ ap₂ beside_table c.has_directory_0.ensures c.of.ensures) refl,
    )) c.in_err-numbers.ensures.refused
