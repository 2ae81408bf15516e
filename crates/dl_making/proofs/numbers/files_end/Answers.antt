use Rattle.std.proofs.Common.{Option, arith, ap, length}
use Rattle.std.specs.Option.{option_copied, option_map_or}
use Rattle.dl_field.specs.HeaderData.{header_cells}
use Rattle.dl_table.specs.TableData.{TableData}
use Rattle.dl_making.proofs.FewLemmas.{entries_few}
use Rattle.dl_making.proofs.numbers.files_end.Goals as goal

pub returns-in-Some-clause-few : goal.returns-in-Some-clause-few
returns-in-Some-clause-few c =
    let h = c.in-Some.header.now in
    omega (
      arith,
      entries_few h.files c.params-params.ensures.sound.files,
      c.first_number.ensures.least,
      c.len.ensures,
      ap (λ (t : TableData). length t.entries) c.files.ensures,
      c.saturating_add.ensures,
      ap (λ (o : Option _). option_map_or header_cells (option_copied o) 0) c.in-Some.is,
    )
