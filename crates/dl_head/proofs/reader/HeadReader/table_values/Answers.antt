use Rattle.std.proofs.Common.{◌+◌, inl, inr, refl, arith}
use Rattle.dl_field.specs.ListPlace.{list_cells}
use Rattle.dl_field.specs.TablePlace.{reader_cells}
use Rattle.dl_table.specs.TableCells.{table_cells}
use Rattle.dl_head.specs.declared.reader.Phase.TheVariants as phase
use Rattle.dl_head.specs.HeaderLayout.{from_files, from_end, from_older_files}
use Rattle.dl_head.proofs.ListSpellings.{list_reads_each}
use Rattle.dl_head.proofs.OneFieldMore.{at_phase, phase_at}
use Rattle.dl_head.proofs.TableSpellings.{front_is_read, stands_each}
use Rattle.dl_head.proofs.TableValues.{values_taken}
use Rattle.dl_head.proofs.reader.HeadReader.table_values.Goals as goal

pub invariant_of-self-clause-read : goal.invariant_of-self-clause-read
invariant_of-self-clause-read c =
    let old = c.args.self.now in
    let v = c.whole_values in
    stands_each old.phase old.dialect.order old.params.format old.table v.new.self _ c.in-Directories.is
    (front_is_read v.result c.args.bytes.now (λ i lt. omega (arith, c.type_inv.bytes i))) v.ensures.values old.read

pub invariant_of-self-in-OlderDirectories-clause-listed : goal.invariant_of-self-in-OlderDirectories-clause-listed
invariant_of-self-in-OlderDirectories-clause-listed c =
    let v = c.whole_values-in-OlderDirectories in
    list_reads_each c.args.self.now.list v.new.self _
    (front_is_read v.result c.args.bytes.now (λ i lt. omega (arith, c.type_inv.bytes i))) v.ensures.values
    c.args.self.now.listed

pub returns-in-Directories-clause-takes : goal.returns-in-Directories-clause-takes
returns-in-Directories-clause-takes c =
    let old = c.args.self.now in
    let k = table_cells old.directories + table_cells old.files + list_cells old.list in
    let v = c.whole_values.ensures.values in
    elim c.in-Directories.is [
      | inl is ↦ values_taken old _ _ k _ reader_cells old.table _ (from_files old.params) _ v refl refl (omega arith)
          (omega arith) (λ items rest at. at_phase old phase.Directories items rest is at) (λ l w at. at)
          (λ items l m w z before past now.
          phase_at _ _ phase.Directories items z is (record { layout = m; tail = past; at = now }))
      | inr is ↦ values_taken old _ _ k _ reader_cells old.table _ (from_end old.params old.directories) _ v refl refl
          (omega arith) (omega arith) (λ items rest at. at_phase old phase.Files items rest is at) (λ l w at. at)
          (λ items l m w z before past now.
          phase_at _ _ phase.Files items z is (record { layout = m; tail = past; at = now }))
    ]

pub returns-in-OlderDirectories-clause-takes : goal.returns-in-OlderDirectories-clause-takes
returns-in-OlderDirectories-clause-takes c =
    let old = c.args.self.now in
    let k = table_cells old.directories + table_cells old.files + reader_cells old.table in
    let v = c.whole_values-in-OlderDirectories.ensures.values old.dialect.order old.params.format in
    elim c.in-OlderDirectories.is [
      | inl is ↦ values_taken old _ _ k _ list_cells old.list _ (from_older_files old.params) _ v refl refl
          (omega arith)
          (omega arith) (λ items rest at. at_phase old phase.OlderDirectories items rest is at) (λ l w at. at.0)
          (λ items l m w z before past now.
          phase_at _ _ phase.OlderDirectories items z is (record { layout = m; tail = past; at = (now, before.1) }))
      | inr is ↦ values_taken old _ _ k _ list_cells old.list _ (from_end old.params old.directories) _ v refl refl
          (omega arith) (omega arith) (λ items rest at. at_phase old phase.OlderFiles items rest is at) (λ l w at. at.0)
          (λ items l m w z before past now.
          phase_at _ _ phase.OlderFiles items z is (record { layout = m; tail = past; at = (now, before.1) }))
    ]
