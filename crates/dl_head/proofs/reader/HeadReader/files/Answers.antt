use Rattle.std.proofs.Common.{◌+◌, refl, sym, subst, ap, arith}
use Rattle.dl_table.specs.TableCells.{table_cells}
use Rattle.dl_field.specs.declared.table_reader.TableReader.{TableReader}
use Rattle.dl_field.specs.ListPlace.{list_cells}
use Rattle.dl_field.specs.TablePlace.{reader_cells}
use Rattle.dl_head.specs.TableSpelt.{TableReads}
use Rattle.dl_head.specs.HeaderLayout.{from_end}
use Rattle.dl_head.specs.declared.reader.Phase.TheVariants as phase
use Rattle.dl_head.proofs.OneFieldMore.{at_phase, phase_at}
use Rattle.dl_head.proofs.HeadTables.{table_goes_on, table_ends, fresh_cells, no_files}
use Rattle.dl_head.proofs.TableSpellings.{makes_table_pushed, reads_on, fresh_reads, stands_at, front_is_read}
use Rattle.dl_head.proofs.reader.HeadReader.files.Goals as goal

pub returns-in-Some-clause-pushed : goal.returns-in-Some-clause-pushed
returns-in-Some-clause-pushed c =
    let old = c.args.self.now in
    let p = c.push_front-next.ensures in
    let next = from_end old.params old.directories in
    let taken = c.in-Some.ensures in
    table_ends old _ c.args.bytes.now _ _ c.push_front-next.new.self next
    (table_cells old.directories + list_cells old.list)
    (record { some = p.some; within = p.within; one = p.one })
    (record { dialect = refl; start = refl; taken = refl; header = refl })
    (record { end = refl; unit_length = refl; format = refl }) (omega (arith, no_files old c.requires.phase))
    (λ items rest at. at_phase old _ items rest c.requires.phase at) p.follows c.in-Some.table taken.0 (taken.2 next)
    (λ kept. omega (arith, kept, fresh_cells c.take.new.self taken.1))
    (λ is past. past)

pub returns-in_default-clause-pushed : goal.returns-in_default-clause-pushed
returns-in_default-clause-pushed c =
    let old = c.args.self.now in
    let p = c.push_front-next.ensures in
    let none = c.in_default.ensures in
    table_goes_on old _ c.args.bytes.now _ _ c.push_front-next.new.self (from_end old.params old.directories)
    (table_cells old.directories + table_cells old.files + list_cells old.list)
    (record { some = p.some; within = p.within; one = p.one })
    (record { dialect = refl; start = refl; taken = refl; header = refl })
    (record { end = refl; unit_length = refl; format = refl }) (omega arith)
    (λ items rest at. at_phase old _ items rest c.requires.phase at) p.follows none.0 none.1
    (omega (arith, ap reader_cells none.1)) (λ is w now. phase_at _ _ phase.Files is w c.requires.phase now)

pub take-requires : goal.take-requires
take-requires c =
    let old = c.args.self.now in
    makes_table_pushed old.dialect.order old.params.format old.table c.push_front-next.new.self _
    c.push_front-next.result.1
    (front_is_read c.push_front-next.result.0 c.args.bytes.now (λ i lt. omega (arith, c.type_inv.bytes i)))
    (stands_at old.phase phase.Files old.dialect.order old.params.format old.table c.requires.phase old.read)
    c.push_front-next.ensures.follows

pub invariant_of-self-clause-read : goal.invariant_of-self-clause-read
invariant_of-self-clause-read c = fresh_reads c.args.self.now.dialect.order c.args.self.now.params.format
    c.take.new.self c.in-Some.ensures.1

pub invariant_of-self-in_default-clause-read : goal.invariant_of-self-in_default-clause-read
invariant_of-self-in_default-clause-read c =
    let old = c.args.self.now in
    let same = c.in_default.ensures in
    stands_at phase.Files old.phase old.dialect.order old.params.format c.take.new.self (sym c.requires.phase)
    (subst (λ (t : TableReader). ∥ TableReads old.dialect.order old.params.format t ∥₁) (sym same.1)
    (reads_on old.dialect.order old.params.format old.table c.push_front-next.new.self _ c.push_front-next.result.1
    (front_is_read c.push_front-next.result.0 c.args.bytes.now (λ i lt. omega (arith, c.type_inv.bytes i)))
    (stands_at old.phase phase.Files old.dialect.order old.params.format old.table c.requires.phase old.read)
    c.push_front-next.ensures.follows same.0))
