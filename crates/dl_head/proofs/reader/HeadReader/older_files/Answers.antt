use Rattle.std.proofs.Common.{◌+◌, refl, sym, subst, ap, arith}
use Rattle.dl_table.specs.TableCells.{table_cells}
use Rattle.dl_field.specs.declared.list_reader.ListKind.TheVariants as kind
use Rattle.dl_field.specs.declared.list_reader.ListReader.{ListReader}
use Rattle.dl_field.specs.ListPlace.{list_cells}
use Rattle.dl_field.specs.TablePlace.{reader_cells}
use Rattle.dl_head.specs.ListSpelt.{ListReads}
use Rattle.dl_head.specs.HeaderLayout.{from_end}
use Rattle.dl_head.specs.declared.reader.Phase.TheVariants as phase
use Rattle.dl_head.proofs.OneFieldMore.{at_phase, phase_at}
use Rattle.dl_head.proofs.HeadTables.{list_goes_on, list_ends, fresh_list_cells, no_older_files}
use Rattle.dl_head.proofs.TableSpellings.{front_is_read, stands_at}
use Rattle.dl_head.proofs.ListSpellings.{makes_list_pushed, list_reads_on, fresh_list_reads}
use Rattle.dl_head.proofs.reader.HeadReader.older_files.Goals as goal

pub returns-in-Some-clause-pushed : goal.returns-in-Some-clause-pushed
returns-in-Some-clause-pushed c =
    let old = c.args.self.now in
    let p = c.push_front-next.ensures in
    let next = from_end old.params old.directories in
    let taken = c.in-Some.ensures in
    list_ends old _ c.args.bytes.now _ _ c.push_front-next.new.self next
    (table_cells old.directories + reader_cells old.table)
    (record { some = p.some; within = p.within; one = p.one })
    (record { dialect = refl; start = refl; taken = refl; header = refl })
    (record { end = refl; unit_length = refl; format = refl }) (omega (arith, no_older_files old c.requires.phase))
    (λ items rest at. at_phase old _ items rest c.requires.phase at) p.takes c.in-Some.table taken.0 (taken.2 next)
    (λ kept. omega (arith, kept, fresh_list_cells c.take.new.self taken.1))
    (λ is fresh past. past)

pub returns-in_default-clause-pushed : goal.returns-in_default-clause-pushed
returns-in_default-clause-pushed c =
    let old = c.args.self.now in
    let p = c.push_front-next.ensures in
    let none = c.in_default.ensures in
    list_goes_on old _ c.args.bytes.now _ _ c.push_front-next.new.self (from_end old.params old.directories)
    (table_cells old.directories + table_cells old.files + reader_cells old.table)
    (record { some = p.some; within = p.within; one = p.one })
    (record { dialect = refl; start = refl; taken = refl; header = refl })
    (record { end = refl; unit_length = refl; format = refl }) (omega arith)
    (λ items rest at. at_phase old _ items rest c.requires.phase at) p.takes none.0 none.1
    (omega (arith, ap list_cells none.1)) (λ is w now. phase_at _ _ phase.OlderFiles is w c.requires.phase now)

pub take-requires : goal.take-requires
take-requires c =
    let old = c.args.self.now in
    makes_list_pushed old.list c.push_front-next.new.self _ c.push_front-next.result.1
    (front_is_read c.push_front-next.result.0 c.args.bytes.now (λ i lt. omega (arith, c.type_inv.bytes i)))
    old.listed c.push_front-next.ensures.takes.made old.params.format

pub invariant_of-self-clause-listed : goal.invariant_of-self-clause-listed
invariant_of-self-clause-listed c = fresh_list_reads kind.Files c.take.new.self c.in-Some.ensures.1

pub invariant_of-self-in_default-clause-listed : goal.invariant_of-self-in_default-clause-listed
invariant_of-self-in_default-clause-listed c =
    let none = c.in_default.ensures in
    subst (λ (t : ListReader). ∥ ListReads t ∥₁) (sym none.1)
    (list_reads_on c.args.self.now.list c.push_front-next.new.self _ c.push_front-next.result.1
    (front_is_read c.push_front-next.result.0 c.args.bytes.now (λ i lt. omega (arith, c.type_inv.bytes i)))
    c.args.self.now.listed c.push_front-next.ensures.takes.made none.0)

pub invariant_of-self-clause-read : goal.invariant_of-self-clause-read
invariant_of-self-clause-read c =
    let old = c.args.self.now in
    stands_at old.phase phase.OlderFiles old.dialect.order old.params.format old.table c.requires.phase old.read
