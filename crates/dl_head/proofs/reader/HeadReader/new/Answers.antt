use Rattle.std.proofs.Common.{refl, ap}
use Rattle.dl_table.specs.TableCells.{table_cells}
use Rattle.dl_field.specs.declared.list_reader.ListKind.TheVariants as kind
use Rattle.dl_head.proofs.ListSpellings.{fresh_list_reads}
use Rattle.dl_head.proofs.OneByteMore.{new_stands}
use Rattle.dl_head.proofs.reader.HeadReader.new.Goals as goal

pub returns-clause-stands : goal.returns-clause-stands
returns-clause-stands c =
    new_stands _ c.new.result refl c.new.ensures.empty c.new.ensures.size
    (record {
      none = refl;
      end = refl;
      overrun = refl;
      before = record { no_lengths = c.least.ensures.no_lengths; fresh = c.new-2.ensures; unlisted = c.new-3.ensures };
      unread = record {
        version = c.least.ensures.version;
        segments = c.least.ensures.segments;
        operations = c.least.ensures.operations;
      };
    }) refl refl refl
    (ap table_cells c.without_pairs.ensures) (ap table_cells c.without_pairs-2.ensures)

pub invariant_of-result-clause-listed : goal.invariant_of-result-clause-listed
invariant_of-result-clause-listed c = fresh_list_reads kind.Directories c.new-3.result c.new-3.ensures
