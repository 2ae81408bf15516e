use Rattle.std.proofs.Common.{◌-◌, length}
use Rattle.dl_info.specs.Entries.{entry, values_at, without_values}
use Rattle.dl_info.specs.Abbreviations.{attributes_in}
use Rattle.dl_info.proofs.EntryLemmas.{Gives}
use Rattle.dl_info.proofs.RemainLemmas.{Remain}
use Rattle.dl_info.proofs.entry.declared_values_at.Given as goal

-- the entry is kept by its parts
abbrev pub invariant-loop : goal.invariant-loop
invariant-loop l =
    Remain (length l.attributes - l.counter) l.left
    (Gives l.encoding
    (entry record {
      format = l.entry.0;
      stmt_list = l.entry.1.0;
      comp_dir = l.entry.1.1.0;
      str_offsets_base = l.entry.1.1.1.0;
    }) l.rest (values_at l.encoding (attributes_in l.attributes) (without_values l.encoding.format) l.bytes))
