use Rattle.std.proofs.Common.{drop}
use Rattle.dl_info.specs.Entries.{entry, values_at, without_values}
use Rattle.dl_info.proofs.EntryLemmas.{Gives}
use Rattle.dl_info.proofs.entry.kept_values_at.Given as goal

-- the entry is kept by its parts
abbrev pub invariant-loop-i : goal.invariant-loop-i
invariant-loop-i l =
    Gives l.encoding
    (entry record {
      format = l.entry.0;
      stmt_list = l.entry.1.0;
      comp_dir = l.entry.1.1.0;
      str_offsets_base = l.entry.1.1.1.0;
    }) l.rest (values_at l.encoding l.attributes (without_values l.encoding.format) l.bytes) (drop l.i l.attributes)
