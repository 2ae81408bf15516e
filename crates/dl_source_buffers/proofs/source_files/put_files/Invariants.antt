-- The files so far stand in the rooms.
use Rattle.dl_source_buffers.proofs.SourceLemmas.{Written}
use Rattle.dl_source_buffers.proofs.source_files.put_files.Given as goal

abbrev pub invariant-loop-path : goal.invariant-loop-path
invariant-loop-path l =
    Written l.table.paths.entries l.path-iterator l.initial.sources l.sources l.number l.initial.paths l.paths l.len
