use Rattle.std.proofs.Common.{refl}
use Rattle.dl_sources.specs.SourceFiles.{files_held}
use Rattle.dl_source_buffers.specs.SourceCalls.{rooms}
use Rattle.dl_source_buffers.proofs.SourceLemmas.{rooms_are}
use Rattle.dl_source_buffers.proofs.source_files.tell.Goals as goal

pub returns-in-Whole : goal.returns-in-Whole
returns-in-Whole c = (
  c.in-Whole.is,
  rooms_are (rooms c.args.sources.now c.args.count.now c.args.paths.now c.args.paths_len.now) (files_held c.args.table.now)
      c.put_files.new.sources c.put_files.new.count c.put_files.new.paths c.put_files.new.paths_len c.put_files.ensures.sources
      c.put_files.ensures.count c.put_files.ensures.paths c.put_files.ensures.paths_len,
  refl,
)

pub returns-in-Fault : goal.returns-in-Fault
returns-in-Fault c = (
  c.in-Fault.is,
  rooms_are (rooms c.args.sources.now c.args.count.now c.args.paths.now c.args.paths_len.now) (files_held c.args.table.now)
      c.put_files-in-Fault.new.sources c.put_files-in-Fault.new.count c.put_files-in-Fault.new.paths
      c.put_files-in-Fault.new.paths_len c.put_files-in-Fault.ensures.sources c.put_files-in-Fault.ensures.count
      c.put_files-in-Fault.ensures.paths c.put_files-in-Fault.ensures.paths_len,
)
