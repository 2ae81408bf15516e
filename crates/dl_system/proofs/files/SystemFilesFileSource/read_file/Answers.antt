use Rattle.dl_open.proofs.FilesLemmas.{any_fails, any_file}
use Rattle.dl_system.proofs.files.SystemFilesFileSource.read_file.Goals as goal

pub returns-in-Ok : goal.returns-in-Ok
returns-in-Ok g c =
    let ran = c.read_strings.ensures.ran in
    any_file (g.M.Memory.refuses c.args.memory.now) c.args.limit ran.0 _ c.read_strings.result ran.2

pub returns-in-Err : goal.returns-in-Err
returns-in-Err g c = any_fails
