use Rattle.dl_cmd.proofs.WordLaws.{file_excludes_input}
use Rattle.dl_cmd.proofs.laws.file_excludes_input.Goals as goal

pub returns : goal.returns
returns c = file_excludes_input
