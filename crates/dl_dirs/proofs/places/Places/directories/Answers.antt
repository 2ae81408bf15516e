use Rattle.dl_dirs.specs.Directories.{directory_at}
use Rattle.dl_dirs.specs.Texts.{texts_of}
use Rattle.dl_dirs.specs.Units.{entries}
use Rattle.dl_dirs.proofs.FoundLemmas.{directory_found}
use Rattle.dl_dirs.proofs.places.Places.directories.Goals as goal

pub returns : goal.returns
unfolding directory_at
returns c order abbreviations b are n =
    directory_found order (texts_of c.args.texts) (entries order abbreviations b) c.args.self are.1 are.0 n
