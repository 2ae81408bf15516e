use Rattle.dl_building.proofs.FileLemmas.{file_built}
use Rattle.dl_cmd.specs.Job.{index_words_made}
use Rattle.dl_building.proofs.file.index_of_file.Goals as goal

pub returns : goal.returns
returns g c =
    let does = c.index_in_memory-indexed.ensures in
    rw c.built_of.ensures (file_built (g.M.Memory.refuses c.args.memory.now) c.args.file.now c.args.all c.args.keep_going
    (index_words_made c.words-words.result) does.0 c.index_in_memory-indexed.result.end c.index_in_memory-indexed.result.index
    c.words-words.ensures does.1 does.2)
