use Rattle.std.proofs.Common.{Some, subst}
use Rattle.dl_cmd.specs.Job.{index_words_made}
use Rattle.dl_locating.specs.Indexing.{IndexesFor}
use Rattle.dl_building.proofs.file.index_in_memory.Goals as goal

pub returns : goal.returns
returns g c =
    let v = c.index-end.new.output.written.bytes in (
      v,
      subst (λ start. IndexesFor (g.M.Memory.refuses c.args.memory.now) (λ path. Some c.args.file.now) (λ path error. ⊥)
          (index_words_made c.args.words.now) (Some start) (Some v) c.index-end.result) c.new-held.ensures
          c.index-end.ensures.indexed,
      (c.whole.ensures.all, c.whole.ensures.refused, c.index-end.ensures.blames_writer),
    )
