use Rattle.dl_index_file.proofs.FileLemmas.{build_id_is}
use Rattle.dl_index_file.proofs.index.IndexFile.build_id.Goals as goal

pub returns-clause-id : goal.returns-clause-id
returns-clause-id g c f is short =
    let self = c.args.self.now in
    build_id_is f self.front c.from.result (self.stands f is short).front self.kept.build_id c.from.ensures
