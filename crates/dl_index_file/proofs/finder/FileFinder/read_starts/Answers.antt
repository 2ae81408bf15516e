use Rattle.dl_index_file.proofs.FinderLemmas.{narrowed_in}
use Rattle.dl_index_file.proofs.finder.FileFinder.read_starts.Goals as goal

pub returns-clause-narrowed : goal.returns-clause-narrowed
returns-clause-narrowed g c f is short =
    narrowed_in (c.args.self.now.index.now.stands f is short) c.args.x _ _ (c.in_ok-few.ensures.narrowed f is short)
