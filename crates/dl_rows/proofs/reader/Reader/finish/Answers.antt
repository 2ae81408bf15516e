use Rattle.dl_rows.proofs.ReaderLemmas.{finish_foreign}
use Rattle.dl_rows.proofs.reader.Reader.finish.Goals as goal

pub returns-in-Foreign : goal.returns-in-Foreign
returns-in-Foreign c b s =
    finish_foreign (rw c.in-Foreign.is at s).1 c.finish.ensures.whole c.finish.ensures.truncated
