use Rattle.dl_path.specs.PathParts.{text_seen}
use Rattle.std.proofs.Common.{◌+◌, arith}
use Rattle.dl_addr.proofs.KeepLemmas.{on_err}
use Rattle.dl_addr.proofs.RoomLemmas.{put_within, refused_within}
use Rattle.dl_addr.proofs.TextLemmas.{directory_added, texts_stay}
use Rattle.dl_addr.proofs.texts.directory_number.Goals as goal

pub returns-clause-directories : goal.returns-clause-directories
returns-clause-directories g c f are is =
    directory_added f c.args.directories.now c.put.new.numbers c.add_text.new.texts.items c.args.directory.number
    c.in_ok-number.number (text_seen c.args.directory.text) c.in_ok-put.ensures.updates is c.in_ok-number.ensures.right
    (texts_stay f c.args.directories.now c.args.texts.now.items c.add_text.new.texts.items c.add_text.ensures.grows are)

pub returns-in-Some-clause-put : goal.returns-in-Some-clause-put
returns-in-Some-clause-put g c count few = put_within c.args.directories.now count (count + 1) (omega arith) few

pub returns-in_err-number-clause-refused : goal.returns-in_err-number-clause-refused
returns-in_err-number-clause-refused g c =
    on_err c.from_residual.result (λ count most few put room within. c.in_err-number.ensures.refused most room within)

pub returns-in_err-put-clause-refused : goal.returns-in_err-put-clause-refused
returns-in_err-put-clause-refused g c =
    on_err c.from_residual-in_err-put.result (λ count most few put room within.
    refused_within (g.M.Memory.refuses c.args.memory.now) (count + 1) most put (c.in_err-put.ensures.refused count few))
