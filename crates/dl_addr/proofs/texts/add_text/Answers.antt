use Rattle.std.proofs.Common.{◌+◌, length}
use Rattle.dl_addr.proofs.KeepLemmas.{on_err}
use Rattle.dl_addr.proofs.RoomLemmas.{refused_within}
use Rattle.dl_path.specs.PathParts.{header_bytes}
use Rattle.dl_addr.proofs.texts.add_text.Goals as goal

pub returns-in_err-kept-clause-refused : goal.returns-in_err-kept-clause-refused
returns-in_err-kept-clause-refused g c =
    on_err c.from_residual.result (λ most room within.
    refused_within (g.M.Memory.refuses c.args.memory.now) (header_bytes c.args.text) most within
    c.in_err-kept.ensures.refused)

pub returns-in_err-push-clause-refused : goal.returns-in_err-push-clause-refused
returns-in_err-push-clause-refused g c =
    on_err c.from_residual-in_err-push.result (λ most room within. (
      length c.args.texts.now.items + 1,
      room,
      c.in_err-push.ensures.refused,
    ))
