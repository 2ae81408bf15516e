use Rattle.std.proofs.Common.{◌<◌, length, arith, None, sym, ◌∙◌}
use Rattle.std.proofs.lemmas.List.{get_or_default}
use Rattle.dl_look.proofs.ledger.Ledger.answer.Goals as goal

pub index-requires-then-entry-limit : goal.index-requires-then-entry-limit
index-requires-then-entry-limit c =
    let entries = c.args.self.now.entries.items in
    let within : c.args.number < length entries = omega arith in
    let is =
    get_or_default entries c.args.number None c.index.result.now within ∙ sym c.index.ensures ∙ c.in_ok-entry.was in
    omega (arith, c.requires c.args.number c.in_ok-entry.entry is)
