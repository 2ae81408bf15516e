use Rattle.std.proofs.Common.{arith, sym, ◌≤◌, length}
use Rattle.dl_pack.proofs.MentionLemmas.{number_outside}
use Rattle.dl_pack.proofs.mentions.Mentions.number.Goals as goal

pub returns-else-item-len : goal.returns-else-item-len
returns-else-item-len c =
    let le : length c.args.self.now.numbers.items ≤ c.args.item = omega arith in
    sym (number_outside c.args.self.now.order.items (length c.args.self.now.numbers.items) c.args.item c.args.self.now.within le)
