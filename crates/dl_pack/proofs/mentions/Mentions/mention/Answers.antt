use Rattle.std.proofs.Common.{arith, ◌≡◌, ◌+◌, sym, ◌∙◌, length-set}
use Rattle.std.specs.Prelude.{slice_index}
use Rattle.std.proofs.lemmas.Grind.{common_steps}
use Rattle.dl_pack.proofs.MentionLemmas.{right_more, within_more, room_for, counted_more, many_more}
use Rattle.dl_pack.proofs.mentions.Mentions.mention.Goals as goal

pub push_reserved-requires : goal.push_reserved-requires
push_reserved-requires c =
    let none : slice_index c.args.self.now.numbers.items c.args.item ≡ 0 = grind (arith, common_steps) in
    omega (
      arith,
      room_for c.args.self.now.numbers.items c.args.item c.requires none c.args.self.now.order.items c.args.self.now.counted,
      c.args.self.now.room,
      c.args.self.now.order.ok.0,
    )

pub returns-then-number-gt4294967295-clause-many : goal.returns-then-number-gt4294967295-clause-many
returns-then-number-gt4294967295-clause-many c =
    let none : slice_index c.args.self.now.numbers.items c.args.item ≡ 0 = grind (arith, common_steps) in
    many_more c.args.self.now.order.items c.args.item (sym (c.args.self.now.right c.args.item c.requires) ∙ none) (omega arith)

pub invariant_of-self-clause-right : goal.invariant_of-self-clause-right
invariant_of-self-clause-right c =
    let none : slice_index c.args.self.now.numbers.items c.args.item ≡ 0 = grind (arith, common_steps) in
    right_more c.args.self.now.numbers.items c.args.self.now.order.items _ c.args.item _ c.push_reserved.ensures.items
    (omega arith) none c.requires c.args.self.now.right

pub invariant_of-self-clause-within : goal.invariant_of-self-clause-within
invariant_of-self-clause-within c =
    within_more c.args.self.now.order.items _ c.args.self.now.numbers.items c.args.item _ c.push_reserved.ensures.items
    c.requires c.args.self.now.within

pub invariant_of-self-clause-counted : goal.invariant_of-self-clause-counted
invariant_of-self-clause-counted c =
    let none : slice_index c.args.self.now.numbers.items c.args.item ≡ 0 = grind (arith, common_steps) in
    counted_more c.args.self.now.numbers.items c.args.item c.requires none c.args.self.now.order.items
    c.args.self.now.counted _ _ c.push_reserved.ensures.items (omega arith)

pub invariant_of-self-clause-room : goal.invariant_of-self-clause-room
invariant_of-self-clause-room c =
    let item = c.args.item in
    let numbers = c.args.self.now.numbers.items in
    omega (arith, length-set numbers item (c.len-number.result + 1), c.push_reserved.ensures.capacity, c.args.self.now.room)
