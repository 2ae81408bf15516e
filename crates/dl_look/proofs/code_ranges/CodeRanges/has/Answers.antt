use Rattle.std.proofs.Common.{arith, ap, ◌≡◌, ◌-◌, ◌<◌, ◌∙◌, get_or, length, nat_lt, subst, sym}
use Rattle.std.specs.List.{list_any}
use Rattle.std.proofs.lemmas.List.{get_or_read}
use Rattle.dl_look.specs.Ranges.{AreRising, is_reached, no_reach}
use Rattle.dl_look.proofs.RangeLemmas.{last_tells, none_begins}
use Rattle.dl_look.proofs.code_ranges.CodeRanges.has.Goals as goal

pub returns-then-count-gt0 : goal.returns-then-count-gt0
returns-then-count-gt0 c =
    let seen = c.as_slice.ensures.value in
    let count = c.starts_upto-count.result in
    let upto = c.starts_upto-count.ensures in
    let within = upto.within in
    let some = c.if-count-gt0.true in
    let reaches = c.args.self.now.reaches.items in
    let lt : count - 1 < length reaches = (let n = ap length seen in omega (arith, n, within, some)) in
    let last =
    get_or_read reaches (count - 1) c.index.result.now lt c.index.ensures no_reach
    ∙ ap (λ r. get_or r (count - 1) no_reach) (sym seen) in
    ap (λ a. nat_lt a c.index.result.now.end) c.from.ensures
    ∙ (last_tells c.as_slice.result.now c.args.address count c.index.result.now
    (subst AreRising (sym seen) c.args.self.now.rising) within some upto.upto upto.above last
    ∙ ap (list_any (is_reached c.args.address)) seen)

pub returns-else-count-gt0 : goal.returns-else-count-gt0
returns-else-count-gt0 c =
    let none = c.if-count-gt0.false in
    let zero : c.starts_upto-count.result ≡ 0 = omega (arith, none) in
    ap (λ n. nat_lt 0 n) zero
    ∙ (none_begins c.as_slice.result.now c.args.address c.starts_upto-count.result none
    c.starts_upto-count.ensures.above
    ∙ ap (list_any (is_reached c.args.address)) c.as_slice.ensures.value)
