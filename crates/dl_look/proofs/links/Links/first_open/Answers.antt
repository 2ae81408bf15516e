use Rattle.std.proofs.Common.{◌≡◌, ◌<◌, ◌≢◌, length, true, false, get_or, arith, sym, ◌∙◌, ⊎_elim}
use Rattle.std.proofs.lemmas.Bool.{cases_lt}
use Rattle.std.proofs.lemmas.List.{get_or_read}
use Rattle.dl_look.specs.Links.{is_sealed}
use Rattle.dl_look.proofs.LinksLemmas.{further_on, same_open, same_length}
use Rattle.dl_look.proofs.links.Links.first_open.Goals as goal
use Rattle.dl_look.proofs.links.Links.first_open.Goals.{else-index-via-then-index+else-not-index}
use Rattle.dl_look.proofs.links.Links.first_open.Goals.{else-index-via-else-index}

pub loop-at-preserved : goal.loop-at-preserved
loop-at-preserved c =
    let i = c.loop-at.invariant in
    let self = c.loop-at.self in
    let at = c.loop-at.at in
    let next = c.index-next.result.now in
    let further = c.index-further.result.now in
    let lt : at < length self.next.items = omega (arith, i.count, i.within) in
    let count : length self.sealed.items ≡ length self.next.items = i.linked.count in
    let is_next : next ≡ get_or self.next.items at 0 =
    get_or_read self.next.items at next lt c.index-next.ensures 0 in
    let less : next < length self.next.items = omega (arith, i.linked.within at lt) in
    let is_further : further ≡ get_or self.next.items next 0 =
    get_or_read self.next.items next further less c.index-further.ensures 0 in
    let steady : is_sealed self.sealed.items at ≡ true → is_sealed self.sealed.items next ≡ true =
    elim c.else-index.branch [
      | else-index-via-then-index+else-not-index w ↦ λ seal. (
          sym (get_or_read self.sealed.items next w.index-then-index.result.now (omega arith) w.index-then-index.ensures
          false) ∙ w.if-not-index.false)
      | else-index-via-else-index w ↦ λ seal. absurd (
          let z = sym (get_or_read self.sealed.items at c.index-in-loop-at.result.now (omega arith)
          c.index-in-loop-at.ensures false) ∙ w.if-index.false in cc)
    ] in
    let moves : next ≢ at = λ is. c.loop-at-test.true
    (get_or_read self.next.items at c.index.result.now lt c.index.ensures 0 ∙ sym is_next ∙ is) in
    let opens = same_open self at next further i.linked lt is_next is_further moves steady in
    record {
      linked = further_on self at next further i.linked lt is_next is_further moves steady;
      count = same_length self at next further i.linked lt is_next is_further moves steady ∙ i.count;
      same = λ j less. opens j ∙ i.same j less;
      sealed = i.sealed;
      ahead = omega (arith, i.ahead, i.linked.ahead at lt, i.linked.ahead next less);
      within = omega (arith, i.linked.within next less, i.count);
      closed = λ j from to. opens j ∙ ⊎_elim
          (λ before. i.closed j from before)
          (λ after. ⊎_elim
          (λ under. i.linked.over at j lt after (omega arith))
          (λ above. i.linked.over next j less above (omega arith))
          (cases_lt j next))
          (cases_lt j at);
    }
