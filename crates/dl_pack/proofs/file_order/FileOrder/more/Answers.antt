use Rattle.std.proofs.Common.{◌∙◌, sym}
use Rattle.dl_pack.specs.Mentioned.{order_of, count_of}
use Rattle.dl_pack.proofs.TotalLemmas.{order_stays, order_more, fails_here}
use Rattle.dl_pack.proofs.file_order.FileOrder.more.Goals as goal

pub returns-then-is_some : goal.returns-then-is_some
returns-then-is_some c = λ n list h. (
    let t = c.args.self.now in
    record {
      count = h.count;
      order = order_stays t.fault n (order_of t.files) list c.args.stretch.now (sym c.is_some.ensures ∙ c.if-is_some.true) h.order;
    })

pub returns-in-Ok : goal.returns-in-Ok
returns-in-Ok c = λ n list h. (
    let t = c.args.self.now in
    record {
      count = c.mention_told.ensures.count ∙ h.count;
      order = order_more t.fault n (count_of t.files) (order_of t.files) (order_of c.mention_told.new.files) list
          c.args.stretch.now (sym c.is_some.ensures ∙ c.if-is_some.false) h.order c.in-Ok.ensures.order c.in-Ok.ensures.within
          h.count;
    })

pub returns-in-Err : goal.returns-in-Err
returns-in-Err c = λ n list h. record {
  count = c.mention_told.ensures.count ∙ h.count;
  order = fails_here c.args.self.now.fault n (count_of c.args.self.now.files) (order_of c.args.self.now.files) list
      c.args.stretch.now c.in-Err.fault (sym c.is_some.ensures ∙ c.if-is_some.false) h.order h.count c.in-Err.ensures.fails;
}
