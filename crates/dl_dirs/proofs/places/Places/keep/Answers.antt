use Rattle.std.proofs.Common.{◌∙◌, ◌+◌, Some, arith, length, refl, subst}
use Rattle.std.specs.BTreeMap.{Updates}
use Rattle.std.specs.Ordering.{nat_cmp}
use Rattle.dl_dirs.proofs.CountLemmas.{counted}
use Rattle.dl_dirs.proofs.HoldLemmas.{holds_kept, where_ok}
use Rattle.dl_dirs.proofs.KeepLemmas.{list_err}
use Rattle.dl_dirs.proofs.places.Places.keep.Goals as goal

pub returns-clause-holds : goal.returns-clause-holds
returns-clause-holds g c =
    where_ok c.insert.result _ _
    (λ updates es h has absent. holds_kept c.args.self.now
    (record {
      alloc = c.args.self.now.alloc;
      order = c.args.self.now.order;
      numbers = c.insert.new.map;
      entries = c.push.new.list;
      bytes = c.args.self.now.bytes;
    })
    es c.args.kept h has absent
    (subst (λ n. Updates nat_cmp c.args.self.now.numbers c.insert.new.map c.args.kept.offset (Some n))
    (c.len-number.ensures.len ∙ counted c.args.self.now es h c.len-number.ensures.ordered) updates)
    c.in_ok-push.ensures.items refl)
    c.insert.ensures.updates

pub returns-clause-refused : goal.returns-clause-refused
returns-clause-refused g c es h =
    let p = c.args.self.now in
    list_err (g.M.Memory.refuses c.args.memory.now) _ (length p.entries.items + 1)
    (omega (arith, counted p es h c.len-number.ensures.ordered)) c.insert.result c.insert.ensures.refused
