use Rattle.std.proofs.Common.{◌≡◌, ◌+◌, ◌++◌, ◌∙◌, sym, ap, arith, length}
use Rattle.dl_reloc.specs.Entries.{count, symbol_values, values_upto}
use Rattle.dl_memory.proofs.RefusalLemmas.{wants_list}
use Rattle.dl_reloc.proofs.CountLemmas.{values_so_far}
use Rattle.dl_reloc.proofs.SymbolLemmas.{parts_values}
use Rattle.dl_reloc.proofs.symbol.push_symbol_values.Goals as goal

pub returns-clause-follows : goal.returns-clause-follows
returns-clause-follows g c = λ before whole is.
    let class = c.args.target.now.class in
    let order = c.args.target.now.order in
    let table = c.args.table.now in
    let past : c.loop-index.index ≡ c.count-index-end.result =
    omega (arith, c.loop-index-test.false, c.loop-index.auto.index-end) in
    let all = past ∙ (c.count-index-end.ensures ∙ ap (λ size. count size table) c.symbol_size-size.ensures.size) in
    c.loop-index.invariant
    ∙ (ap (λ k. c.args.values.now.items ++ values_upto class order table k) all
    ∙ (ap (λ vs. vs ++ symbol_values class order table) is ∙ sym (parts_values class order before table whole)))

pub returns-in_err-push-clause-refused : goal.returns-in_err-push-clause-refused
returns-in_err-push-clause-refused g c =
    let l = c.loop-index in
    let table = c.args.table.now in
    let many = values_so_far c.args.target.now.class c.args.target.now.order table l.index c.args.values.now.items
    l.values.items l.invariant in
    let all = c.count-index-end.ensures ∙ ap (λ size. count size table) c.symbol_size-size.ensures.size in
    wants_list _ _ (length l.values.items + 1) _ (omega (arith, many, all, c.loop-index-test.true))
    c.in_err-push.ensures.refused
