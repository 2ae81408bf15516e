use Rattle.std.proofs.Common.{◌≡◌, ◌∙◌, ap, sym, subst, length, [], Some}
use Rattle.dl_pack.specs.declared.fault.PackFault.TheVariants as fault
use Rattle.dl_pack.specs.Mentioned.{order_of}
use Rattle.dl_pack.specs.Shown.{files_of}
use Rattle.dl_pack.specs.Totals.{Totalled, OrderOr}
use Rattle.dl_pack.proofs.FaultLemmas.{totals_fail}
use Rattle.dl_pack.proofs.making.totals_of.Goals as goal

pub returns-in-Some-clause-fails : goal.returns-in-Some-clause-fails
returns-in-Some-clause-fails g c =
    let n = length (files_of c.args.names.now) in
    let told = c.tell.ensures in
    let now = c.tell.new.sink in
    let all = told.3 c.new-totals.result [] (λ m z. z) n
    (subst (λ m. Totalled m c.new-totals.result []) (c.in-Ok.ensures.made.1 ∙ c.file_count.ensures) c.new-totals.ensures) in
    totals_fail (g.M.Memory.refuses c.args.memory.now) (files_of c.args.names.now) (g.T.Stretches.stands c.args.stretches.now)
    told.0 c.in-Some.fault told.1 all.starts.starts
    (subst (λ o. OrderOr o n (order_of now.files.files) told.0) (sym c.fault.ensures ∙ c.in-Some.is) all.files.order)

pub returns-in-None-clause-totals : goal.returns-in-None-clause-totals
returns-in-None-clause-totals g c = λ list stands. (
    let n = length (files_of c.args.names.now) in
    let told = c.tell.ensures in
    let all = told.3 c.new-totals.result [] (λ m z. z) n
    (subst (λ m. Totalled m c.new-totals.result []) (c.in-Ok.ensures.made.1 ∙ c.file_count.ensures) c.new-totals.ensures) in
    subst (Totalled n c.tell.new.sink) (sym (told.2 list stands)) all)

pub returns-in-Some-clause-refused : goal.returns-in-Some-clause-refused
returns-in-Some-clause-refused g c is =
    let n = length (files_of c.args.names.now) in
    let told = c.tell.ensures in
    let now = c.tell.new.sink in
    let all = told.3 c.new-totals.result [] (λ m z. z) n
    (subst (λ m. Totalled m c.new-totals.result []) (c.in-Ok.ensures.made.1 ∙ c.file_count.ensures) c.new-totals.ensures) in
    let same : c.in-Some.fault ≡ fault.NoMemory = cc in
    absurd (subst (λ o. OrderOr o n (order_of now.files.files) told.0)
    (sym c.fault.ensures ∙ c.in-Some.is ∙ ap (λ f. Some f) same) all.files.order)
