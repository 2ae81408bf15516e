use Rattle.std.proofs.Common.{◌∙◌, ◌+◌, ◌≤◌, sym, ap, subst, arith, length-append, length, take}
use Rattle.std.proofs.lemmas.List.{length-take}
use Rattle.dl_emit.specs.declared.program.TheConstants.{ROW}
use Rattle.std.specs.Option.{is_some}
use Rattle.dl_emit.specs.Grown.{ProgramData, IsGrown}
use Rattle.dl_emit.specs.Program.{row_operations}
use Rattle.dl_emit.specs.WrittenUnit.{operations_bytes}
use Rattle.dl_emit.proofs.GrownLemmas.{stays_refused, becomes_refused, grows, row_has_bytes, refused_none}
use Rattle.dl_emit.proofs.growing.Program.push.Goals as goal

pub returns-then-is_some-clause-grown : goal.returns-then-is_some-clause-grown
returns-then-is_some-clause-grown g c h rows grown_before =
    stays_refused c.args.self.now _ h rows c.args.row.now grown_before
    (ap (λ (p : ProgramData). is_some p.refused) (sym c.self.view_is) ∙ sym c.is_some.ensures ∙ c.if-is_some.true)

pub returns-then-not-is_in_range-clause-grown : goal.returns-then-not-is_in_range-clause-grown
returns-then-not-is_in_range-clause-grown g c h rows grown_before =
    let order = c.args.self.now.order in
    becomes_refused _ order h rows c.args.row.now
    (subst (λ (p : ProgramData). IsGrown p order h rows) (sym c.self.view_is) grown_before)
    (refused_none _ (sym c.is_some.ensures ∙ c.if-is_some.false))
    (sym c.is_in_range.ensures.value ∙ c.if-not-is_in_range.true)

pub invariant_of-self-2 : goal.invariant_of-self-2
invariant_of-self-2 g c =
    let inside = c.self.inside in
    let first = c.gather.new.first.items in
    let last = take c.in_ok-at.at inside.last in
    let operations = row_operations inside.params inside.before c.args.row.now in
    let some = row_has_bytes inside.order inside.params inside.before c.args.row.now in
    let same = ap length c.in_ok-at.ensures.items in
    let more = ap length c.put_row-self-inside.ensures.put in
    let before = length-append inside.first.items (take inside.held inside.last) in
    let between = length-append first last in
    let after = length-append last (operations_bytes inside.order inside.params operations) in
    let buffer = c.put_row-self-inside.new.buffer in
    let few : length (take c.put_row-self-inside.result buffer) ≤ length last + ROW =
    omega (arith, c.put_row-self-inside.ensures.end, c.in_ok-at.ensures.room, length-take c.put_row-self-inside.result buffer, length-take c.in_ok-at.at inside.last) in (
      c.self.invariant.0,
      omega (arith, c.self.invariant.1, some, same, more, before, between, after),
      omega (arith, c.put_row-self-inside.ensures.end, c.in_ok-at.ensures.room),
      omega (arith, c.self.invariant.3, few, same, before, between),
    )

pub returns-clause-grown : goal.returns-clause-grown
returns-clause-grown g c h rows grown_before =
    let order = c.args.self.now.order in
    let grown =
    grows _ order h rows c.args.row.now
    (subst (λ (p : ProgramData). IsGrown p order h rows) (sym c.self.view_is) grown_before) c.gather.new.first.items
    (take c.in_ok-at.at c.self.inside.last) (take c.put_row-self-inside.result c.put_row-self-inside.new.buffer)
    (refused_none _ (sym c.is_some.ensures ∙ c.if-is_some.false))
    (sym c.is_in_range.ensures.value ∙ c.if-not-is_in_range.false) c.is_in_range.ensures.row
    c.in_ok-at.ensures.items c.put_row-self-inside.ensures.put in
    rw c.keep.ensures grown
