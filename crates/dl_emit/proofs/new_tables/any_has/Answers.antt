use Rattle.std.proofs.Common.{◌∙◌, sym}
use Rattle.dl_emit.specs.Conversion.{entries_in, has_number}
use Rattle.dl_emit.proofs.ConversionLemmas.{any_here, any_later, has_none, has_one}
use Rattle.dl_emit.proofs.new_tables.any_has.Goals as goal

pub returns-then-number-ne0 : goal.returns-then-number-ne0
returns-then-number-ne0 c =
    let has = has_one c.args.content c.number.result _ c.number.ensures c.if-number-ne0.true in
    sym (any_here (has_number c.args.content) (entries_in c.args.table.now) c.loop-i.i _ c.entry_at.ensures has)
    ∙ c.loop-i.invariant

pub loop-i-preserved : goal.loop-i-preserved
loop-i-preserved c =
    let lacks = has_none c.args.content c.number.result _ c.number.ensures c.if-number-ne0.false in
    any_later (has_number c.args.content) (entries_in c.args.table.now) c.loop-i.i _ c.entry_at.ensures lacks
    ∙ c.loop-i.invariant
