use Rattle.std.proofs.Common.{ap, sym, ◌∙◌}
use Rattle.dl_info.specs.Front.{seen}
use Rattle.dl_info.specs.Abbreviations.{declaration}
use Rattle.dl_info.proofs.KeptLemmas.{all_read, no_more, one_more}
use Rattle.dl_info.proofs.abbreviations.Table.read.Goals as goal

pub returns-in_default : goal.returns-in_default
returns-in_default c =
    no_more c.loop.table c.args.bytes.now c.loop.rest.now c.loop.counter c.in_default.field-0 c.loop-test.true
    (ap (seen (λ x. (declaration x.0, x.1.now))) (sym c.in_default.is) ∙ c.declaration_at.ensures.declaration)
    c.loop.invariant

pub loop-preserved : goal.loop-preserved
loop-preserved c =
    one_more c.loop.table c.keep.new.self c.args.bytes.now c.loop.rest.now c.in-Ok.after.now c.loop.counter
    (declaration c.in-Ok.declaration) c.loop-test.true c.in-Ok.ensures.declaration c.in_ok-keep.ensures c.loop.invariant

pub returns : goal.returns
returns c = all_read c.loop.table c.args.bytes.now c.loop.rest.now c.loop.counter c.loop-test.false c.loop.invariant
