use Rattle.std.proofs.Common.{arith, sym}
use Rattle.std.proofs.lemmas.List.{length-take-le, take_all}
use Rattle.dl_making.proofs.making.id_front.Goals as goal

pub slice_bounds-result-end : goal.slice_bounds-result-end
slice_bounds-result-end c =
    sym (length-take-le 32 c.args.build_id.now (omega (arith, c.if-build_id-le32.false)))

pub returns-then-build_id-le32 : goal.returns-then-build_id-le32
returns-then-build_id-le32 c = sym (take_all 32 c.args.build_id.now c.if-build_id-le32.true)
