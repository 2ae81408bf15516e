use Rattle.std.proofs.Common.{ℕ, arith, length-take, length-drop}
use Rattle.dl_table.proofs.WritingLemmas.{Appends-slice}
use Rattle.dl_table.proofs.counted.write_all.Goals as goal

pub loop-out-preserved : goal.loop-out-preserved
loop-out-preserved g c =
    let said = c.in-Some.ensures in
    record {
      within = omega (arith, said.within, length-take {A = ℕ}, length-drop {A = ℕ});
      written = Appends-slice _ _ _ c.args.bytes.now c.loop-out.out c.in-Some.n c.loop-out.invariant.written said.some;
    }
