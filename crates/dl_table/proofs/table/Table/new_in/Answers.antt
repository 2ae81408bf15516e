use Rattle.std.proofs.Common.{List, length, subst, sym, ap, arith}
use Rattle.dl_table.specs.Sound.{AreContents}
use Rattle.dl_table.specs.declared.table.held.StoredValue.{StoredValue}
use Rattle.dl_table.specs.Held.{values_end, IsWhole}
use Rattle.dl_table.proofs.SoundLemmas.{sound_empty}
use Rattle.dl_table.proofs.table.Table.new_in.Goals as goal

pub invariant_of-result : goal.invariant_of-result
invariant_of-result g c =
    let same = c.in-Ok.ensures.same in
    let none = c.new.ensures.items in
    record {
      within = omega (arith, ap values_end none);
      whole = subst (λ (values : List StoredValue). IsWhole (length values) (length c.in-Ok.pairs.items)) (sym none)
          (omega arith);
      few = omega (arith, ap length same);
      sound = sound_empty c.args.format c.in-Ok.pairs.items c.new.result.items c.new-in-Ok.result.items
          (subst AreContents (sym same) c.in-Ok.ensures.contents) none;
    }
