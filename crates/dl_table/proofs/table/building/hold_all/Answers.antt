use Rattle.std.proofs.Common.{[], map, ◌∙◌, arith}
use Rattle.std.proofs.lemmas.List.Sums.{sum_by-drop_more}
use Rattle.dl_table.specs.declared.table.held.ValueRef.{ValueRef}
use Rattle.dl_table.specs.declared.table.held.ValueRef.TheVariants.{Text}
use Rattle.dl_table.specs.Held.{pooled, value_held}
use Rattle.dl_table.proofs.HeldLemmas.{values_lent-more}
use Rattle.dl_table.proofs.table.building.hold_all.Goals as goal

no_text : ValueRef
no_text = Text (record { ref_ptr = (0, 0); now = [] })

pub hold-requires-clause-pool_room : goal.hold-requires-clause-pool_room
unfolding no_text
hold-requires-clause-pool_room c =
    omega (arith, sum_by-drop_more pooled c.args.values.now c.loop-value.value-index no_text c.loop-value-test.true)

pub loop-value-preserved : goal.loop-value-preserved
unfolding no_text
loop-value-preserved c =
    let i = c.loop-value.value-index in
    let e = sum_by-drop_more pooled c.args.values.now i no_text c.loop-value-test.true in
    let before = map (value_held c.args.pool.now.items) c.args.held.now.items in
    record {
      held_room = omega arith;
      pool_room = omega (arith, e);
      within = c.hold.ensures.within;
      held_len = omega arith;
      values = c.hold.ensures.values ∙ values_lent-more before _ c.args.values.now i no_text c.loop-value-test.true
          c.loop-value.invariant.values;
    }
