use Rattle.std.proofs.Common.{◌++◌, ◌+◌, List, arith, ap, length, length-append, subst, sym, ◌∙◌, append_assoc}
use Rattle.std.specs.List.{flat_map}
use Rattle.dl_table.specs.TableData.{TableData}
use Rattle.dl_sources.specs.Entries.{numbers_from}
use Rattle.dl_sources.specs.Holding.{Holds}
use Rattle.dl_sources.specs.Sources.{Mention}
use Rattle.dl_sources.specs.UnitEntries.{entry_seen}
use Rattle.dl_sources.proofs.EntryLemmas.{few_seen, flat_push}
use Rattle.dl_sources.proofs.ResultLemmas.{any_err, at_most}
use Rattle.dl_sources.proofs.entries.add_entries.Goals as goal

pub returns-in_err-add_entry-clause-refused : goal.returns-in_err-add_entry-clause-refused
returns-in_err-add_entry-clause-refused g c =
    any_err c.from_residual.result (λ mentions held.
    let u = c.args.unit.now in
    let told = flat_map (entry_seen u) (numbers_from c.first_number-first.result c.loop-place.place) in
    at_most (g.M.Memory.refuses c.args.memory.now) _ _ (omega (
      arith,
      few_seen u c.first_number-first.result c.loop-place.place,
      length-append mentions told,
      c.loop-place-test.true,
      c.len-count.ensures,
      ap (λ (t : TableData). length t.entries) c.files.ensures,
    )) (c.in_err-add_entry.ensures.refused (mentions ++ told) (c.loop-place.invariant.1 mentions held)))

pub loop-place-preserved : goal.loop-place-preserved
loop-place-preserved g c = (
  omega (arith, c.loop-place-test.true),
  λ mentions held. (
      let u = c.args.unit.now in
      let first = c.first_number-first.result in
      let told = flat_map (entry_seen u) (numbers_from first c.loop-place.place) in
      subst (Holds c.add_entry.new.table)
      (append_assoc mentions told (entry_seen u (first + c.loop-place.place))
      ∙ ap (λ (l : List Mention). mentions ++ l) (sym (flat_push (entry_seen u) first c.loop-place.place)))
      (c.in_ok-add_entry.ensures.told (mentions ++ told) (c.loop-place.invariant.1 mentions held))
      ),
)
