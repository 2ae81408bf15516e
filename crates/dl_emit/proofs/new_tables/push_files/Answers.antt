use Rattle.dl_memory.proofs.RefusalLemmas.{wants_fewer}
use Rattle.dl_emit.specs.Conversion.{entries_in, file_entry, kept_numbers}
use Rattle.dl_emit.specs.Parts.{held_in}
use Rattle.dl_emit.proofs.PartLemmas.{one_more, wants_one}
use Rattle.dl_emit.proofs.new_tables.push_files.Goals as goal

pub loop-i-preserved : goal.loop-i-preserved
loop-i-preserved g c = record {
  exact = c.in_ok-push_file.ensures.exact;
  held = one_more (file_entry (kept_numbers c.args.kept.times c.args.kept.sizes)) (held_in c.args.parts.now)
      (entries_in c.args.old.now) c.loop-i.i _ c.entry_at.ensures (held_in c.loop-i.parts) (held_in c.push_file.new.parts)
      c.loop-i.invariant.held c.in_ok-push_file.ensures.held;
}

pub returns-in_err-push_file-clause-refused : goal.returns-in_err-push_file-clause-refused
returns-in_err-push_file-clause-refused g c =
    wants_fewer _ _ _ _ (wants_one (file_entry (kept_numbers c.args.kept.times c.args.kept.sizes))
    (held_in c.args.parts.now) (held_in c.loop-i.parts) (entries_in c.args.old.now) c.loop-i.i _ c.entry_at.ensures
    c.loop-i.invariant.held) c.in_err-push_file.ensures.refused
