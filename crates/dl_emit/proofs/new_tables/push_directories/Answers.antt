use Rattle.dl_memory.proofs.RefusalLemmas.{wants_fewer}
use Rattle.dl_emit.specs.Conversion.{directory_entry, entries_in}
use Rattle.dl_emit.specs.Parts.{held_in}
use Rattle.dl_emit.proofs.PartLemmas.{one_more, wants_one}
use Rattle.dl_emit.proofs.new_tables.push_directories.Goals as goal

pub loop-i-preserved : goal.loop-i-preserved
loop-i-preserved g c = record {
  exact = c.in_ok-push_text.ensures.exact;
  held = one_more directory_entry (held_in c.args.parts.now) (entries_in c.args.old.now) c.loop-i.i _ c.entry_at.ensures
      (held_in c.loop-i.parts) (held_in c.push_text.new.self) c.loop-i.invariant.held
      (rw c.path.ensures at c.in_ok-push_text.ensures.held);
}

pub returns-in_err-push_text-clause-refused : goal.returns-in_err-push_text-clause-refused
returns-in_err-push_text-clause-refused g c =
    wants_fewer _ _ _ _ (wants_one directory_entry (held_in c.args.parts.now) (held_in c.loop-i.parts)
    (entries_in c.args.old.now) c.loop-i.i _ c.entry_at.ensures c.loop-i.invariant.held)
    (rw c.path.ensures at c.in_err-push_text.ensures.refused)
