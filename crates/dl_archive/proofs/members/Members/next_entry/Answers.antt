use Rattle.std.proofs.Common.{◌∙◌, sym, ap}
use Rattle.std.specs.Prelude.{option_map}
use Rattle.dl_archive.specs.Told.{entry_and_next}
use Rattle.dl_archive.proofs.MemberLemmas.{entry_told, fault_told}
use Rattle.dl_archive.proofs.members.Members.next_entry.Goals as goal

pub returns-in-Err-clause-told : goal.returns-in-Err-clause-told
returns-in-Err-clause-told g c = λ f is short.
    let none = sym (c.in_ok-entry.ensures.entry f is short) ∙ ap (option_map entry_and_next) c.in_default.is in
    fault_told f c.args.self.now c.in-Err.fault (c.in-Err.ensures.ended f is short) none

pub returns-clause-told : goal.returns-clause-told
returns-clause-told g c = λ f is short.
    let some = sym (c.in_ok-entry.ensures.entry f is short) ∙ ap (option_map entry_and_next) c.in-Some.is in
    rw c.names_after-self.ensures.names
    (entry_told c.args.self.now.kind f c.args.self.now.names c.args.self.now.next _ short some)
