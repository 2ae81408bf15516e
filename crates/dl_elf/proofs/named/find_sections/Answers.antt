use Rattle.std.proofs.Common.{◌≡◌, IfOk, refl, subst}
use Rattle.dl_num.specs.declared.fixed.Order.TheVariants.{Little}
use Rattle.dl_elf.specs.declared.header.Class.TheVariants.{Bits64}
use Rattle.dl_elf.specs.declared.file.Elf.{Elf}
use Rattle.dl_elf.specs.Found.{AreFound}
use Rattle.dl_elf.specs.Forward.{NoneForward}
use Rattle.dl_elf.specs.Slots.{slot_of}
use Rattle.dl_elf.specs.SectionsHeld.{slots, forward_of}
use Rattle.dl_elf.proofs.named.find_sections.Goals as goal

-- a file whose class and order are told again
abbrev told_again : Elf → Elf
told_again e = record {
  header = record {
    class = Bits64;
    order = Little;
    file_type = e.header.file_type;
    machine = e.header.machine;
    table_offset = e.header.table_offset;
    entry_size = e.header.entry_size;
    entry_count = e.header.entry_count;
    names_number = e.header.names_number;
  };
  count = e.count;
  names = e.names;
}

same_file : (e : Elf) → e.header.class ≡ Bits64 → e.header.order ≡ Little → told_again e ≡ e
same_file e class order = rw (← class, ← order) refl

pub returns-in-Bits64-Little-clause-found : goal.returns-in-Bits64-Little-clause-found
returns-in-Bits64-Little-clause-found g c = λ f is short.
    let at = c.in-Bits64-Little in
    subst (λ e. IfOk c.find_among.result (λ s. AreFound e f (slot_of (slots s))))
    (same_file c.args.elf.now at.is-0 at.is-1) (c.find_among.ensures.found f is short)

pub returns-in-Bits64-Little-clause-forward : goal.returns-in-Bits64-Little-clause-forward
returns-in-Bits64-Little-clause-forward g c = λ f is short.
    let at = c.in-Bits64-Little in
    subst (λ e. IfOk c.find_among.result (λ s. NoneForward e f (forward_of s)))
    (same_file c.args.elf.now at.is-0 at.is-1) (c.find_among.ensures.forward f is short)
