use Rattle.std.proofs.Common.{◌≡◌, ℕ, List, None, sym, subst}
use Rattle.dl_head.specs.Built.{param_fault}
use Rattle.dl_head.proofs.HeaderSound.{standard_fault}
use Rattle.dl_head.proofs.header.Header.with_standard_opcodes.Goals as goal

pub invariant_of-result : goal.invariant_of-result
invariant_of-result c =
    let h = c.self.inside in
    record {
      params = subst (λ (lengths : List ℕ). param_fault
          (record (h.params) { opcode_base = 13; lengths = record { items = lengths } }) h.directories h.files ≡ None)
          (sym c.standard_lengths-params.ensures)
          (standard_fault (record { params = h.params; directories = h.directories; files = h.files })
          c.self.invariant.params);
      maximum_operations = c.self.invariant.maximum_operations;
      line_base = c.self.invariant.line_base;
      directories = c.self.invariant.directories;
      files = c.self.invariant.files;
    }
