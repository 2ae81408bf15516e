-- The params that operations can be executed under. DWARF 5, section 6.2.4.
use Rattle.std.specs.Prelude.{◌≡◌, ◌+◌, ◌≤◌, length, IsTrue}
use Rattle.dl_field.specs.declared.params.Params.{Params}
use Rattle.dl_num.specs.Fixed.{is_number_size}

-- the params of a header: nothing that a program's operations divide by is 0, and each opcode below opcode_base has its
-- length
pub record IsUsable (p : Params) : Type 0 where
  pub address_size : IsTrue (is_number_size p.address_size)
  pub operations : 1 ≤ p.maximum_operations_per_instruction
  pub lines : 1 ≤ p.line_range
  pub opcodes : length p.lengths.items + 1 ≡ p.opcode_base
