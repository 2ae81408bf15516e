-- The registers that are kept between operations, as sums and last settings. No promise rests on how this is said.
use Rattle.std.specs.Prelude.{◌^◌, ◌%◌, ◌<◌, ◌==◌, not, unsigned_abs, List, unwrap_or, fold}
use Rattle.std.specs.List.{after_last, list_any}
use Rattle.dl_field.specs.declared.params.Params.{Params}
use Rattle.dl_field.specs.Usable.{IsUsable}
use Rattle.dl_rows.specs.declared.registers.Registers.{Registers}
use Rattle.dl_rows.specs.declared.operation.Operation.{Operation}
use Rattle.dl_rows.specs.declared.operation.Operation.TheVariants as op
use Rattle.dl_rows.specs.Matrix.{is_end, appends_row, last_set, address, op_index, line, set_file, set_column, set_isa}
use Rattle.dl_rows.specs.Matrix.{set_discriminator, turned, is_block, is_prologue, is_epilogue, modulo}
use Rattle.dl_rows.specs.Machine.{initial, cleared}

-- the sums and last settings of s and f, address and line wrapped
abbrev pub registers_of : Params → List Operation → List Operation → Registers
registers_of h s f = record {
  address = address h s % 2 ^ 64;
  op_index = op_index h s;
  file = unwrap_or (last_set set_file s) 1;
  line = modulo (line h s) (2 ^ 64);
  column = unwrap_or (last_set set_column s) 0;
  is_stmt = fold turned (not (h.default_is_stmt == 0)) s;
  basic_block = list_any is_block f;
  prologue_end = list_any is_prologue f;
  epilogue_begin = list_any is_epilogue f;
  isa = unwrap_or (last_set set_isa s) 0;
  discriminator = unwrap_or (last_set set_discriminator f) 0;
}

-- the registers after the operations, before the next one
abbrev pub registers_after : Params → List Operation → Registers
registers_after h os = registers_of h (after_last is_end os) (after_last appends_row os)

-- what an operation leaves for the next one, when its row is appended
abbrev pub settled : Params → Operation → Registers → Registers
settled h (op.Special b) r = cleared r
settled h op.Copy r = cleared r
settled h op.EndSequence r = initial (not (h.default_is_stmt == 0))
settled h o r = r

-- the operands that a spelling can give
abbrev pub HasRange : Operation → Type 0
HasRange (op.Special b) = b < 256
HasRange (op.AdvanceLine i) = unsigned_abs i < 2 ^ 64
HasRange (op.SetAddress n) = n < 2 ^ 64
HasRange o = Unit {0}

-- the params of a header, whose line_base is one byte
pub record FitsProgram (h : Params) : Type 0 where
  pub usable : IsUsable h
  pub line_base : unsigned_abs h.line_base < 2 ^ 62
