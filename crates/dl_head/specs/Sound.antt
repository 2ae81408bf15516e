-- Which headers there are: those that can be built, whose numbers are of the program's types. DWARF 5, section 6.2.4.
use Rattle.std.specs.Prelude.{◌≡◌, ◌^◌, ◌<◌, None}
use Rattle.std.specs.Int.{w8}
use Rattle.std.specs.Int.RustNames.{FitsSigned}
use Rattle.dl_table.specs.Sound.{IsSoundTable}
use Rattle.dl_field.specs.HeaderData.{HeaderData}
use Rattle.dl_head.specs.Built.{param_fault}

-- the parts make a header, whose maximum operations and line_base are of one byte
pub record IsSoundHeader (h : HeaderData) : Type 0 where
  pub params : param_fault h.params h.directories h.files ≡ None
  pub maximum_operations : h.params.maximum_operations_per_instruction < 2 ^ 8
  pub line_base : FitsSigned w8 h.params.line_base
  pub directories : IsSoundTable h.directories
  pub files : IsSoundTable h.files
