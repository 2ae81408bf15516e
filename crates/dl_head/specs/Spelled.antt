-- The parts of a header as the writer has them. No promise rests on this file.
use Rattle.std.specs.Prelude.{ℕ, List, ◌∷◌, ◌++◌, []}
use Rattle.dl_num.specs.declared.fixed.Order.{Order}
use Rattle.dl_num.specs.Fixed.{fixed_bytes}
use Rattle.dl_field.specs.declared.params.Params.{Params}
use Rattle.dl_table.specs.Value.{offset_size}
use Rattle.dl_head.specs.Written.{byte_of, initial_length_bytes}

abbrev pub version_parts : Order → Params → List ℕ
version_parts order p = fixed_bytes order 2 5 ++ p.address_size ∷ p.segment_selector_size ∷ []

-- from minimum_instruction_length to opcode_base
abbrev pub byte_parts : Params → List ℕ
byte_parts p =
    p.minimum_instruction_length ∷ p.maximum_operations_per_instruction ∷ p.default_is_stmt
    ∷ byte_of p.line_base ∷ p.line_range ∷ p.opcode_base ∷ []

abbrev pub number_parts : Params → List ℕ
number_parts p = byte_parts p ++ p.lengths.items

-- the fields before the tables, of a unit and a header of these lengths
abbrev pub front_parts : Order → Params → (unit rest : ℕ) → List ℕ
front_parts order p unit rest =
    (initial_length_bytes order p.format unit ++ version_parts order p)
    ++ (fixed_bytes order (offset_size p.format) rest ++ number_parts p)
