-- Equality of headers, as a test. No promise rests on this file.
use Rattle.std.specs.Prelude.{Bool, ◌&&◌, nat_eq, ◌==◌}
use Rattle.std.specs.Cmp.Lexicographic.{pointwise}
use Rattle.std.specs.Ordering.{int_eq}
use Rattle.dl_field.specs.declared.params.Params.{Params}
use Rattle.dl_field.specs.HeaderData.{HeaderData}
use Rattle.dl_table.specs.Built.{same_format}
use Rattle.dl_table.specs.Equal.{same_table}

abbrev pub same_params : Params → Params → Bool
same_params p q =
    same_format p.format q.format && ((p.version == q.version) && ((p.address_size == q.address_size)
    && ((p.segment_selector_size == q.segment_selector_size)
    && ((p.minimum_instruction_length == q.minimum_instruction_length)
    && ((p.maximum_operations_per_instruction == q.maximum_operations_per_instruction)
    && ((p.default_is_stmt == q.default_is_stmt) && (int_eq p.line_base q.line_base && ((p.line_range == q.line_range)
    && ((p.opcode_base == q.opcode_base) && pointwise nat_eq p.lengths.items q.lengths.items)))))))))

abbrev pub same_header : HeaderData → HeaderData → Bool
same_header g h =
    same_params g.params h.params && (same_table g.directories h.directories && same_table g.files h.files)
