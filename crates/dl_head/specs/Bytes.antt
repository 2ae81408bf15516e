-- Header fields of one byte, as the reader tells them apart. No promise rests on this file.
use Rattle.dl_head.specs.declared.reader.byte_field.ByteField.{ByteField}
use Rattle.dl_head.specs.declared.reader.byte_field.ByteField.TheVariants as field
use Rattle.dl_field.specs.Layout.{NumberField, address_size, any_byte, maximum_operations, line_range, opcode_base}

abbrev pub byte_kind : ByteField → NumberField
byte_kind field.AddressSize = address_size
byte_kind field.MaximumOperations = maximum_operations
byte_kind field.LineRange = line_range
byte_kind field.OpcodeBase = opcode_base
byte_kind other = any_byte
