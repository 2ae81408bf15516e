-- What the bytes of a unit don't say of it. DWARF 2 to 4, section 6.2.4: their headers don't say the size of an address.
use Rattle.std.specs.Prelude.{ℕ, ◌||◌, ◌==◌, Option, Some, None, if◌then◌else◌}
use Rattle.dl_num.specs.declared.fixed.Order.{Order}
use Rattle.dl_head.specs.declared.dialect.AddressSize.{AddressSize}
use Rattle.dl_head.specs.declared.dialect.AddressSize.TheVariants as size
use Rattle.dl_head.specs.declared.dialect.Older.{Older}
use Rattle.dl_head.specs.declared.dialect.Older.TheVariants as older
use Rattle.dl_head.specs.declared.dialect.Dialect.{Dialect}

-- units of version 5 alone are read, whose numbers stand in this order
abbrev pub version_5 : Order → Dialect
version_5 order = record { order = order; older = older.Foreign }

-- how many bytes an address has
abbrev pub address_bytes : AddressSize → ℕ
address_bytes size.One = 1
address_bytes size.Two = 2
address_bytes size.Four = 4
address_bytes size.Eight = 8

-- units of versions 2 to 4 are read where addresses may have so many bytes
abbrev pub older_of : ℕ → Older
older_of n =
    if n == 1 then older.Read size.One else
    if n == 2 then older.Read size.Two else
    if n == 4 then older.Read size.Four else
    if n == 8 then older.Read size.Eight else older.Foreign

abbrev pub older_bytes : Older → Option ℕ
older_bytes older.Foreign = None
older_bytes (older.Read n) = Some (address_bytes n)

-- the size of an address in a unit of this version, where it is one from 2 to 4 and those are read
abbrev pub older_size : Dialect → ℕ → Option ℕ
older_size dialect v = if (v == 2) || (v == 3) || (v == 4) then older_bytes dialect.older else None
