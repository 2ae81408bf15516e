-- What was written of a header, and how a failed write tells it.
use Rattle.std.specs.Prelude.{◌≡◌, ℕ, ◌<◌, true, false, List, length, take, Option, Result, Ok, Err}
use Rattle.std.specs.Io.KnownBytes.{Appends, Keeps}
use Rattle.dl_num.specs.declared.fixed.Order.{Order}
use Rattle.dl_table.specs.declared.counted.HeadWrite.{HeadWrite}
use Rattle.dl_table.specs.declared.counted.HeadWrite.TheVariants.{TooLong, Write}
use Rattle.dl_field.specs.HeaderData.{HeaderData}
use Rattle.dl_head.specs.Written.{header_bytes, is_within_limit}

-- `write_header`: the header is out; or it is too long and nothing is; or only its first `out` bytes are
abbrev pub WritesHeader : Order → HeaderData → ℕ → (old new : Option (List ℕ)) → Result ℕ HeadWrite → Type 0
WritesHeader order h program_len old new (Ok n) =
    (is_within_limit h program_len ≡ true) × (n ≡ length (header_bytes order h program_len))
    × Appends old new (header_bytes order h program_len)
WritesHeader order h program_len old new (Err TooLong) = (is_within_limit h program_len ≡ false) × Keeps old new
WritesHeader order h program_len old new (Err (Write out)) =
    (is_within_limit h program_len ≡ true) × (out < length (header_bytes order h program_len))
    × Appends old new (take out (header_bytes order h program_len))
