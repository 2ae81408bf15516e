-- Laws of headers that are written. Each holds in every dialect, which is the same throughout a law.
use Rattle.std.specs.Prelude.{◌≡◌, ℕ, ◌+◌, true, List, ◌++◌, length, Some}
use Rattle.dl_head.specs.declared.dialect.Dialect.{Dialect}
use Rattle.dl_num.specs.Laws.{AllBytes}
use Rattle.dl_field.specs.HeaderData.{HeaderData}
use Rattle.dl_head.specs.Sound.{IsSoundHeader}
use Rattle.dl_head.specs.Header.{IsHeader, unit_len}
use Rattle.dl_head.specs.Written.{header_bytes, is_within_limit}

-- the bytes that are written of a header of version 5, with a program of any length that isn't too long, are it
abbrev pub WrittenIsHeader : Type 0
WrittenIsHeader = (dialect : Dialect) (h : HeaderData) (program_len : ℕ) → IsSoundHeader h
    → h.params.version ≡ 5
    → is_within_limit h program_len ≡ true → IsHeader dialect h (header_bytes dialect.order h program_len)

-- and with a program of this length after them they are as long as their first field tells
abbrev pub WrittenHasItsLength : Type 0
WrittenHasItsLength = (dialect : Dialect) (h : HeaderData) (program_len : ℕ) (rest : List ℕ) → IsSoundHeader h
    → h.params.version ≡ 5
    → is_within_limit h program_len ≡ true
    → unit_len dialect (header_bytes dialect.order h program_len ++ rest)
    ≡ Some (length (header_bytes dialect.order h program_len) + program_len)

-- a header that bytes spell is sound, so it can be written
abbrev pub ReadIsSound : Type 0
ReadIsSound = (dialect : Dialect) (h : HeaderData) (w : List ℕ) → IsHeader dialect h w → AllBytes w → IsSoundHeader h
