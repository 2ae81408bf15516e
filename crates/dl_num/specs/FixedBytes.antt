-- What contracts see of a number of fixed size whose bytes come one at a time.
use Rattle.std.specs.Prelude.{◌≡◌, ℕ, List, length, take}
use Rattle.dl_num.specs.declared.fixed.Fixed.{Fixed}

-- how many bytes the number has
abbrev pub size_of : Fixed → ℕ
size_of f = f.len

-- the bytes that have come
abbrev pub taken_by : Fixed → List ℕ
taken_by f = take f.filled f.bytes

-- all of its bytes have come
abbrev pub IsFull : Fixed → Type 0
IsFull f = length (taken_by f) ≡ size_of f
