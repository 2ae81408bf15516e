-- Parts of an index while they are written. No promise rests on this file.
use Rattle.std.specs.Prelude.{ℕ, ◌+◌, ◌*◌, ◌-◌, ◌/◌, List, ◌++◌, length, map, replicate}
use Rattle.std.specs.List.{range_with_len}
use Rattle.dl_index.specs.Layout.{rounded}
use Rattle.dl_stretch.specs.declared.stretch.Stretch.{Stretch}
use Rattle.dl_pack.specs.Columns.{byte_at}

-- a part as far as it is written, in its room
abbrev pub region : (room : ℕ) → List ℕ → List ℕ
region room part = part ++ replicate (room - length part) 0

-- the bits of stretches in so many bytes
abbrev pub bits_in : (room : ℕ) → List Stretch → List ℕ
bits_in room list = map (byte_at list) (range_with_len 0 room)

-- the room of a column, and of the bits
abbrev pub room_of : (count size : ℕ) → ℕ
room_of count size = rounded (count * size)

abbrev pub bits_room : ℕ → ℕ
bits_room count = rounded ((count + 7) / 8)
