-- The sink that keeps the rows of a unit, as many as there is room for. No promise rests on this file.
use Rattle.std.specs.Prelude.{◌≡◌, ◌<◌, ◌^◌, true, false, List, [], ◌∷◌, length, map}
use Rattle.dl_rows.specs.declared.row.Row.{Row}
use Rattle.dl_sections.specs.InMemory.{UnitStory, UnitTold}
use Rattle.dl_buffers.specs.declared.listing.RowRoom.{RowRoom}
use Rattle.dl_buffers.specs.Records.{row_record}
use Rattle.dl_buffers.specs.UnitCalls.{written_over}

-- it was told these rows since it was as at first
pub record RoomHeard (first now : RowRoom) (rows : List Row) : Type 0 where
  pub same : now.rows.ghost_name ≡ first.rows.ghost_name
  pub kept : length rows < 2 ^ 64 → now.rows.now ≡ written_over first.rows.now (map row_record rows)
  pub count : length rows < 2 ^ 64 → now.count ≡ length rows

-- of the first unit; no other is read
abbrev pub room_story : UnitStory RowRoom
room_story = record {
  hears = λ first now units rows. (units ≡ []) × (now.is_whole ≡ false) × RoomHeard first now rows;
  is_done = λ first now units. (t : UnitTold) × (units ≡ t ∷ []) × (now.is_whole ≡ true) × RoomHeard first now t.rows;
}
