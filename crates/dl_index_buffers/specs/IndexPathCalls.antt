-- The path of a location, joined. b: the bytes of an index.
use Rattle.std.specs.Prelude.{ℕ, ◌==◌, if◌then◌else◌, List, codes}
use Rattle.dl_index_buffers.specs.IndexRecords.{texts_in}
use Rattle.dl_index_buffers.specs.declared.record.LocationRecord.{LocationRecord}

-- its texts, one after the other, as far as they lie in the bytes; `??` where it isn't known
abbrev pub path_told : List ℕ → LocationRecord → List ℕ
path_told b r = if r.has_path == 0 then codes "??" else texts_in b r
