-- What the table of files of a unit tells, by what is known of the unit. No promise rests on this file.
use Rattle.std.specs.Prelude.{ℕ, ◌+◌, ◌*◌, List, length, get_or, Some}
use Rattle.std.specs.Option.{option_copied, option_map_or}
use Rattle.dl_print.specs.ValueText.{strings_of}
use Rattle.dl_path.specs.TextRoom.{text_room}
use Rattle.dl_sources.specs.declared.counting.Counts.{Counts}
use Rattle.dl_sources.specs.declared.counting.UnitCounts.{UnitCounts}
use Rattle.dl_sources.specs.declared.entries.UnitTable.{UnitTable}
use Rattle.dl_sources.specs.Counts.{none_named}
use Rattle.dl_sources.specs.Entries.{entry_told, table_told}
use Rattle.dl_sources.specs.Sources.{Mention}

-- what was counted of the file of number n
abbrev pub counts_at : UnitCounts → (n : ℕ) → Counts
counts_at u n = get_or u.files.items n none_named

abbrev pub entry_seen : UnitTable → (n : ℕ) → List Mention
entry_seen u n =
    entry_told (strings_of u.strings.now) (option_copied u.directory) u.md5 u.header.now (counts_at u.counts.now) n

abbrev pub table_seen : UnitTable → List Mention
table_seen u =
    table_told (strings_of u.strings.now) (option_copied u.directory) u.md5 u.header.now (counts_at u.counts.now)

-- for how many bytes or items memory is wanted at most for an entry, beside the entries that are told
abbrev pub entry_room : UnitTable → ℕ
entry_room u =
    option_map_or length (option_copied u.directory) 0 + 3 * text_room (strings_of u.strings.now) (Some u.header.now) + 4

abbrev pub table_room : UnitTable → ℕ
table_room u = entry_room u + length u.header.now.files.entries
