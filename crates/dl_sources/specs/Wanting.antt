-- For how many bytes or items memory is wanted at most. refuses: for how many items memory is refused.
use Rattle.std.specs.Prelude.{◌≤◌, ℕ, ◌+◌, ◌*◌}
use Rattle.dl_print.specs.ValueText.{Strings}
use Rattle.dl_path.specs.TextRoom.{strings_len}
use Rattle.dl_making.specs.Room.{DirectoriesWithin}
use Rattle.dl_sources.specs.declared.question.SourcesQuestion.{SourcesQuestion}

-- of a section of so many bytes: for a path, which is a compilation directory and three texts of the section or of string
-- sections, each with a slash after it, or for the files and the paths that stand in so many bytes
abbrev pub listing_room : Strings → (directory bytes : ℕ) → ℕ
listing_room s directory bytes = directory + 3 * strings_len s + 4 * bytes + 4

-- memory was refused for some list of items, of which there were to be no more than that, however long the compilation
-- directories are
abbrev pub RefusesListing : (refuses : ℕ → Type 0) → Strings → SourcesQuestion → (bytes : ℕ) → Type 0
RefusesListing refuses s q bytes =
    (n : ℕ) × refuses n × ((directory : ℕ) → DirectoriesWithin directory q.directories → n ≤ listing_room s directory bytes)
