-- For how many bytes or items the making of an index wants memory at most. refuses: for how many items memory is refused.
use Rattle.std.specs.Prelude.{◌≤◌, ℕ, ◌+◌, ◌*◌, length}
use Rattle.std.specs.Option.{option_map_or}
use Rattle.dl_dirs.specs.declared.compilation.CompilationDirectories.{CompilationDirectories}
use Rattle.dl_dirs.specs.Compilation.{directory_by}
use Rattle.dl_print.specs.ValueText.{Strings}
use Rattle.dl_path.specs.TextRoom.{strings_len}

-- no compilation directory has more bytes
abbrev pub DirectoriesWithin : (directory : ℕ) → CompilationDirectories → Type 0
DirectoriesWithin directory directories = (unit : ℕ) → option_map_or length (directory_by directories unit) 0 ≤ directory

-- no text has more bytes that an index keeps of a section of so many bytes: it stands in the section or in a string section,
-- and may have a compilation directory before it, and a slash after each
abbrev pub longest_text : Strings → (directory bytes : ℕ) → ℕ
longest_text s directory bytes = directory + strings_len s + bytes + 2

-- the room of six texts for each byte of the section, and of one more, with 200 bytes beside each
abbrev pub making_room : Strings → (directory bytes : ℕ) → ℕ
making_room s directory bytes = (6 * bytes + 1) * (longest_text s directory bytes + 200)

-- memory was refused for some list of items, of which there were to be no more than that, however long the compilation
-- directories are
abbrev pub RefusesRoom : (refuses : ℕ → Type 0) → Strings → CompilationDirectories → (bytes : ℕ) → Type 0
RefusesRoom refuses s directories bytes =
    (n : ℕ) × refuses n × ((directory : ℕ) → DirectoriesWithin directory directories → n ≤ making_room s directory bytes)
