-- What a line says first, byte by byte. No promise rests on this file.
use Rattle.std.specs.Prelude.{ℕ, ◌||◌, ◌&&◌, not, nat_lt, ◌==◌, if◌then◌else◌, List, [], ◌∷◌, ◌++◌, length}
use Rattle.dl_asked.specs.AskedLines.{is_blank, word_size}
use Rattle.dl_asked.specs.declared.line.Line.{Line}

-- with a byte more of the line
abbrev pub with_byte : List ℕ → ℕ → List ℕ
with_byte word c =
    if nat_lt (length word) word_size && (not (length word == 0) || not (is_blank c)) then word ++ c ∷ [] else word

-- where the line goes on or the input ends: a 0x0d that came last belongs to the line
abbrev pub word_so_far : Line → List ℕ → List ℕ
word_so_far l word = if l.returned then with_byte word 13 else word

-- with a byte more, which isn't 0x0a; a 0x0d waits
abbrev pub word_after : Line → List ℕ → ℕ → List ℕ
word_after l word c = if c == 13 then word_so_far l word else with_byte (word_so_far l word) c
