-- Lines byte by byte: what they ask for, and what was read of them. No promise rests on how this is said.
-- hex: whether digits without `0x` are hexadecimal too; done: the bytes of the lines that were read.
use Rattle.std.specs.Prelude.{◌≡◌, ◌<◌, ◌≤◌, ◌+◌, ◌^◌, ℕ, suc, Bool, ◌==◌, if◌then◌else◌, List, [], ◌∷◌, ◌++◌}
use Rattle.std.specs.Prelude.{length, Option, None, option_map}
use Rattle.std.specs.Option.{option_or}
use Rattle.dl_look.specs.declared.asked.Asked.{Asked}
use Rattle.dl_asked.specs.declared.asked_lines.CurrentLine.{CurrentLine}
use Rattle.dl_asked.specs.declared.line.Line.{Line}
use Rattle.dl_asked.specs.AskedLines.{NumberedWord, and_asked, if_no_address, other_line_seen, trim_end}
use Rattle.dl_asked.specs.LineWord.{word_after, word_so_far}
use Rattle.dl_asked.specs.Line.{after_byte, asked_at_end, asked_of, new_line}

-- what is asked for by a line of which l was read, and by the lines after it; 10 is 0x0a
abbrev pub asked_from : (hex : Bool) → Line → List ℕ → List Asked
asked_from hex l [] = and_asked (asked_at_end hex l) []
asked_from hex l (c ∷ b) =
    if c == 10 then and_asked (asked_of l.text) (asked_from hex new_line b)
    else asked_from hex (after_byte hex l c) b

-- the first line that is no address, l being of line n, of which `word` is what it says first
abbrev pub no_address_from : (hex : Bool) → Line → (n : ℕ) (word : List ℕ) → List ℕ → Option NumberedWord
no_address_from hex l n word [] = if_no_address (asked_at_end hex l) (n, trim_end (word_so_far l word)) None
no_address_from hex l n word (c ∷ b) =
    if c == 10 then if_no_address (asked_of l.text) (n, trim_end word) (no_address_from hex new_line (suc n) [] b)
    else no_address_from hex (after_byte hex l c) n (word_after l word c) b

-- whatever follows, what it all asks for is what was taken and what the current line and the rest ask for
pub record Stands (hex : Bool) (done : List ℕ) (before : List Asked) (s : CurrentLine) : Type 0 where
  pub own : s.hex ≡ hex
  pub asked : (rest : List ℕ) → asked_from hex new_line (done ++ rest) ≡ before ++ asked_from hex s.line rest
  pub counted : length done < 2 ^ 63 → s.number ≤ length done + 1
  pub no_address : length done < 2 ^ 63 → (rest : List ℕ)
      → no_address_from hex new_line 1 [] (done ++ rest)
      ≡ option_or (option_map other_line_seen s.no_address) (no_address_from hex s.line s.number s.word rest)

-- the line is kept where it is the first that is no address, as its own text asks
pub record Notes (a : Option Asked) (old new : CurrentLine) : Type 0 where
  pub hex : new.hex ≡ old.hex
  pub line : new.line ≡ old.line
  pub number : new.number ≡ old.number
  pub word : new.word ≡ old.word
  pub no_address : (rest : Option NumberedWord) → option_or (option_map other_line_seen new.no_address) rest
      ≡ option_or (option_map other_line_seen old.no_address) (if_no_address a (old.number, trim_end old.word) rest)
