-- The addresses asked for on an input, one a line.
use Rattle.std.specs.Prelude.{ℕ, suc, Bool, ◌||◌, ◌==◌, if◌then◌else◌, List, [], ◌∷◌, ◌++◌}
use Rattle.std.specs.Prelude.{take, Option, Some, None, is_none}
use Rattle.std.specs.List.{list_all, list_any}
use Rattle.dl_cmd.specs.Address.{address_by}
use Rattle.dl_look.specs.declared.asked.Asked.{Asked}
use Rattle.dl_asked.specs.declared.asked_lines.OtherLine.{OtherLine}

-- ---- lines: each ends at a 0x0a (10), before which one 0x0d (13) is dropped; the last one may lack its 0x0a

abbrev pub without_return : List ℕ → List ℕ
without_return [] = []
without_return (c ∷ []) = if c == 13 then [] else c ∷ []
without_return (c ∷ d ∷ line) = c ∷ without_return (d ∷ line)

-- the lines of bytes, `line` being what was read of the first
abbrev pub lines_after : (line : List ℕ) → List ℕ → List (List ℕ)
lines_after line [] = line ∷ []
lines_after line (c ∷ b) = if c == 10 then without_return line ∷ lines_after [] b else lines_after (line ++ c ∷ []) b

abbrev pub lines_in : List ℕ → List (List ℕ)
lines_in b = lines_after [] b

-- ---- what a line asks for

-- a space or a tab
abbrev pub is_blank : ℕ → Bool
is_blank c = (c == 32) || (c == 9)

abbrev pub trim_start : List ℕ → List ℕ
trim_start [] = []
trim_start (c ∷ line) = if is_blank c then trim_start line else c ∷ line

abbrev pub trim_end : List ℕ → List ℕ
trim_end [] = []
trim_end (c ∷ line) = if list_all is_blank (c ∷ line) then [] else c ∷ trim_end line

-- the address, where it is one; an empty text asks for nothing
abbrev pub asked_by : (hex : Bool) → (text : List ℕ) → Option Asked
asked_by hex [] = None
asked_by hex (c ∷ text) = Some (record { address = address_by hex (c ∷ text) })

-- without the blanks around it
abbrev pub asked_of_line : (hex : Bool) → List ℕ → Option Asked
asked_of_line hex line = asked_by hex (trim_end (trim_start line))

-- ---- what the lines ask for

abbrev pub and_asked : Option Asked → List Asked → List Asked
and_asked None rest = rest
and_asked (Some a) rest = a ∷ rest

abbrev pub asked_of_lines : (hex : Bool) → List (List ℕ) → List Asked
asked_of_lines hex [] = []
asked_of_lines hex (line ∷ lines) = and_asked (asked_of_line hex line) (asked_of_lines hex lines)

-- in order
abbrev pub asked_in : (hex : Bool) → List ℕ → List Asked
asked_in hex b = asked_of_lines hex (lines_in b)

-- how many bytes of a line are told
abbrev pub word_size : ℕ
word_size = 64

-- what is told of a line: its first bytes, without the blanks around them
abbrev pub word_of : List ℕ → List ℕ
word_of line = trim_end (take word_size (trim_start line))

-- the number of a line and what is told of it
abbrev pub NumberedWord : Type 0
NumberedWord = ℕ × List ℕ

-- line n and what is told of it, where it asks for what is no address
abbrev pub if_no_address : Option Asked → NumberedWord → Option NumberedWord → Option NumberedWord
if_no_address None told rest = rest
if_no_address (Some a) told rest = if is_none a.address then Some told else rest

-- the first line that is no address, n being the number of the first line
abbrev pub no_address_among : (hex : Bool) → (n : ℕ) → List (List ℕ) → Option NumberedWord
no_address_among hex n [] = None
no_address_among hex n (line ∷ lines) =
    if_no_address (asked_of_line hex line) (n, word_of line) (no_address_among hex (suc n) lines)

-- lines are counted from 1 on, empty ones too
abbrev pub no_address_in : (hex : Bool) → List ℕ → Option NumberedWord
no_address_in hex b = no_address_among hex 1 (lines_in b)

abbrev pub other_line_seen : OtherLine → NumberedWord
other_line_seen line = (line.number, line.word)

-- ---- what was read

-- 0x0a
abbrev pub is_end : ℕ → Bool
is_end c = c == 10

-- the lines that have ended, each with its 0x0a
abbrev pub ended : List ℕ → List ℕ
ended [] = []
ended (c ∷ b) = if list_any is_end (c ∷ b) then c ∷ ended b else []
