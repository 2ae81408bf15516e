-- What the words of `lines` and of `sources` ask for. bytes: what was read of the input, which has `left` left. start, now:
-- what the output held at first, and holds now. held: what the file of a path holds, where that is known; fails: the errors
-- that opening and reading it may give. refuses: for how many items memory is refused.
use Rattle.std.specs.Prelude.{⊤, ◌≡◌, ◌≢◌, ◌⊎◌, ◌<◌, ◌^◌, ◌++◌, ◌∷◌, ℕ, List, [], length, MatchOption, Option, None, Some, Result, is_none, false, option_map}
use Rattle.std.specs.Borrow.{Bor}
use Rattle.std.specs.declared.io.Error.{Error}
use Rattle.dl_cmd.specs.Address.{address_in}
use Rattle.dl_cmd.specs.Job.{LinesTexts, SourcesTexts, Text}
use Rattle.dl_memory.specs.Refusals.{IsRefused}
use Rattle.dl_lines.specs.Words.{AsksFor}
use Rattle.dl_lines.specs.declared.question.Wanted.{Wanted}
use Rattle.dl_sections.specs.declared.around.Survey.{Survey}
use Rattle.dl_sections.specs.declared.fault.RunFault.TheVariants as fault
use Rattle.dl_program.specs.Asked.{unless_input}
use Rattle.dl_program.specs.Work.{StopsBefore}
use Rattle.dl_program.specs.declared.stop.Stop.{Stop}
use Rattle.dl_program.specs.declared.stop.Stop.TheVariants.{NotLine, NotUnderstood, Run}
use Rattle.dl_locating.specs.Located.{located}
use Rattle.dl_locating.specs.WithTable.{TableRead, TableTexts}
use Rattle.dl_locating.specs.declared.located.Located.{Located}
use Rattle.dl_locating.specs.declared.with_table.Wish.{Wish}
use Rattle.dl_locating.specs.declared.with_table.Wish.TheVariants.{Lines, Sources}

-- ---- `sources`

abbrev pub sources_table : SourcesTexts → TableTexts
sources_table w = record {
  file = w.file;
  all = w.all;
  section = None;
  big = w.big;
  units = w.units;
  comp_dir = w.comp_dir;
  line_str = w.line_str;
  strings = w.strings;
}

-- the offset that a word says, or that there is no word; None where it says no offset
abbrev pub unit_asked : Option Text → Option (Option ℕ)
unit_asked None = Some None
unit_asked (Some word) = option_map (λ unit. Some unit) (address_in word)

-- None where what they say to be the offset of a unit is none
abbrev pub sources_wish : SourcesTexts → Option Wish
sources_wish w = option_map (λ unit. Sources w.rows w.md5 w.json unit w.keep_going) (unit_asked w.unit)

abbrev pub SourcesRead : (refuses : ℕ → Type 0) → (held : Text → Option (List ℕ)) (fails : Text → Error → Type 0) → SourcesTexts
    → (bytes : List ℕ) (left start now : Option (List ℕ)) → Result Survey Stop → Type 0
SourcesRead refuses held fails w bytes left start now result =
    MatchOption (sources_wish w) (StopsBefore bytes start now result NotUnderstood)
    (λ wish. TableRead refuses held fails (sources_table w) wish bytes left start now result)

-- ---- `lines`: a path `-` stands for the section on the input

abbrev pub lines_table : LinesTexts → TableTexts
lines_table w = record {
  file = unless_input w.file;
  all = w.all;
  section = w.section;
  big = w.big;
  units = w.units;
  comp_dir = w.comp_dir;
  line_str = w.line_str;
  strings = w.strings;
}

-- each word asks for the line in its place
abbrev pub AreAsked : List Text → List Wanted → Type 0
AreAsked [] [] = ⊤
AreAsked (word ∷ words) (line ∷ lines) = AsksFor word line.path.now line.line × AreAsked words lines
AreAsked words lines = ⊥

-- a word asks for no line
abbrev pub AsksForNone : Text → Type 0
AsksForNone word = (path : List ℕ) (line : ℕ) → line < 2 ^ 64 → ¬ AsksFor word path line

-- the first of the words that asks for none is told, or memory is refused for them
abbrev pub LinesStop : (refuses : ℕ → Type 0) → List Text → Stop → Type 0
LinesStop refuses words (NotLine word) =
    (front : List Text) × (back : List Text) × (lines : List Wanted) × (words ≡ front ++ word.now ∷ back)
    × AreAsked front lines × AsksForNone word.now
LinesStop refuses words (Run fault.NoMemory) = (words ≢ []) × IsRefused refuses (length words)
LinesStop refuses words other = ⊥

-- no file is named, or a word asks for no line; or what is asked is answered
abbrev pub LinesRead : (refuses : ℕ → Type 0) → (held : Text → Option (List ℕ)) (fails : Text → Error → Type 0) → LinesTexts
    → (bytes : List ℕ) (left start now : Option (List ℕ)) → Result Located Stop → Type 0
LinesRead refuses held fails w bytes left start now result =
    ((stop : Stop) × (((w.file ≡ None) × (stop ≡ NotUnderstood)) ⊎ LinesStop refuses w.wanted stop)
    × StopsBefore bytes start now result stop)
    ⊎ ((wanted : Bor (List Wanted)) × AreAsked w.wanted wanted.now × (answer : Result Survey Stop)
    × (is_none w.file ≡ false)
    × TableRead refuses held fails (lines_table w) (Lines wanted w.exact w.stop) bytes left start now answer
    × (result ≡ located answer None))
