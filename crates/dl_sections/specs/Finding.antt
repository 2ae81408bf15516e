-- What `find` is told and prints. No promise rests on this file.
use Rattle.std.specs.Prelude.{◌≡◌, true, false, ℕ, List, [], ◌∷◌, ◌++◌, Option, Some, None, fold}
use Rattle.dl_field.specs.HeaderData.{HeaderData}
use Rattle.dl_rows.specs.declared.row.Row.{Row}
use Rattle.dl_look.specs.declared.place.Place.{Place}
use Rattle.dl_look.specs.Answer.{answer}
use Rattle.dl_look.specs.FinderRows.{StandsFor}
use Rattle.dl_rows.specs.Items.{a_row}
use Rattle.dl_sections.specs.declared.finding.Seeker.{Seeker}
use Rattle.dl_sections.specs.Commands.{found_text}
use Rattle.dl_print.specs.Output.{HasPrinted}
use Rattle.dl_sections.specs.Section.{Visit, of_damage, of_item, of_end}
use Rattle.dl_print.specs.ValueText.{Strings, strings_of}
use Rattle.dl_sections.specs.Visiting.{Story}

-- ---- what visits give

-- no unit that is whole has an answer, and the current one has these rows; or the first answer, with its header
pub data Search : Type 0 where
  seeks : (rows : List Row) → Search
  finds : (h : HeaderData) (r : Row) → Search

-- the answer of a unit's rows, with its header
abbrev pub answer_under : Option HeaderData → Option Row → Search
answer_under None found = seeks []
answer_under (Some h) None = seeks []
answer_under (Some h) (Some r) = finds h r

abbrev pub seen : Place → Search → Visit → Search
seen x (finds h r) visit = finds h r
seen x (seeks rows) (of_item (a_row header r)) = seeks (rows ++ r ∷ [])
seen x (seeks rows) (of_end h) = answer_under h (answer rows x)
seen x (seeks rows) (of_damage unit offset kind) = seeks []
seen x (seeks rows) visit = seeks rows

abbrev pub search_of : Place → List Visit → Search
search_of x visits = fold (seen x) (seeks []) visits

-- what is printed of an answer, where there is one
abbrev pub text_found : Strings → Search → List ℕ
text_found strings (seeks rows) = []
text_found strings (finds h r) = found_text strings h r

-- ---- the seeker

-- it looks for the same place, and prints with the same string sections; nothing was found, and nothing is printed
pub record Seeks (first now : Seeker) (start held : Option (List ℕ)) (visits : List Visit) : Type 0 where
  pub rows : List Row
  pub told : search_of first.place visits ≡ seeks rows
  pub place : now.place ≡ first.place
  pub strings : now.strings ≡ first.strings
  pub not_found : now.found ≡ false
  pub stands : StandsFor now.finder first.place rows
  pub printed : HasPrinted start held [] now.printer

-- the last of the visits gave the first answer, which is printed
pub record HasFound (first now : Seeker) (start held : Option (List ℕ)) (visits : List Visit) : Type 0 where
  pub before : List Visit
  pub rows : List Row
  pub told : search_of first.place before ≡ seeks rows
  pub h : HeaderData
  pub r : Row
  pub row : answer rows first.place ≡ Some r
  pub whole : visits ≡ before ++ of_end (Some h) ∷ []
  pub found : now.found ≡ true
  pub printed : HasPrinted start held (found_text (strings_of first.strings) h r) now.printer

-- nothing before the first answer, and nothing more after it
abbrev pub find_story : Story Seeker
find_story = record {
  text = λ first visits. text_found (strings_of first.strings) (search_of first.place visits);
  tells = Seeks;
  is_done = HasFound;
  refuses = λ first visits fault. ⊥;
}
