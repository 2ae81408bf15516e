-- Laws of the lines of an index: they are those that `addr` prints.
use Rattle.std.specs.Prelude.{◌≡◌, ℕ, ◌<◌, ◌^◌, List, Option, IfSome, option_map}
use Rattle.dl_head.specs.declared.dialect.Dialect.{Dialect}
use Rattle.dl_print.specs.ValueText.{Strings}
use Rattle.dl_dirs.specs.Compilation.{directory_by}
use Rattle.dl_sections.specs.Around.{Block}
use Rattle.dl_look.specs.declared.asked.Asked.{Asked}
use Rattle.dl_addr.specs.declared.question.Question.{Question}
use Rattle.dl_addr.specs.declared.style.Style.{Style}
use Rattle.dl_addr.specs.AroundCommands.{answer_around}
use Rattle.dl_addr.specs.Commands.{answer_in}
use Rattle.dl_addr.specs.Locations.{Located, asked_line, location_of}
use Rattle.dl_making.specs.declared.making.Table.{Table}
use Rattle.dl_making.specs.IsIndexOf.{IsIndexOf}
use Rattle.dl_making.specs.Makes.{id_kept, told_around, told_in}
use Rattle.dl_making.specs.Telling.{index_line, location_told, told_asked, told_of}

-- what an index tells of an address is what `addr` tells of the row that answers it
abbrev pub ToldIsLocation : Type 0
ToldIsLocation =
    (s : Strings) (directories : ℕ → Option (List ℕ)) (l : Located)
    → location_told (told_of s directories l) ≡ location_of directories s l

-- the same is known of code and of compilation directories
pub record IsAskedWith (q : Question) (table : Table) : Type 0 where
  pub code : q.code ≡ table.code
  pub directories : q.directories ≡ table.directories

abbrev pub IsAddress : Asked → Type 0
IsAddress a = IfSome a.address (λ n. n < 2 ^ 64)

-- of each thing that is asked, above each base, the index of units tells what is told of the row that answers it; and it
-- tells nothing where none does
abbrev pub AnswersOfIndex : Type 0
AnswersOfIndex =
    (dialect : Dialect) (s : Strings) (table : Table) (units : List (List ℕ)) (index : List ℕ)
    → IsIndexOf table.all (id_kept table) (told_in dialect s table units) index
    → (q : Question) (a : Asked) → IsAskedWith q table → IsAddress a
    → option_map location_told (told_asked index q.base a)
    ≡ option_map (location_of (directory_by q.directories) s) (answer_in dialect q units a)

-- so it has the line that they answer, in each style
abbrev pub LinesOfIndex : Type 0
LinesOfIndex =
    (dialect : Dialect) (s : Strings) (table : Table) (units : List (List ℕ)) (index : List ℕ)
    → IsIndexOf table.all (id_kept table) (told_in dialect s table units) index
    → (q : Question) (style : Style) (a : Asked) → IsAskedWith q table → IsAddress a
    → index_line style index q.base a ≡ asked_line style (directory_by q.directories) s a (answer_in dialect q units a)

-- the same of the whole units of a section with damaged ones
abbrev pub AnswersOfIndexAround : Type 0
AnswersOfIndexAround =
    (dialect : Dialect) (s : Strings) (table : Table) (blocks : List Block) (index : List ℕ)
    → IsIndexOf table.all (id_kept table) (told_around dialect s table blocks) index
    → (q : Question) (a : Asked) → IsAskedWith q table → IsAddress a
    → option_map location_told (told_asked index q.base a)
    ≡ option_map (location_of (directory_by q.directories) s) (answer_around dialect q blocks a)

abbrev pub LinesOfIndexAround : Type 0
LinesOfIndexAround =
    (dialect : Dialect) (s : Strings) (table : Table) (blocks : List Block) (index : List ℕ)
    → IsIndexOf table.all (id_kept table) (told_around dialect s table blocks) index
    → (q : Question) (style : Style) (a : Asked) → IsAskedWith q table → IsAddress a
    → index_line style index q.base a
    ≡ asked_line style (directory_by q.directories) s a (answer_around dialect q blocks a)
