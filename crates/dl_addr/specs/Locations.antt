-- What is answered for an address, and its text.
use Rattle.std.specs.Prelude.{ℕ, ◌+◌, Bool, ◌==◌, if◌then◌else◌, List, [], ◌∷◌, ◌++◌, length, Option, Some, None, codes}
use Rattle.std.specs.Prelude.{decimal, option_map}
use Rattle.std.specs.Option.{option_copied, option_map_or, option_or}
use Rattle.dl_head.specs.declared.dialect.Dialect.{Dialect}
use Rattle.dl_field.specs.HeaderData.{HeaderData}
use Rattle.dl_rows.specs.declared.row.Row.{Row}
use Rattle.dl_rows.specs.LineUnit.{unit_rows}
use Rattle.dl_look.specs.declared.place.Place.{Place}
use Rattle.dl_look.specs.LiveRows.{live_answer}
use Rattle.dl_print.specs.Digits.{hexadecimal_of}
use Rattle.dl_print.specs.Text.{line}
use Rattle.dl_print.specs.ValueText.{Strings}
use Rattle.dl_sections.specs.Section.{header_of}
use Rattle.dl_look.specs.declared.asked.Asked.{Asked}
use Rattle.dl_addr.specs.declared.location.Location as given
use Rattle.dl_addr.specs.declared.style.AnswerForm.{AnswerForm}
use Rattle.dl_addr.specs.declared.style.AnswerForm.TheVariants as forms
use Rattle.dl_addr.specs.declared.style.Style.{Style}
use Rattle.dl_addr.specs.Location.{Location, location_at}
use Rattle.dl_addr.specs.Json.{json_asked, json_row}
use Rattle.dl_path.specs.Paths.{beside_table, compiled_in, has_directory_0, path_of}
use Rattle.dl_addr.specs.Shown.{path_text}

-- ---- answers

-- the row that answers for a place, the header of its unit, and the offset of that unit
pub record Located : Type 0 where
  pub row : Row
  pub header : Option HeaderData
  pub unit : ℕ

-- of the unit u at that offset: the row of its first live rising sequence that covers x
abbrev pub located_in : Dialect → (live : ℕ → Bool) → (offset : ℕ) → List ℕ → Place → Option Located
located_in dialect live offset u x =
    option_map (λ r. record {
      row = r;
      header = header_of dialect u;
      unit =
          offset;
    }) (live_answer live (unit_rows dialect u) x)

-- of units one after the other, the first at that offset: of the first that has an answer
abbrev pub located_from : Dialect → (live : ℕ → Bool) → (offset : ℕ) → List (List ℕ) → Place → Option Located
located_from dialect live offset [] x = None
located_from dialect live offset (u ∷ units) x =
    option_or (located_in dialect live offset u x) (located_from dialect live (offset + length u) units x)

-- of the units of a section
abbrev pub located : Dialect → (live : ℕ → Bool) → List (List ℕ) → Place → Option Located
located dialect live units x = located_from dialect live 0 units x

-- ---- what is told

-- the compilation directory of the unit; directories: that of the unit at each offset
abbrev pub compilation_directory : (directories : ℕ → Option (List ℕ)) → Located → Option (List ℕ)
compilation_directory directories l = beside_table (has_directory_0 l.header) (directories l.unit)

abbrev pub location_of : (directories : ℕ → Option (List ℕ)) → Strings → Located → Location
location_of directories s l =
    location_at l.row l.unit
    (option_map (compiled_in (compilation_directory directories l)) (path_of s l.header l.row.file))

-- ---- texts

-- the column, where it isn't 0
abbrev pub column_text : ℕ → List ℕ
column_text column = if column == 0 then [] else codes ":" ++ decimal column

-- under the text of a path
abbrev pub place_text : (path : List ℕ) → Location → List ℕ
place_text path l = path ++ (codes ":" ++ decimal l.line) ++ column_text l.column

-- what is told, under the text of its path
abbrev pub row_text : AnswerForm → (path : List ℕ) → Location → List ℕ
row_text forms.Location path l = place_text path l
row_text forms.AddressAndLocation path l = place_text path l
row_text forms.Json path l = json_row path l ++ codes "}"

-- where nothing is told
abbrev pub no_row_text : AnswerForm → List ℕ
no_row_text forms.Location = codes "??:0"
no_row_text forms.AddressAndLocation = codes "??:0"
no_row_text forms.Json = codes "}"

abbrev pub location_text : Style → Option Location → List ℕ
location_text style None = no_row_text style.form
location_text style (Some l) = row_text style.form (path_text style l.path) l

-- the address as it was given; nothing of a line that is no address
abbrev pub address_text : Option ℕ → List ℕ
address_text address = option_map_or (λ n. codes "0x" ++ hexadecimal_of 16 n ++ codes " ") address []

-- what stands before the answer
abbrev pub asked_text : AnswerForm → (section : Option (List ℕ)) → Asked → List ℕ
asked_text forms.Location section a = []
asked_text forms.AddressAndLocation section a = address_text a.address
asked_text forms.Json section a = json_asked a.address section

-- the line of what is asked, where this is told of it
abbrev pub location_line : Style → Asked → Option Location → List ℕ
location_line style a location =
    line (asked_text style.form (option_copied style.section) a ++ location_text style location)

-- the line of what is asked, where this is its answer
abbrev pub asked_line : Style → (directories : ℕ → Option (List ℕ)) → Strings → Asked → Option Located → List ℕ
asked_line style directories s a answer = location_line style a (option_map (location_of directories s) answer)

-- a location that is handed in
abbrev pub location_seen : given.Location → Location
location_seen l = record {
  unit = l.unit;
  path = option_copied l.path;
  line = l.line;
  column = l.column;
  discriminator = l.discriminator;
  is_stmt = l.is_stmt;
}
