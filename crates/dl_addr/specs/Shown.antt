-- The texts of paths, as they are printed.
use Rattle.std.specs.Prelude.{ℕ, if◌then◌else◌, List, Option, Some, None, codes}
use Rattle.dl_path.specs.Shown.{basename, shown}
use Rattle.dl_addr.specs.declared.style.AnswerForm.{AnswerForm}
use Rattle.dl_addr.specs.declared.style.AnswerForm.TheVariants.{Location, AddressAndLocation, Json}
use Rattle.dl_addr.specs.declared.style.Style.{Style}
use Rattle.dl_addr.specs.Json.{json_string}

-- as the form of the line has it
abbrev pub text_in : AnswerForm → List ℕ → List ℕ
text_in Location path = shown path
text_in AddressAndLocation path = shown path
text_in Json path = json_string path

-- where no path is known
abbrev pub no_path_text : AnswerForm → List ℕ
no_path_text Location = codes "??"
no_path_text AddressAndLocation = codes "??"
no_path_text Json = codes "null"

-- of a path under its compilation directory; its last component alone, where that is asked for
abbrev pub path_text : Style → Option (List ℕ) → List ℕ
path_text style None = no_path_text style.form
path_text style (Some path) = text_in style.form (if style.basenames then basename path else path)
