-- What is told of an address, with its path in one text.
use Rattle.std.proofs.Common.{◌≡◌, ◌∙◌, ℕ, List, [], ◌∷◌, ◌++◌, Option, Some, None, refl, ap, ap₂}
use Rattle.std.specs.Prelude.{if◌then◌else◌, option_map, unwrap_or}
use Rattle.std.specs.Option.{option_copied}
use Rattle.dl_look.specs.declared.asked.Asked.{Asked}
use Rattle.dl_path.specs.Shown.{basename}
use Rattle.dl_print.specs.Text.{line}
use Rattle.dl_addr.specs.declared.kept.KeptPath.{KeptPath}
use Rattle.dl_addr.specs.declared.kept.PathUnit.{PathUnit}
use Rattle.dl_addr.specs.declared.location.Location as given
use Rattle.dl_addr.specs.declared.style.AnswerForm.{AnswerForm}
use Rattle.dl_addr.specs.declared.style.AnswerForm.TheVariants as forms
use Rattle.dl_addr.specs.declared.style.Style.{Style}
use Rattle.dl_addr.specs.Location.{Location}
use Rattle.dl_addr.specs.Locations.{asked_text, location_line, location_seen, row_text}
use Rattle.dl_addr.specs.Printing.{named_text, seen_line}
use Rattle.dl_addr.specs.Shown.{path_text}
use Rattle.dl_addr.specs.Texts.{path_at, path_kept, rooted}

-- what is found by the numbers of the file
pub kept_is : (p : KeptPath) → path_kept p ≡ option_map (rooted (option_copied p.root)) (path_at p.texts.now p.file.now)
unfolding path_kept
kept_is p = refl

-- the path of a file of one text, or of none
abbrev path_by : PathUnit → List ℕ → Option ℕ → Option (List ℕ)
path_by unit text name =
    option_map (rooted None)
    (path_at (text ∷ []) (record { unit = unit; base = None; directory = None; name = name }))

pub one_text : (unit : PathUnit) (path : Option (List ℕ)) (text : List ℕ) (name : Option ℕ) → text ≡ unwrap_or path []
    → name ≡ option_map (λ w. 0) path → path_by unit text name ≡ path
one_text unit path text name is number = ap₂ (path_by unit) is number ∙ by path where
  by : (path : Option (List ℕ)) → path_by unit (unwrap_or path []) (option_map (λ w. 0) path) ≡ path
  by None = refl
  by (Some w) = refl

-- a location, with its path as it is printed
abbrev pub printed_at : given.Location → Option (List ℕ) → Location
printed_at l path = record {
  unit = l.unit;
  path = path;
  line = l.line;
  column = l.column;
  discriminator = l.discriminator;
  is_stmt = l.is_stmt;
}

same_row : (form : AnswerForm) (text : List ℕ) (l : given.Location) (path : Option (List ℕ))
    → row_text form text (printed_at l path) ≡ row_text form text (location_seen l)
same_row forms.Location text l path = refl
same_row forms.AddressAndLocation text l path = refl
same_row forms.Json text l path = refl

path_is : (style : Style) (path : Option (List ℕ))
    → named_text style.form (option_map (λ p. if style.basenames then basename p else p) path) ≡ path_text style path
path_is style None = refl
path_is style (Some path) = refl

-- its line
pub told_line : (style : Style) (a : Asked) (l : given.Location) (path : Option (List ℕ))
    → path ≡ option_map (λ p. if style.basenames then basename p else p) (option_copied l.path)
    → seen_line style a (Some (printed_at l path)) ≡ location_line style a (Some (location_seen l))
told_line style a l path is =
    ap (λ (t : List ℕ). line (asked_text style.form (option_copied style.section) a ++ t))
    (ap (λ (w : List ℕ). row_text style.form w (printed_at l path))
    (ap (named_text style.form) is ∙ path_is style (option_copied l.path))
    ∙ same_row style.form (path_text style (option_copied l.path)) l path)
