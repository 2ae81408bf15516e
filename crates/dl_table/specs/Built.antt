-- Which tables can be built, and what is wrong with the others. DWARF 5, sections 6.2.4, 7.4 and 7.5.
use Rattle.std.specs.Prelude.{◌≡◌, ℕ, ◌+◌, ◌^◌, Bool, true, false, not, List, [], ◌∷◌, length, Option, Some, None}
use Rattle.std.specs.Prelude.{Result, Err, IfErr, nat_lt, ◌==◌, if◌then◌else◌}
use Rattle.std.specs.List.{list_all}
use Rattle.std.specs.Option.{option_map}
use Rattle.dl_table.specs.declared.form.Format.{Format}
use Rattle.dl_table.specs.declared.form.Format.TheVariants.{Dwarf32, Dwarf64}
use Rattle.dl_table.specs.declared.form.Form.{Form}
use Rattle.dl_table.specs.declared.form.Form.TheVariants as form
use Rattle.dl_table.specs.declared.table.Pair.{Pair}
use Rattle.dl_table.specs.declared.fault.BuildFault.{BuildFault}
use Rattle.dl_table.specs.declared.fault.BuildFault.TheVariants as build
use Rattle.dl_table.specs.Value.{Value, text, line_str, str, str_sup, number, block, data16}
use Rattle.dl_table.specs.TableData.{TableData}

-- the offset is one of the format, section 7.4
abbrev pub fits_offset : Format → ℕ → Bool
fits_offset Dwarf32 n = nat_lt n (2 ^ 32)
fits_offset Dwarf64 n = nat_lt n (2 ^ 64)

-- the value is one of the form, sections 7.5.5 and 7.5.6
abbrev pub fits_form : Format → Form → Value → Bool
fits_form format form.Block2 (block w) = nat_lt (length w) (2 ^ 16)
fits_form format form.Block4 (block w) = nat_lt (length w) (2 ^ 32)
fits_form format form.Data2 (number n) = nat_lt n (2 ^ 16)
fits_form format form.Data4 (number n) = nat_lt n (2 ^ 32)
fits_form format form.Data8 (number n) = nat_lt n (2 ^ 64)
fits_form format form.String (text w) = list_all (λ b. not (b == 0)) w
fits_form format form.Block (block w) = nat_lt (length w) (2 ^ 64)
fits_form format form.Block1 (block w) = nat_lt (length w) (2 ^ 8)
fits_form format form.Data1 (number n) = nat_lt n (2 ^ 8)
fits_form format form.Strp (str n) = fits_offset format n
fits_form format form.Udata (number n) = nat_lt n (2 ^ 64)
fits_form format form.StrpSup (str_sup n) = fits_offset format n
fits_form format form.Data16 (data16 w) = length w == 16
fits_form format form.LineStrp (line_str n) = fits_offset format n
fits_form format f v = false

-- the least place, counted from i on, at which a value is missing, is too many or isn't one of its pair's form
abbrev pub wrong_value : Format → ℕ → List Pair → List Value → Option ℕ
wrong_value format i [] [] = None
wrong_value format i [] (v ∷ values) = Some i
wrong_value format i (p ∷ pairs) [] = Some i
wrong_value format i (p ∷ pairs) (v ∷ values) =
    if fits_form format p.form v then wrong_value format (i + 1) pairs values else Some i

abbrev pub entry_fault_of : List Pair → Option ℕ → Option BuildFault
entry_fault_of [] place = Some build.EmptyFormat
entry_fault_of (p ∷ pairs) place = option_map build.WrongValue place

-- why a table doesn't take an entry of these values
abbrev pub entry_fault : TableData → List Value → Option BuildFault
entry_fault t values = entry_fault_of t.pairs (wrong_value t.format 0 t.pairs values)

-- why there is no table of these pairs
abbrev pub format_fault : List Pair → Option BuildFault
format_fault pairs = if nat_lt 255 (length pairs) then Some build.TooManyFormats else None

-- the fault is answered where there is one, and else nothing but want of memory is
abbrev pub Refuses : {A : Type 0} → Option BuildFault → Result A BuildFault → Type 0
Refuses (Some fault) result = result ≡ Err fault
Refuses None result = IfErr result (λ fault. fault ≡ build.NoMemory)

abbrev pub same_format : Format → Format → Bool
same_format Dwarf32 Dwarf32 = true
same_format Dwarf64 Dwarf64 = true
same_format f g = false
