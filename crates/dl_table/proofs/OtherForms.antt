-- Values that aren't of a form have no bytes in it.
use Rattle.std.proofs.Common.{◌≡◌, ℕ, false, List, [], refl, rules}
use denote.Enum.Bare.{sameb}
use Rattle.dl_num.specs.declared.fixed.Order.{Order}
use Rattle.dl_table.specs.contracts.form.Form.{the_type}
use Rattle.dl_table.specs.declared.form.Format.{Format}
use Rattle.dl_table.specs.declared.form.Form.{Form}
use Rattle.dl_table.specs.declared.form.Form.TheVariants as form
use Rattle.dl_table.specs.Value.{text, line_str, str, str_sup, data16}
use Rattle.dl_table.specs.Written.{value_bytes}

module _ (order : Order) (format : Format) where
  pub not_text : (f : Form) (w : List ℕ) → false ≡ sameb the_type f form.String
      → value_bytes order format f (text w) ≡ []
  not_text form.String w h = absurd (search rules)
  not_text f w h = refl

  pub not_line_str : (f : Form) (n : ℕ) → false ≡ sameb the_type f form.LineStrp
      → value_bytes order format f (line_str n) ≡ []
  not_line_str form.LineStrp n h = absurd (search rules)
  not_line_str f n h = refl

  pub not_str : (f : Form) (n : ℕ) → false ≡ sameb the_type f form.Strp
      → value_bytes order format f (str n) ≡ []
  not_str form.Strp n h = absurd (search rules)
  not_str f n h = refl

  pub not_str_sup : (f : Form) (n : ℕ) → false ≡ sameb the_type f form.StrpSup
      → value_bytes order format f (str_sup n) ≡ []
  not_str_sup form.StrpSup n h = absurd (search rules)
  not_str_sup f n h = refl

  pub not_data16 : (f : Form) (w : List ℕ) → false ≡ sameb the_type f form.Data16
      → value_bytes order format f (data16 w) ≡ []
  not_data16 form.Data16 w h = absurd (search rules)
  not_data16 f w h = refl
