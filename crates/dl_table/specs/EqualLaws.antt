-- The test of equality of tables decides it, and so is an equivalence. No promise rests on this file.
use Rattle.std.proofs.Common.{◌≡◌, Bool, List, Some, Decides, refl, sym, ap, ◌∙◌, eqb}
use Rattle.std.specs.Cmp.{IsEquivalence, decided}
use Rattle.std.specs.Cmp.Lexicographic.{pointwise}
use Rattle.std.proofs.lemmas.Slice.Eq.{bytes_eq-Decides, slice_eq-Decides}
use Rattle.std.proofs.lemmas.Bool.Decides.{Decides-eqb, Decides-and, Decides-like}
use Rattle.dl_table.specs.declared.form.Format.{Format}
use Rattle.dl_table.specs.declared.form.Format.TheVariants.{Dwarf32, Dwarf64}
use Rattle.dl_table.specs.declared.form.Form.{Form}
use Rattle.dl_table.specs.declared.form.Form.TheVariants as form
use Rattle.dl_table.specs.declared.table.Pair.{Pair}
use Rattle.dl_table.specs.Value.{Value, text, line_str, str, str_sup, number, block, data16, form_code, form_of_code}
use Rattle.dl_table.specs.TableData.{TableData}
use Rattle.dl_table.specs.Built.{same_format}
use Rattle.dl_table.specs.Equal.{same_value, same_pair, same_table}

pub lists_Decides : {A : Type 0} (E : A → A → Bool) → ((a b : A) → Decides (E a b) (a ≡ b)) → (xs ys : List A)
    → Decides (pointwise E xs ys) (xs ≡ ys)
lists_Decides E each xs ys = slice_eq-Decides each xs ys (pointwise E xs ys) refl

pub same_format-Decides : (f g : Format) → Decides (same_format f g) (f ≡ g)
same_format-Decides Dwarf32 Dwarf32 = (λ e. refl, λ e. refl)
same_format-Decides Dwarf32 Dwarf64 = (λ e. cc, λ e. cc)
same_format-Decides Dwarf64 Dwarf32 = (λ e. cc, λ e. cc)
same_format-Decides Dwarf64 Dwarf64 = (λ e. refl, λ e. refl)

form_again : (f : Form) → form_of_code (form_code f) ≡ Some f
form_again f = elim f as (λ g. form_of_code (form_code g) ≡ Some g) [ form.Block2 ↦ refl | _ ↦ refl ]

same_code : (f g : Form) → form_code f ≡ form_code g → f ≡ g
same_code f g e = let same : Some f ≡ Some g = sym (form_again f) ∙ ap form_of_code e ∙ form_again g in cc

pub same_pair-Decides : (p q : Pair) → Decides (same_pair p q) (p ≡ q)
same_pair-Decides p q =
    Decides-like (same_pair p q) (λ h. λ i. record { content = h.0 i; form = same_code p.form q.form h.1 i })
    (λ e. (ap (λ (r : Pair). r.content) e, ap (λ (r : Pair). form_code r.form) e))
    (Decides-and (eqb p.content q.content) (eqb (form_code p.form) (form_code q.form)) (Decides-eqb p.content q.content)
    (Decides-eqb (form_code p.form) (form_code q.form)))

pub same_value-Decides : (v w : Value) → Decides (same_value v w) (v ≡ w)
same_value-Decides (text v) (text w) = Decides-like (same_value (text v) (text w)) (λ e. ap text e) (λ e. cc)
    (bytes_eq-Decides v w)
same_value-Decides (line_str m) (line_str n) = Decides-like (eqb m n) (λ e. ap line_str e) (λ e. cc) (Decides-eqb m n)
same_value-Decides (str m) (str n) = Decides-like (eqb m n) (λ e. ap str e) (λ e. cc) (Decides-eqb m n)
same_value-Decides (str_sup m) (str_sup n) = Decides-like (eqb m n) (λ e. ap str_sup e) (λ e. cc) (Decides-eqb m n)
same_value-Decides (number m) (number n) = Decides-like (eqb m n) (λ e. ap number e) (λ e. cc) (Decides-eqb m n)
same_value-Decides (block v) (block w) = Decides-like (same_value (block v) (block w)) (λ e. ap block e) (λ e. cc)
    (bytes_eq-Decides v w)
same_value-Decides (data16 v) (data16 w) = Decides-like (same_value (data16 v) (data16 w)) (λ e. ap data16 e) (λ e. cc)
    (bytes_eq-Decides v w)
same_value-Decides v w = (λ e. cc, λ e. cc)

pub same_table-Decides : (s t : TableData) → Decides (same_table s t) (s ≡ t)
same_table-Decides s t =
    let entries = lists_Decides (pointwise same_value) (lists_Decides same_value same_value-Decides) s.entries
    t.entries in
    let pairs = lists_Decides same_pair same_pair-Decides s.pairs t.pairs in
    Decides-like (same_table s t) (λ h. λ i. record { format = h.0 i; pairs = h.1.0 i; entries = h.1.1 i })
    (λ e. (
      ap (λ (u : TableData). u.format) e,
      (ap (λ (u : TableData). u.pairs) e, ap (λ (u : TableData). u.entries) e),
    ))
    (Decides-and (same_format s.format t.format) _ (same_format-Decides s.format t.format)
    (Decides-and (pointwise same_pair s.pairs t.pairs) (pointwise (pointwise same_value) s.entries t.entries) pairs
    entries))

pub same_table-laws : IsEquivalence same_table
same_table-laws = decided same_table same_table-Decides
