-- The tables of version 5 that are made of older ones, entry by entry.
use Rattle.std.proofs.Common.{◌≡◌, ℕ, zero, suc, ◌+◌, ◌^◌, ◌<◌, Bool, true, false, cond, eqb, List, [], ◌∷◌, ◌++◌}
use Rattle.std.proofs.Common.{take, drop, slice_get, Option, Some, None, option_map, refl, sym, ap, subst, ◌∙◌, arith}
use Rattle.std.specs.Prelude.{unwrap_or}
use Rattle.std.specs.List.{AllByRecursion, list_any}
use Rattle.std.proofs.lemmas.Bool.{eq-eqb, eqb-true, lt-ltb, ne_eqb}
use Rattle.std.proofs.lemmas.List.{drop_more, take_more}
use Rattle.std.proofs.lemmas.Option.{get_or_from_slice_get, slice_get_within}
use Rattle.dl_table.specs.declared.form.Format.{Format}
use Rattle.dl_table.specs.declared.form.Form.{Form}
use Rattle.dl_table.specs.declared.form.Form.TheVariants as form
use Rattle.dl_table.specs.declared.table.Pair.{Pair}
use Rattle.dl_table.specs.Built.{entry_fault, entry_fault_of, fits_form, wrong_value}
use Rattle.dl_table.specs.EntryData.{value_of, with_content}
use Rattle.dl_table.specs.TableData.{TableData}
use Rattle.dl_table.specs.Text.{text_in}
use Rattle.dl_table.specs.Value.{Value, text, line_str, str, str_sup, number, block, data16}
use Rattle.dl_field.specs.declared.params.Params.{Params}
use Rattle.dl_field.specs.HeaderData.{HeaderData}
use Rattle.dl_head.specs.Built.{param_fault}
use Rattle.dl_head.specs.Sound.{IsSoundHeader}
use Rattle.dl_head.proofs.HeaderSound.{all_good, no_fault, one_operation}
use Rattle.dl_emit.specs.Conversion.{before_zero, file_pairs, kept_numbers, path_in, path_pair, text_or_empty}
use Rattle.dl_emit.specs.Conversion.{has_number, new_directories, new_files, number_in, to_version_5, version_5_params}
use Rattle.dl_emit.specs.Texts.{IsText}

-- ---- entries one after the other

module _ {A : Type 0} (xs : List A) (i : ℕ) (x : A) (here : slice_get xs i ≡ Some x) where
  pub take_one : take (i + 1) xs ≡ take i xs ++ x ∷ []
  take_one =
      take_more xs i x (slice_get_within xs i x here)
      ∙ ap (λ (y : A). take i xs ++ y ∷ []) (get_or_from_slice_get xs i x x here)

  pub drop_one : drop i xs ≡ x ∷ drop (i + 1) xs
  drop_one =
      drop_more xs i x (slice_get_within xs i x here)
      ∙ ap (λ (y : A). y ∷ drop (i + 1) xs) (get_or_from_slice_get xs i x x here)

-- ---- texts

text_front : (b : ℕ) (w : List ℕ) (z : Bool) → eqb b 0 ≡ z → (o : Option (List ℕ)) → IsText (unwrap_or o w)
    → IsText (unwrap_or (cond z (Some []) (option_map (λ t. b ∷ t) o)) (b ∷ w))
text_front b w true e o h = refl
text_front b w false e (Some t) h = rw (e, h) refl
text_front b w false e None h = rw (e, h) refl

-- no byte before the first zero byte is zero
pub before_zero_text : (w : List ℕ) → IsText (before_zero w)
before_zero_text [] = refl
before_zero_text (b ∷ w) = text_front b w (eqb b 0) refl (text_in w) (before_zero_text w)

-- so the text that was found is one, or all bytes where there is none
pub found_text : (w t : List ℕ) → Some t ≡ text_in w → IsText t
found_text w t e = subst IsText (ap (λ (o : Option (List ℕ)). unwrap_or o w) (sym e)) (before_zero_text w)

pub all_text : (w : List ℕ) → None ≡ text_in w → IsText w
all_text w e = subst IsText (ap (λ (o : Option (List ℕ)). unwrap_or o w) (sym e)) (before_zero_text w)

-- a text that has a form has no zero byte
value_text : (format : Format) (f : Form) (v : Value) → fits_form format f v ≡ true → IsText (text_or_empty (Some v))
value_text format form.String (text w) fits = fits
value_text format f (line_str n) fits = refl
value_text format f (str n) fits = refl
value_text format f (str_sup n) fits = refl
value_text format f (number n) fits = refl
value_text format f (block w) fits = refl
value_text format f (data16 w) fits = refl
value_text format f (text w) fits = absurd cc

pub path_text : (format : Format) (i : ℕ) (pairs : List Pair) (values : List Value)
    → wrong_value format i pairs values ≡ None → IsText (path_in (with_content pairs values))
path_text format i [] values right = refl
path_text format i (p ∷ pairs) [] right = refl
path_text format i (p ∷ pairs) (v ∷ values) right =
    by (fits_form format p.form v) refl right (eqb p.content 1) (path_text format (i + 1) pairs values) where
      by : (fits : Bool) → fits_form format p.form v ≡ fits
          → cond fits (wrong_value format (i + 1) pairs values) (Some i) ≡ None → (first : Bool)
          → (wrong_value format (i + 1) pairs values ≡ None → IsText (path_in (with_content pairs values)))
          → IsText (text_or_empty (cond first (Some v) (value_of (with_content pairs values) 1)))
      by false e right first later = absurd cc
      by true e right true later = value_text format p.form v e
      by true e right false later = later right

pub none_some : {A : Type 0} (x : A) → Some x ≡ None → ⊥
none_some x e = cc

pub some_same : {A : Type 0} (x y : A) → Some x ≡ Some y → x ≡ y
some_same x y e = cc

pub at_place : {A : Type 0} (P : A → Type 0) (xs : List A) (i : ℕ) (x : A) → AllByRecursion P xs → slice_get xs i ≡ Some x
    → P x
at_place P [] i x all here = absurd cc
at_place P (y ∷ xs) zero x all here = subst P (some_same y x here) all.0
at_place P (y ∷ xs) (suc i) x all here = at_place P xs i x all.1 here

pub right_values : (pairs : List Pair) (o : Option ℕ) → entry_fault_of pairs o ≡ None → o ≡ None
right_values [] o e = absurd cc
right_values (p ∷ pairs) None e = refl
right_values (p ∷ pairs) (Some n) e = absurd cc

-- ---- numbers other than 0

pub has_one : (content n : ℕ) (entry : List (ℕ × Value)) → n ≡ number_in entry content → (n ≡ 0 → ⊥)
    → has_number content entry ≡ true
has_one content n entry is some = rw (ne_eqb (number_in entry content) 0 (λ z. some (is ∙ z))) refl

pub has_none : (content n : ℕ) (entry : List (ℕ × Value)) → n ≡ number_in entry content → n ≡ 0
    → has_number content entry ≡ false
has_none content n entry is none = rw (eq-eqb (number_in entry content) 0 (sym is ∙ none)) refl

module _ {A : Type 0} (p : A → Bool) (xs : List A) (i : ℕ) (x : A) (here : slice_get xs i ≡ Some x) where
  pub any_later : p x ≡ false → list_any p (drop (i + 1) xs) ≡ list_any p (drop i xs)
  any_later is = rw (drop_one xs i x here, is) refl

  pub any_here : p x ≡ true → list_any p (drop i xs) ≡ true
  any_here is = rw (drop_one xs i x here, is) refl

-- ---- the entries of a directory and of a file

pub directory_fits : (t : TableData) (path : List ℕ) → t.pairs ≡ path_pair ∷ [] → IsText path
    → entry_fault t (text path ∷ []) ≡ None
directory_fits t path pairs is = rw (pairs, is) refl

pub file_fits : (t : TableData) (times sizes : Bool) (path : List ℕ) (directory time size : ℕ)
    → t.pairs ≡ file_pairs (kept_numbers times sizes) → IsText path → directory < 2 ^ 64 → time < 2 ^ 64
    → size < 2 ^ 64 → entry_fault t (text path ∷ number directory ∷ cond times (number time ∷ []) []
    ++ cond sizes (number size ∷ []) []) ≡ None
file_fits t false false path d m n pairs is d_is m_is n_is = rw (pairs, is, lt-ltb d (2 ^ 64) d_is) refl
file_fits t true false path d m n pairs is d_is m_is n_is =
    rw (pairs, is, lt-ltb d (2 ^ 64) d_is, lt-ltb m (2 ^ 64) m_is) refl
file_fits t false true path d m n pairs is d_is m_is n_is =
    rw (pairs, is, lt-ltb d (2 ^ 64) d_is, lt-ltb n (2 ^ 64) n_is) refl
file_fits t true true path d m n pairs is d_is m_is n_is =
    rw (pairs, is, lt-ltb d (2 ^ 64) d_is, lt-ltb m (2 ^ 64) m_is, lt-ltb n (2 ^ 64) n_is) refl

-- ---- the parts make a header

pub parts_fit : (h : HeaderData) (params : Params) (directories files : TableData) → IsSoundHeader h
    → params ≡ version_5_params h.params → directories.format ≡ h.directories.format → files.format ≡ h.files.format
    → param_fault params directories files ≡ None
parts_fit h params directories files sound same d f =
    let p = h.params in
    let good = all_good p h.directories h.files sound.params in
    let operations = one_operation p.version p.maximum_operations_per_instruction good.operations in
    rw same
    (no_fault (version_5_params p) directories files refl good.address_size
    (lt-ltb 0 p.maximum_operations_per_instruction (omega (arith, operations)))
    (lt-ltb 0 p.line_range (omega (arith, good.lines))) good.opcodes good.lengths (d ∙ good.directories)
    (f ∙ good.files))

-- ---- its params

-- those of version 5, which it may have had before
pub params_are : (h : HeaderData) (directory : Option (List ℕ))
    → (to_version_5 h directory).params ≡ version_5_params h.params
params_are h directory = by (eqb h.params.version 5) refl where
  by : (b : Bool) → eqb h.params.version 5 ≡ b
      → (cond b h (record {
        params = version_5_params h.params;
        directories = new_directories directory h.directories;
        files = new_files h.files;
      })).params ≡ version_5_params h.params
  by true e = ap (λ (v : ℕ). record (h.params) { version = v }) (eqb-true h.params.version 5 e)
  by false e = refl
