-- The text of an entry's DW_AT_comp_dir has no more bytes than the entry. size: how many bytes a text has that stands in its
-- entry.
use Rattle.std.proofs.Common.{◌≡◌, ℕ, ◌+◌, ◌≤◌, Bool, true, false, cond, List, [], ◌∷◌, ◌++◌, length, Option, Some, None}
use Rattle.std.proofs.Common.{ap, arith, length-append}
use Rattle.std.specs.Prelude.{◌==◌, option_map}
use Rattle.std.specs.Option.{option_map_or, option_or}
use Rattle.dl_num.specs.declared.fixed.Order.{Order}
use Rattle.dl_info.specs.declared.abbreviation.Attribute.{Attribute}
use Rattle.dl_info.specs.declared.form.Encoding.{Encoding}
use Rattle.dl_info.specs.declared.form.Shape.{Shape}
use Rattle.dl_info.specs.declared.form.Shape.TheVariants as shape
use Rattle.dl_info.specs.Entries.{EntryData, TextData, here, str, line_str, index, number_in, offset_in, text_in, value_of}
use Rattle.dl_info.specs.Entries.{with_value, without_values}
use Rattle.dl_info.specs.Forms.{Told, is_among, shape_of}
use Rattle.dl_info.specs.Front.{uleb_at}
use Rattle.dl_info.specs.Grammar.{AreValues, Done, IsDirect, IsEntry, IsIndirect, IsLebSized, IsShaped, IsSized, IsValue}
use Rattle.dl_info.specs.Grammar.{Known, Never, Then, Which}

-- ---- values

sized : (order : Order) (k : ℕ) (bytes w : List ℕ) → IsSized order k bytes w → length bytes ≤ length w
sized order k bytes w is = omega (arith, ap length is.3, length-append is.1 is.2, ap length is.5.0)

leb_sized : (bytes w : List ℕ) → IsLebSized bytes w → length bytes ≤ length w
leb_sized bytes w is = omega (arith, ap length is.3, length-append is.1 is.2, ap length is.5.0)

shaped : (order : Order) (s : Shape) (bytes w : List ℕ) → IsShaped order s bytes w → length bytes ≤ length w
shaped order (shape.Bytes n) bytes w is = omega (arith, ap length is.0)
shaped order shape.Leb bytes w is = omega (arith, ap length is.0)
shaped order shape.Text bytes w is = omega (arith, ap length is.0, length-append bytes (0 ∷ []))
shaped order shape.Block1 bytes w is = sized order 1 bytes w is
shaped order shape.Block2 bytes w is = sized order 2 bytes w is
shaped order shape.Block4 bytes w is = sized order 4 bytes w is
shaped order shape.Block bytes w is = leb_sized bytes w is

direct : (e : Encoding) (form : ℕ) (v : Told) (w : List ℕ) → IsDirect e form v w → length v.bytes ≤ length w
direct e form v w is = by (shape_of e form) is where
  by : (s : Option Shape)
      → Known s (λ s. Then (IsShaped e.order s) λ bytes. Done (record { form = form; bytes = bytes })) v w
      → length v.bytes ≤ length w
  by (Some s) is =
      let few = shaped e.order s is.0 is.1 is.4 in
      let same : length v.bytes ≡ length is.0 = ap (λ (t : Told). length t.bytes) is.5.0 in
      omega (arith, few, same, ap length is.3, length-append is.1 is.2)
  by None is = absurd is

indirect : (e : Encoding) (v : Told) (w : List ℕ) → IsIndirect e v w → length v.bytes ≤ length w
indirect e v w is = by (is.0 == 0x21) is.5 where
  by : (t : Bool) → Which t Never (IsDirect e is.0) v is.2 → length v.bytes ≤ length w
  by true never = absurd never
  by false told = omega (arith, direct e is.0 v is.2 told, ap length is.3, length-append is.1 is.2)

value : (e : Encoding) (form : ℕ) (v : Told) (w : List ℕ) → IsValue e form v w → length v.bytes ≤ length w
value e form v w is = by (form == 0x16) is where
  by : (t : Bool) → Which t (IsIndirect e) (IsDirect e form) v w → length v.bytes ≤ length w
  by true is = indirect e v w is
  by false is = direct e form v w is

-- ---- what an entry says

module _ (size : TextData → ℕ) (of_here : (w : List ℕ) → size (here w) ≤ length w) (of_str : (n : ℕ) → size (str n) ≡ 0)
    (of_line_str : (n : ℕ) → size (line_str n) ≡ 0) (of_index : (n : ℕ) → size (index n) ≡ 0) where
  abbrev pub said : EntryData → ℕ
  said e = option_map_or size e.comp_dir 0

  no_text : (make : ℕ → TextData) (n : ℕ) (o : Option ℕ) → ((m : ℕ) → size (make m) ≡ 0)
      → option_map_or size (option_map make o) 0 ≤ n
  no_text make n None none = omega arith
  no_text make n (Some m) none = omega (arith, none m)

  text_told : (order : Order) (v : Told) → option_map_or size (text_in order v) 0 ≤ length v.bytes
  text_told order v =
      by (v.form == 0x08) (v.form == 0x0e) (v.form == 0x1f) (v.form == 0x1a) (is_among (0x25 ∷ 0x26 ∷ 0x27 ∷ 0x28 ∷ []) v.form)
    where
      n : Option ℕ
      n = number_in order v.bytes

      by : (a b c d e : Bool) → option_map_or size (cond a (Some (here v.bytes)) (cond b (option_map str n)
          (cond c (option_map line_str n) (cond d (option_map index (value_of (uleb_at v.bytes)))
          (cond e (option_map index n) None))))) 0 ≤ length v.bytes
      by true b c d e = of_here v.bytes
      by false true c d e = no_text str (length v.bytes) n of_str
      by false false true d e = no_text line_str (length v.bytes) n of_line_str
      by false false false true e = no_text index (length v.bytes) (value_of (uleb_at v.bytes)) of_index
      by false false false false true = no_text index (length v.bytes) n of_index
      by false false false false false = omega arith

  -- with a value more
  given : (order : Order) (name : ℕ) (v : Told) (e : EntryData)
      → said (with_value order name v e) ≤ said e + length v.bytes
  given order name v e = by (name == 0x10) (name == 0x1b) (name == 0x72) where
    directory : (d : Option TextData) → option_map_or size (option_or d (text_in order v)) 0
        ≤ option_map_or size d 0 + length v.bytes
    directory (Some t) = omega arith
    directory None = omega (arith, text_told order v)

    by : (a b c : Bool) → said (cond a (record e { stmt_list = option_or e.stmt_list (offset_in order v) })
        (cond b (record e { comp_dir = option_or e.comp_dir (text_in order v) })
        (cond c (record e { str_offsets_base = option_or e.str_offsets_base (offset_in order v) }) e)))
        ≤ said e + length v.bytes
    by true b c = omega arith
    by false true c = directory e.comp_dir
    by false false true = omega arith
    by false false false = omega arith

  values : (encoding : Encoding) (attributes : List Attribute) (told e : EntryData) (w : List ℕ)
      → AreValues encoding attributes told e w → said e ≤ said told + length w
  values encoding [] told e w is = omega (arith, ap said is.0)
  values encoding (a ∷ attributes) told e w is =
      omega (
        arith,
        value encoding a.form is.0 is.1 is.4,
        given encoding.order a.name is.0 told,
        values encoding attributes (with_value encoding.order a.name is.0 told) e is.2 is.5,
        ap length is.3,
        length-append is.1 is.2,
      )

  pub entry_size : (order : Order) (abbreviations : List ℕ) (e : EntryData) (w : List ℕ) → IsEntry order abbreviations e w
      → said e ≤ length w
  entry_size order abbreviations e w is =
      let few = values is.0.encoding is.5.5.1 (without_values is.0.encoding.format) e is.5.2 is.5.5.3 in
      omega (arith, few, ap length is.3, length-append is.1 is.2, ap length is.5.3, length-append is.5.1 is.5.2)
