-- The one spelling in which a table is written: shortest numbers. DWARF 5, section 6.2.4.1.
use Rattle.std.specs.Prelude.{ℕ, List, [], ◌∷◌, ◌++◌, length, flat_map}
use Rattle.dl_num.specs.declared.fixed.Order.{Order}
use Rattle.dl_num.specs.Fixed.{fixed_bytes}
use Rattle.dl_num.specs.Shortest.{shortest_uleb}
use Rattle.dl_table.specs.declared.form.Format.{Format}
use Rattle.dl_table.specs.declared.form.Form.{Form}
use Rattle.dl_table.specs.declared.form.Form.TheVariants as form
use Rattle.dl_table.specs.declared.table.Pair.{Pair}
use Rattle.dl_table.specs.TableData.{TableData}
use Rattle.dl_table.specs.Value.{Value, text, line_str, str, str_sup, number, block, data16, form_code, offset_size}

-- a value in its form; nothing for a value that isn't one of the form
abbrev pub value_bytes : Order → Format → Form → Value → List ℕ
value_bytes order format form.Block2 (block w) = fixed_bytes order 2 (length w) ++ w
value_bytes order format form.Block4 (block w) = fixed_bytes order 4 (length w) ++ w
value_bytes order format form.Data2 (number n) = fixed_bytes order 2 n
value_bytes order format form.Data4 (number n) = fixed_bytes order 4 n
value_bytes order format form.Data8 (number n) = fixed_bytes order 8 n
value_bytes order format form.String (text w) = w ++ 0 ∷ []
value_bytes order format form.Block (block w) = shortest_uleb (length w) ++ w
value_bytes order format form.Block1 (block w) = fixed_bytes order 1 (length w) ++ w
value_bytes order format form.Data1 (number n) = fixed_bytes order 1 n
value_bytes order format form.Strp (str n) = fixed_bytes order (offset_size format) n
value_bytes order format form.Udata (number n) = shortest_uleb n
value_bytes order format form.StrpSup (str_sup n) = fixed_bytes order (offset_size format) n
value_bytes order format form.Data16 (data16 w) = w
value_bytes order format form.LineStrp (line_str n) = fixed_bytes order (offset_size format) n
value_bytes order format f v = []

abbrev pub pair_bytes : Pair → List ℕ
pair_bytes p = shortest_uleb p.content ++ shortest_uleb (form_code p.form)

-- the values of an entry, each in the form of its pair
abbrev pub entry_bytes : Order → Format → List Pair → List Value → List ℕ
entry_bytes order format [] values = []
entry_bytes order format (p ∷ pairs) [] = []
entry_bytes order format (p ∷ pairs) (v ∷ values) =
    value_bytes order format p.form v ++ entry_bytes order format pairs values

-- the count of the pairs, the pairs, the count of the entries, the entries
abbrev pub table_bytes : Order → TableData → List ℕ
table_bytes order t =
    length t.pairs ∷ flat_map pair_bytes t.pairs
    ++ shortest_uleb (length t.entries) ++ flat_map (λ values. entry_bytes order t.format t.pairs values) t.entries
