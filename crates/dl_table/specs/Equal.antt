-- Equality of tables, as a test. No promise rests on this file.
use Rattle.std.specs.Prelude.{Bool, false, ◌&&◌, nat_eq, ◌==◌}
use Rattle.std.specs.Cmp.Lexicographic.{pointwise}
use Rattle.dl_table.specs.declared.table.Pair.{Pair}
use Rattle.dl_table.specs.Value.{Value, text, line_str, str, str_sup, number, block, data16, form_code}
use Rattle.dl_table.specs.TableData.{TableData}
use Rattle.dl_table.specs.Built.{same_format}

abbrev pub same_value : Value → Value → Bool
same_value (text v) (text w) = pointwise nat_eq v w
same_value (line_str m) (line_str n) = m == n
same_value (str m) (str n) = m == n
same_value (str_sup m) (str_sup n) = m == n
same_value (number m) (number n) = m == n
same_value (block v) (block w) = pointwise nat_eq v w
same_value (data16 v) (data16 w) = pointwise nat_eq v w
same_value v w = false

abbrev pub same_pair : Pair → Pair → Bool
same_pair p q = (p.content == q.content) && (form_code p.form == form_code q.form)

abbrev pub same_table : TableData → TableData → Bool
same_table s t =
    same_format s.format t.format && (pointwise same_pair s.pairs t.pairs
    && pointwise (pointwise same_value) s.entries t.entries)
