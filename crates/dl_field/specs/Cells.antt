-- The cells that a field holds: a pair or a value that is complete, and what has come of one. DWARF 5, section 6.2.4.1.
use Rattle.std.specs.Prelude.{ℕ, ◌+◌, ◌-◌, ◌^◌, ◌&&◌, List, length, nat_lt, nat_le, if◌then◌else◌}
use Rattle.dl_num.specs.Leb.{groups}
use Rattle.dl_num.specs.LebFront.{is_leb, leb_front, after_leb}
use Rattle.dl_table.specs.declared.form.Form.{Form}
use Rattle.dl_table.specs.declared.form.Form.TheVariants as form
use Rattle.dl_table.specs.TableCells.{value_cells}
use Rattle.dl_field.specs.Layout.{Layout, value_then, path_or_end, Item, length_is, number_is, form_is}
use Rattle.dl_field.specs.Layout.{value_is, end_is}

-- a pair counts with its form code, those of a table of versions 2 to 4 with its end
abbrev pub item_cells : Item → ℕ
item_cells (length_is format n) = 0
item_cells (number_is n) = 0
item_cells (form_is f) = 1
item_cells (value_is v) = value_cells v
item_cells (end_is n) = n

-- a block counts from its length on, which is k bytes
abbrev pub begun_block : ℕ → List ℕ → ℕ
begun_block k w = if nat_le k (length w) then 1 + (length w - k) else 0

-- the same, its length being a number in LEB128 below 2^64
abbrev pub begun_leb_block : List ℕ → ℕ
begun_leb_block w = if is_leb (leb_front w) && nat_lt (groups (leb_front w)) (2 ^ 64) then 1 + length (after_leb w)
    else 0

-- what the first bytes of a value hold, as long as it isn't complete
abbrev pub begun_cells : Form → List ℕ → ℕ
begun_cells form.String w = length w
begun_cells form.Block1 w = begun_block 1 w
begun_cells form.Block2 w = begun_block 2 w
begun_cells form.Block4 w = begun_block 4 w
begun_cells form.Block w = begun_leb_block w
begun_cells other w = 0

-- what the bytes of a field that isn't complete hold
abbrev pub rest_cells : Layout → List ℕ → ℕ
rest_cells (value_then format f next) w = begun_cells f w
rest_cells (path_or_end format pairs entries next) w = length w
rest_cells layout w = 0
