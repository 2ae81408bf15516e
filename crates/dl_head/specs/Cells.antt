-- The cells of a header: pairs and values that are complete, and what has come of the next. DWARF 5, section 6.2.4.1.
use Rattle.std.specs.Prelude.{ℕ, ◌+◌, List, sum_by}
use Rattle.dl_head.specs.declared.dialect.Dialect.{Dialect}
use Rattle.dl_field.specs.Layout.{following_all}
use Rattle.dl_head.specs.HeaderLayout.{header_layout}
use Rattle.dl_head.specs.Header.{Cut, cut}
use Rattle.dl_field.specs.Cells.{item_cells, rest_cells}

abbrev pub cut_cells : Dialect → Cut → ℕ
cut_cells dialect c =
    sum_by item_cells c.items + rest_cells (following_all (header_layout dialect) c.items) c.rest

-- the cells that the header in b holds
abbrev pub cells : Dialect → List ℕ → ℕ
cells dialect b = cut_cells dialect (cut dialect b)
