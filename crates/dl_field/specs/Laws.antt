-- A law of fields.
use Rattle.std.specs.Prelude.{◌≡◌, ℕ, ◌↔◌, List}
use Rattle.dl_num.specs.declared.fixed.Order.{Order}
use Rattle.dl_table.specs.Value.{good}
use Rattle.dl_field.specs.Layout.{Layout, Item, field_spelt}
use Rattle.dl_field.specs.Field.{IsField}

-- bytes are judged a good field exactly where they are one
abbrev pub FieldIsJudged : Type 0
FieldIsJudged = (order : Order) (layout : Layout) (i : Item) (w : List ℕ)
    → IsField order layout i w ↔ (field_spelt order layout w ≡ good i)
