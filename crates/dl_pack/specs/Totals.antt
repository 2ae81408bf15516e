-- What is known of stretches before their index is written. No promise rests on this file.
use Rattle.std.specs.Prelude.{◌≡◌, ℕ, ◌<◌, min, List, [], length, Option, Some, None}
use Rattle.std.specs.List.{All}
use Rattle.dl_stretch.specs.declared.stretch.Stretch.{Stretch}
use Rattle.dl_stretch.specs.Laws.{AtAddresses}
use Rattle.dl_pack.specs.declared.columns.Column.TheVariants as kind
use Rattle.dl_pack.specs.declared.fault.PackFault.{PackFault}
use Rattle.dl_pack.specs.declared.file_order.FileOrder.{FileOrder}
use Rattle.dl_pack.specs.declared.totals.StartTotals.{StartTotals}
use Rattle.dl_pack.specs.declared.totals.RowTotals.{RowTotals}
use Rattle.dl_pack.specs.declared.totals.Totals.{Totals}
use Rattle.dl_pack.specs.Columns.{column_of, greatest}
use Rattle.dl_pack.specs.Faults.{MentionFails}
use Rattle.dl_pack.specs.IndexOf.{base_of, file_order, files_told}
use Rattle.dl_pack.specs.Mentioned.{order_of, count_of}

pub record AreStarts (t : StartTotals) (list : List Stretch) : Type 0 where
  pub count : t.count ≡ min (length list) 0xffffffffffffffff
  pub base : t.base ≡ base_of list
  pub greatest : (order : List ℕ) → t.greatest ≡ greatest (column_of (base_of list) order kind.Start list)
  pub starts : AtAddresses list

pub record AreRows (t : RowTotals) (list : List Stretch) : Type 0 where
  pub line : (base : ℕ) (order : List ℕ) → t.line ≡ greatest (column_of base order kind.Line list)
  pub column : (base : ℕ) (order : List ℕ) → t.column ≡ greatest (column_of base order kind.Column list)
  pub discriminator : (base : ℕ) (order : List ℕ)
      → t.discriminator ≡ greatest (column_of base order kind.Discriminator list)

-- the order of the files, of which those below n have a name; or why there is none
abbrev pub OrderOr : Option PackFault → (n : ℕ) → List ℕ → List Stretch → Type 0
OrderOr None n order list = (order ≡ file_order list) × All (λ file. file < n) (files_told list)
OrderOr (Some fault) n order list = MentionFails n list fault

pub record AreOrdered (n : ℕ) (t : FileOrder) (list : List Stretch) : Type 0 where
  pub count : count_of t.files ≡ n
  pub order : OrderOr t.fault n (order_of t.files) list

pub record Totalled (n : ℕ) (t : Totals) (list : List Stretch) : Type 0 where
  pub starts : AreStarts t.starts list
  pub rows : AreRows t.rows list
  pub files : AreOrdered n t.files list

abbrev pub AreTotals : (first now : Totals) → List Stretch → Type 0
AreTotals first now list = (n : ℕ) → Totalled n first [] → Totalled n now list
