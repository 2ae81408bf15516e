-- The columns and bits of an index, of stretches of which the totals are known.
use Rattle.std.proofs.Common.{◌≡◌, ℕ, ◌<◌, ◌^◌, List, [], ◌∷◌, ◌++◌, length, map, Option, Some, None}
use Rattle.std.proofs.Common.{arith, sym, ap, ap₂, subst, ◌∙◌}
use Rattle.std.specs.List.{All, flat_map}
use Rattle.std.proofs.lemmas.List.Elements.{All-nil, All-cons}
use Rattle.dl_index.specs.Columns.{size_of}
use Rattle.dl_stretch.specs.declared.stretch.Stretch.{Stretch}
use Rattle.dl_pack.specs.declared.columns.Column.{Column}
use Rattle.dl_pack.specs.declared.columns.Column.TheVariants as kind
use Rattle.dl_pack.specs.declared.fault.PackFault.{PackFault}
use Rattle.dl_pack.specs.declared.totals.Totals.{Totals}
use Rattle.dl_pack.specs.declared.writer.ColumnWriter.{ColumnWriter}
use Rattle.dl_pack.specs.Columns.{column_of, columns_of, greatest, least_size, padded, part_by, width_by, statement_bytes}
use Rattle.dl_pack.specs.Fits.{NumbersFit}
use Rattle.dl_pack.specs.IndexOf.{base_of, file_order, files_told}
use Rattle.dl_pack.specs.Mentioned.{order_of}
use Rattle.dl_pack.specs.Totals.{OrderOr, Totalled}
use Rattle.dl_pack.specs.Writing.{HasWidths, TotalsFit, Written}
use Rattle.dl_pack.proofs.TotalLemmas.{file_greatest}
use Rattle.dl_pack.proofs.WriterLemmas.{all_laid}

order_is : (o : Option PackFault) (n : ℕ) (order : List ℕ) (list : List Stretch) → o ≡ None → OrderOr o n order list
    → order ≡ file_order list
order_is None n order list none h = h.0
order_is (Some f) n order list none h = cc

named_are : (o : Option PackFault) (n : ℕ) (order : List ℕ) (list : List Stretch) → o ≡ None → OrderOr o n order list
    → All (λ file. file < n) (files_told list)
named_are None n order list none h = h.1
named_are (Some f) n order list none h = cc

module _ (t : Totals) (n : ℕ) (list : List Stretch) (all : Totalled n t list) (good : t.files.fault ≡ None) where
  abbrev order : List ℕ
  order = order_of t.files.files

  abbrev base : ℕ
  base = base_of list

  pub ordered : order ≡ file_order list
  ordered = order_is t.files.fault n order list good all.files.order

  pub all_named : All (λ file. file < n) (files_told list)
  all_named = named_are t.files.fault n order list good all.files.order

  pub counted : t.starts.count < 0xffffffffffffffff → t.starts.count ≡ length list
  counted few = (let h = all.starts.count in omega (arith, h, few))

  pub high_start : t.starts.greatest ≡ greatest (column_of base order kind.Start list)
  high_start = all.starts.greatest order

  pub high_file : length order ≡ greatest (column_of base order kind.File list)
  high_file =
      ap length ordered ∙ sym (file_greatest base list)
      ∙ ap (λ o. greatest (column_of base o kind.File list)) (sym ordered)

  pub high_line : t.rows.line ≡ greatest (column_of base order kind.Line list)
  high_line = all.rows.line base order

  pub high_column : t.rows.column ≡ greatest (column_of base order kind.Column list)
  high_column = all.rows.column base order

  pub high_discriminator : t.rows.discriminator ≡ greatest (column_of base order kind.Discriminator list)
  high_discriminator = all.rows.discriminator base order

  pub numbers_fit : TotalsFit t → NumbersFit base order list
  numbers_fit fit =
      let P : Column → Type 0 = λ kind. greatest (column_of base order kind list) < 2 ^ 64 in
      All-cons P kind.Start (kind.File ∷ kind.Line ∷ kind.Column ∷ kind.Discriminator ∷ [])
      (subst (λ m. m < 2 ^ 64) high_start fit.start)
      (All-cons P kind.File (kind.Line ∷ kind.Column ∷ kind.Discriminator ∷ []) (subst (λ m. m < 2 ^ 64) high_file fit.file)
      (All-cons P kind.Line (kind.Column ∷ kind.Discriminator ∷ []) (subst (λ m. m < 2 ^ 64) high_line fit.line)
      (All-cons P kind.Column (kind.Discriminator ∷ []) (subst (λ m. m < 2 ^ 64) high_column fit.column)
      (All-cons P kind.Discriminator [] (subst (λ m. m < 2 ^ 64) high_discriminator fit.discriminator) (All-nil P)))))

  module _ (first : ColumnWriter) (widths : HasWidths first t) where
    pub w_start : size_of first.start.width ≡ width_by base order list kind.Start
    w_start = widths.start ∙ ap least_size high_start

    pub w_file : size_of first.file.width ≡ width_by base order list kind.File
    w_file = widths.file ∙ ap least_size high_file

    pub w_line : size_of first.line.width ≡ width_by base order list kind.Line
    w_line = widths.line ∙ ap least_size high_line

    pub w_column : size_of first.column.width ≡ width_by base order list kind.Column
    w_column = widths.column ∙ ap least_size high_column

    pub w_discriminator : size_of first.discriminator.width ≡ width_by base order list kind.Discriminator
    w_discriminator = widths.discriminator ∙ ap least_size high_discriminator

    module _ (now : ColumnWriter) (front : List ℕ) (base_is : first.base ≡ t.starts.base)
        (files_is : first.files.now ≡ t.files.files) (few : t.starts.count < 0xffffffffffffffff)
        (w : Written first now front t.starts.count list) where
      pub put_all : now.bytes.items
          ≡ front ++ (flat_map padded (map (part_by base order list) columns_of) ++ padded (statement_bytes list))
      put_all =
          w.bytes ∙ all_laid first base order list (base_is ∙ all.starts.base) (ap order_of files_is) front t.starts.count
          (counted few) w_start w_file w_line w_column w_discriminator

      pub widths_all : size_of now.start.width ∷ size_of now.file.width ∷ size_of now.line.width ∷ size_of now.column.width
          ∷ size_of now.discriminator.width ∷ [] ≡ map (width_by base order list) columns_of
      widths_all =
          ap₂ (λ a b. a ∷ b ∷ size_of now.line.width ∷ size_of now.column.width ∷ size_of now.discriminator.width ∷ [])
          (ap size_of w.start.0 ∙ w_start) (ap size_of w.file.0 ∙ w_file)
          ∙ ap₂ (λ a b. width_by base order list kind.Start ∷ width_by base order list kind.File ∷ a ∷ b
          ∷ size_of now.discriminator.width ∷ []) (ap size_of w.line.0 ∙ w_line) (ap size_of w.column.0 ∙ w_column)
          ∙ ap (λ a. width_by base order list kind.Start ∷ width_by base order list kind.File
          ∷ width_by base order list kind.Line ∷ width_by base order list kind.Column ∷ a ∷ [])
          (ap size_of w.discriminator.0 ∙ w_discriminator)
