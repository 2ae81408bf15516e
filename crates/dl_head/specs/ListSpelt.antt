-- What the reader of an older table has taken: fields, and bytes of the next one. No promise rests on this file.
use Rattle.std.specs.Prelude.{[]}
use Rattle.dl_num.specs.declared.fixed.Order.TheVariants.{Little}
use Rattle.dl_table.specs.declared.form.Format.{Format}
use Rattle.dl_field.specs.declared.list_reader.ListKind.{ListKind}
use Rattle.dl_field.specs.declared.list_reader.ListReader.{ListReader}
use Rattle.dl_field.specs.Layout.{Layout, path_or_end}
use Rattle.dl_field.specs.ListStep.{listed}
use Rattle.dl_field.specs.ListPlace.{AmongList}
use Rattle.dl_head.specs.TableSpelt.{alone, Spelt}

-- a table of versions 2 to 4 after which no field follows
abbrev pub list_alone : Format → ListKind → Layout
list_alone format k = path_or_end format (listed k) [] (alone format)

-- the reader has taken these fields, and isn't at the table's end; they are the same in either order, and in either
-- format
abbrev pub ListReads : ListReader → Type 0
ListReads t = (format : Format) → (k : ListKind) × Spelt Little (list_alone format k)
    (AmongList format t (alone format))
