-- The texts of what is damaged of an index.
use Rattle.std.specs.Prelude.{ℕ, List, codes}
use Rattle.dl_index.specs.declared.fault.IndexPart.{IndexPart}
use Rattle.dl_index.specs.declared.fault.IndexPart.TheVariants as part

abbrev pub part_text : IndexPart → List ℕ
part_text part.Length = codes "length"
part_text part.Place = codes "place of a part"
part_text part.Sum = codes "sum"
part_text part.Order = codes "order of starts"
part_text part.File = codes "number of a file"
part_text part.Text = codes "place in the texts"
