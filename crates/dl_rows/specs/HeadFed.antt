-- What the bytes of a header that a reader takes come to. No promise rests on this file.
use Rattle.std.specs.Prelude.{◌≡◌, ℕ, List, [], ◌++◌, take, Result}
use Rattle.dl_head.specs.declared.dialect.Dialect.{Dialect}
use Rattle.dl_head.specs.declared.fault.Fault.{Fault}
use Rattle.dl_rows.specs.declared.reader.Fed.{Fed}
use Rattle.dl_rows.specs.declared.reader.Reader.{Reader}
use Rattle.dl_rows.specs.Items.{unit_items}
use Rattle.dl_rows.specs.LineUnit.{events}
use Rattle.dl_rows.specs.ReaderAnswers.{FedAfter}

-- none of a program is among them
pub record HeadFed (dialect : Dialect) (b piece : List ℕ) (result : Result Fed Fault) (new : Reader) : Type 0 where
  pub used : ℕ
  pub fed : FedAfter dialect (events dialect b) b piece used result new
  pub items : unit_items dialect (b ++ take used piece) ≡ []
