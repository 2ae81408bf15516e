-- What the header of an index says, or which of its checks fails first. b: all the bytes.
use Rattle.std.specs.Prelude.{◌≡◌, ℕ, List, Result, Ok, Err}
use Rattle.dl_index.specs.Layout.{length_in}
use Rattle.dl_index.specs.Parts.{Reads}
use Rattle.dl_index.specs.IsIndex.{HasHeader, IsLaidOut, IsHeaded, HasFault}
use Rattle.dl_index.specs.declared.fault.IndexFault.{IndexFault}
use Rattle.dl_index.specs.declared.header.Header.{Header}

-- how many bytes it says that there are
abbrev pub LengthIs : List ℕ → Result ℕ IndexFault → Type 0
LengthIs b (Ok len) = HasHeader b × (len ≡ length_in b)
LengthIs b (Err fault) = HasFault b fault × ¬ (HasHeader b)

-- what it says of the parts
abbrev pub HeaderIs : List ℕ → Result Header IndexFault → Type 0
HeaderIs b (Ok h) = IsHeaded b × Reads h b
HeaderIs b (Err fault) = HasFault b fault × ¬ (IsHeaded b)

-- the same but for its sum
abbrev pub LayoutIs : List ℕ → Result Header IndexFault → Type 0
LayoutIs b (Ok h) = IsLaidOut b × Reads h b
LayoutIs b (Err fault) = HasFault b fault × ¬ (IsLaidOut b)
