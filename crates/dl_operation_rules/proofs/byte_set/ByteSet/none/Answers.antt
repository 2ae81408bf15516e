use Rattle.std.proofs.Common.{◌≡◌, ℕ, zero, suc, false, refl}
use Rattle.std.specs.Prelude.{slice_index_or}
use Rattle.std.proofs.Math.ListN.{replicate}
use Rattle.dl_operation_rules.proofs.byte_set.ByteSet.none.Goals as goal

none_in : (n b : ℕ) → slice_index_or (replicate n false) b false ≡ false
none_in zero b = refl
none_in (suc n) zero = refl
none_in (suc n) (suc b) = none_in n b

pub returns : goal.returns
returns c b = none_in 256 b
