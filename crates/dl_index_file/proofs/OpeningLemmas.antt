-- Of the front of a file that was read into a buffer, and of its length.
use Rattle.std.proofs.Common.{◌≡◌, ℕ, ◌≤◌, ◌==◌, Bool, true, List, length, take, drop, length-take, Result, Ok, Err, sym, ap, subst, ◌∙◌, arith}
use Rattle.std.proofs.lemmas.List.{take_all}
use Rattle.std.proofs.lemmas.Bool.Decides.{nat_tests}
use Rattle.std.specs.Result.{IsErrAnd}
use Rattle.dl_index.specs.IsIndex.{IsHeaded, HasFault}
use Rattle.dl_index.specs.declared.fault.IndexFault.{IndexFault}
use Rattle.dl_index_file.specs.declared.fault.OpenFault.{OpenFault}
use Rattle.dl_index_file.specs.declared.fault.OpenFault.TheVariants.{Index}
use Rattle.dl_index_file.specs.Opening.{Opens}

pub front_is : (b buffer : List ℕ) (n : ℕ) → length buffer ≡ 128 → 128 ≤ length (take n buffer)
    → take n buffer ≡ take (length buffer) (drop 0 b) → buffer ≡ take 128 b
front_is b buffer n len enough read =
    let taken = length-take n buffer in
    sym (take_all n buffer (omega arith)) ∙ read ∙ ap (λ m. take m b) len

pub same_len : (r : Bool) (m n : ℕ) → r ≡ (m == n) → r ≡ true → m ≡ n
same_len r m n is whole = grind (arith, nat_tests)

-- the fault of a check is told
pub tells_fault : {A : Type 0} (b : List ℕ) (fault : IndexFault) (r : Result A OpenFault)
    → IsErrAnd r (λ given. given ≡ Index fault) → HasFault b fault × ¬ (IsHeaded b) → Opens b r
tells_fault b fault (Ok index) is has = absurd is
tells_fault {A} b fault (Err given) is has = subst (λ g. Opens {A = A} b (Err g)) (sym is) has
