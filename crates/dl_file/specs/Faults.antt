-- Why reads of a section's bytes fail.
use Rattle.std.specs.Prelude.{◌≡◌, ◌⊎◌, ℕ, List, [], Option, Some, None, Result, Ok, Err, IfSome}
use Rattle.dl_file.specs.declared.read_fault.ReadFault.{ReadFault}
use Rattle.dl_file.specs.declared.read_fault.ReadFault.TheVariants.{Read, DamagedStream}
use Rattle.std.specs.declared.io.Error.{Error}
use Rattle.std.specs.IoError.{error_kind}
use Rattle.std.specs.declared.io.ErrorKind.TheVariants.{InvalidData}

-- the error of a read that failed so
abbrev pub IsErrorOf : ReadFault → Error → Type 0
IsErrorOf (Read kept) error = kept ≡ error
IsErrorOf (DamagedStream at) error = error_kind error ≡ InvalidData

-- a fault is told exactly where a read failed, with its error
abbrev pub Tells : {A : Type 0} → Option ReadFault → Result A Error → Type 0
Tells fault (Ok n) = fault ≡ None
Tells fault (Err error) = (why : ReadFault) × (fault ≡ Some why) × IsErrorOf why error

-- damage is told only where the stream has it
abbrev pub IsDamage : (damage : Option ℕ) → ReadFault → Type 0
IsDamage damage (Read error) = Unit {0}
IsDamage damage (DamagedStream at) = damage ≡ Some at

-- and only once all bytes before it were given
abbrev pub IsAfter : (left : List ℕ) → ReadFault → Type 0
IsAfter left (Read error) = Unit {0}
IsAfter left (DamagedStream at) = left ≡ []

-- reads of the file fail with these errors alone
abbrev pub FailsOnly : (Fails fails : Error → Type 0) → Type 0
FailsOnly Fails fails = (error : Error) → Fails error → fails error

-- a read of the file is told only with an error that it may give
abbrev pub IsReadOf : (Fails : Error → Type 0) → ReadFault → Type 0
IsReadOf Fails (Read error) = Fails error
IsReadOf Fails (DamagedStream at) = Unit {0}

-- what a reader has become by reads, of which the last so many failed: its damage is that of the first, why the last read
-- failed is true of it and kept, and reads of the file fail as those for the first may
pub record FollowsBy {R : Type 0} (damage : R → Option (Option ℕ)) (fault : R → Option ReadFault)
    (Fails : R → Error → Type 0) (first : R) (failed : ℕ) (now : R) : Type 0 where
  pub same : damage now ≡ damage first
  pub told : IfSome (damage first) (λ at. IfSome (fault now) (IsDamage at))
  pub later : (error : Error) → Fails now error → Fails first error
  pub read : IfSome (fault now) (IsReadOf (Fails first))
  pub kept : (failed ≡ 0) ⊎ ((why : ReadFault) × (fault now ≡ Some why))

-- bytes that are known have no damage
abbrev pub IsUndamaged : (damage : Option (Option ℕ)) → Type 0
IsUndamaged damage = IfSome damage (λ at. at ≡ None)

-- the bytes are known to be damaged, or they aren't known
abbrev pub MayHaveDamage : (damage : Option (Option ℕ)) → Type 0
MayHaveDamage damage = IfSome damage (λ at. ¬ (at ≡ None))

-- a read may fail: one of the file, or by damage
abbrev pub MayFailBy : {R : Type 0} → (damage : R → Option (Option ℕ)) → (Fails : R → Error → Type 0) → R → Type 0
MayFailBy damage Fails reader = ((error : Error) × Fails reader error) ⊎ MayHaveDamage (damage reader)
