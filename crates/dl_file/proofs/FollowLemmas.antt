-- What a reader becomes by a read.
use Rattle.std.proofs.Common.{◌≡◌, ◌<◌, inl, inr, refl, sym, ◌∙◌, subst, length, ℕ, List, Option, Some, None, Result, Ok, Err}
use Rattle.std.proofs.Common.{IfOk, IfSome}
use Rattle.std.specs.declared.io.Error.{Error}
use Rattle.dl_input.specs.Failing.{Goes}
use Rattle.dl_file.specs.ContentReader.{EndsBy}
use Rattle.dl_file.specs.Faults.{FollowsBy, IsDamage, IsReadOf, IsUndamaged, MayFailBy, MayHaveDamage, Tells}
use Rattle.dl_file.specs.declared.read_fault.ReadFault.{ReadFault}
use Rattle.dl_file.specs.declared.read_fault.ReadFault.TheVariants.{Read, DamagedStream}

-- nothing is told
none_told : (known : Option (Option ℕ)) (fault : Option ReadFault) → fault ≡ None
    → IfSome known (λ at. IfSome fault (IsDamage at))
none_told None fault is = tt
none_told (Some at) fault is = rw is tt

none_read : (Fails : Error → Type 0) (fault : Option ReadFault) → fault ≡ None → IfSome fault (IsReadOf Fails)
none_read Fails fault is = rw is tt

-- what is told of later reads is told of the first
read_later : (Fails First : Error → Type 0) (fault : Option ReadFault) → ((error : Error) → Fails error → First error)
    → IfSome fault (IsReadOf Fails) → IfSome fault (IsReadOf First)
read_later Fails First None later read = tt
read_later Fails First (Some (Read error)) later read = later error read
read_later Fails First (Some (DamagedStream at)) later read = tt

-- damage that is told is damage
may_have : (known : Option (Option ℕ)) (at : ℕ) → IfSome known (λ d. IsDamage d (DamagedStream at)) → MayHaveDamage known
may_have None at told = tt
may_have (Some None) at told = absurd (cc told)
may_have (Some (Some n)) at told = λ e. cc e

-- a read that failed may fail
may_fail : {R : Type 0} (damage : R → Option (Option ℕ)) (Fails : R → Error → Type 0) (r : R) (why : ReadFault)
    → IfSome (damage r) (λ at. IsDamage at why) → IsReadOf (Fails r) why → MayFailBy damage Fails r
may_fail damage Fails r (Read error) told read = inl (error, read)
may_fail damage Fails r (DamagedStream at) told read = inr (may_have (damage r) at told)

told_why : (known : Option (Option ℕ)) (fault : Option ReadFault) (why : ReadFault) → fault ≡ Some why
    → IfSome known (λ at. IfSome fault (IsDamage at)) → IfSome known (λ at. IsDamage at why)
told_why known fault why is told =
    subst (λ (o : Option ReadFault). IfSome known (λ at. IfSome o (IsDamage at))) is told

pub goes_on : {R : Type 0} (damage : R → Option (Option ℕ)) (fault : R → Option ReadFault) (Fails : R → Error → Type 0)
    (old new : R) (left : Option (List ℕ)) (result : Result ℕ Error) (buffer : List ℕ)
    → EndsBy (damage old) left (fault new) result buffer → damage new ≡ damage old
    → IfSome (fault new) (IsReadOf (Fails old))
    → ((error : Error) → Fails new error → Fails old error) → Tells (fault new) result
    → Goes (FollowsBy damage fault Fails) (MayFailBy damage Fails) old new result
goes_on damage fault Fails old new left (Ok n) buffer ends same fails later tells first failed so = record {
  same = same ∙ so.same;
  told = none_told (damage first) (fault new) tells;
  later = λ error at. so.later error (later error at);
  read = none_read (Fails first) (fault new) tells;
  kept = inl refl;
}
goes_on damage fault Fails old new left (Err error) buffer ends same fails later tells first failed so =
    let told : IfSome (damage first) (λ at. IfSome (fault new) (IsDamage at)) =
    subst (λ (known : Option (Option ℕ)). IfSome known (λ at. IfSome (fault new) (IsDamage at))) so.same ends.0 in
    let read : IfSome (fault new) (IsReadOf (Fails first)) = read_later (Fails old) (Fails first) (fault new) so.later fails in
    let why : ReadFault = tells.0 in (
      record {
        same = same ∙ so.same;
        told = told;
        later = λ other at. so.later other (later other at);
        read = read;
        kept = inr (why, tells.1);
      },
      inr (may_fail damage Fails first why (told_why (damage first) (fault new) why tells.1 told)
          (subst (λ (o : Option ReadFault). IfSome o (IsReadOf (Fails first))) tells.1 read)),
    )

-- a read that gave nothing though there was room tells that there is no damage
pub ends_whole : (known same : Option (Option ℕ)) (left : Option (List ℕ)) (fault : Option ReadFault) (result : Result ℕ Error)
    (buffer : List ℕ) → EndsBy known left fault result buffer → same ≡ known
    → IfOk result (λ n. n ≡ 0 → 0 < length buffer → IsUndamaged same)
ends_whole known same left fault (Ok n) buffer ends is = λ none room. subst IsUndamaged (sym is) (ends none room)
ends_whole known same left fault (Err error) buffer ends is = tt
