-- What the look-up in an index answers. l: a layout; b: the bytes of the index; a: an address.
use Rattle.std.specs.Prelude.{◌≡◌, ◌≢◌, ℕ, ◌<◌, List, length, slice_index, slice_index_or, Option, Some, None, IfSome}
use Rattle.dl_buffers.specs.declared.status.Status.{Status}
use Rattle.dl_buffers.specs.declared.status.Status.TheVariants as status
use Rattle.dl_index.specs.IsIndex.{IsIndex}
use Rattle.dl_index.specs.Layout.{count_in}
use Rattle.dl_index.specs.LayoutOf.{IsLayoutOf}
use Rattle.dl_index.specs.Stretches.{Told}
use Rattle.dl_index.specs.Telling.{find_in, told_in}
use Rattle.dl_index.specs.declared.layout.Layout.{Layout}
use Rattle.dl_index_buffers.specs.IndexRecords.{Answers, Tells}
use Rattle.dl_index_buffers.specs.declared.record.LocationRecord.{LocationRecord}

-- of well-formed bytes, what they tell of the address; of others, what some stretch of them tells, or nothing
pub record IsTold (b : List ℕ) (a : ℕ) (told : Option Told) : Type 0 where
  pub exact : IsIndex b → told ≡ find_in b a
  pub stands : IfSome told (λ t. (k : ℕ) × (k < count_in b) × (told_in b k ≡ Some t))

-- `find`: of a location, p before it and q after it. Fault: the bytes aren't laid out so
abbrev pub FindsOne : (l : Layout) (b : List ℕ) (a : ℕ) (p q : LocationRecord) → Status → Type 0
FindsOne l b a p q status.Done = IsLayoutOf l b × ((t : Told) × IsTold b a (Some t) × Tells b t q)
FindsOne l b a p q status.NoAnswer = IsLayoutOf l b × IsTold b a None × (q ≡ p)
FindsOne l b a p q status.Fault = (IsLayoutOf l b → ⊥) × (q ≡ p)
FindsOne l b a p q other = ⊥

-- a location answers for an address
abbrev pub Located : List ℕ → ℕ → LocationRecord → Type 0
Located b a r = (told : Option Told) × IsTold b a told × Answers b told r

-- `find_many`: of locations, p before it and q after it, one for each address
abbrev pub FindsMany : (l : Layout) (b addresses : List ℕ) (p q : List LocationRecord) → Status → Type 0
FindsMany l b addresses p q status.Done =
    IsLayoutOf l b × (length q ≡ length addresses)
    × ((i : ℕ) → i < length addresses → (d : LocationRecord) → Located b (slice_index addresses i) (slice_index_or q i d))
FindsMany l b addresses p q status.NoRoom = (length p ≢ length addresses) × (q ≡ p)
FindsMany l b addresses p q status.Fault = (IsLayoutOf l b → ⊥) × (q ≡ p)
FindsMany l b addresses p q other = ⊥
