-- What stands at the front of bytes. No promise rests on this file.
use Rattle.dl_head.specs.declared.dialect.Dialect.{Dialect}
use Rattle.std.specs.Prelude.{◌≡◌, ◌≢◌, ℕ, ◌+◌, ◌≤◌, min, true, false, List, [], ◌∷◌, ◌++◌, length, take, drop}
use Rattle.std.specs.Prelude.{Option, Some, None, if◌then◌else◌}
use Rattle.std.specs.List.{AllByRecursion}
use Rattle.dl_num.specs.declared.fixed.Order.{Order}
use Rattle.dl_num.specs.Front.{SpellsNowhere, SpellsFirst}
use Rattle.dl_field.specs.HeaderData.{HeaderData}
use Rattle.dl_field.specs.declared.params.Params.{Params}
use Rattle.dl_head.specs.Header.{IsHeader, unit_len}
use Rattle.dl_reloc.specs.declared.placed.Placed.{Placed}
use Rattle.dl_rows.specs.declared.operation.Operation.{Operation}
use Rattle.dl_rows.specs.Matrix.{is_end, is_address}
use Rattle.dl_object.specs.declared.sequence.Front.{Front}
use Rattle.dl_object.specs.declared.sequence.Front.TheVariants as front
use Rattle.dl_object.specs.declared.head.UnitHead.{UnitHead}
use Rattle.dl_object.specs.Section.{IsUnread}
use Rattle.dl_object.specs.Sequences.{Spelled, spelled, bytes_of}
use Rattle.dl_object.specs.Kept.{address_place, program_kept}

-- no operation ends a sequence
abbrev pub NoEnd : List Spelled → Type 0
NoEnd s = AllByRecursion (λ o. is_end o.operation ≡ false) s

-- the last operation alone ends a sequence
pub record IsSequence (s : List Spelled) : Type 0 where
  pub front : List Spelled
  pub last : Spelled
  pub is : s ≡ front ++ last ∷ []
  pub none : NoEnd front
  pub ends : is_end last.operation ≡ true

-- b is the bytes of these operations, and then rest
abbrev pub Runs : Order → Params → List ℕ → List Spelled → List ℕ → Type 0
Runs order h b [] rest = b ≡ rest
Runs order h b (o ∷ s) rest =
    (v : List ℕ) × (b ≡ o.bytes ++ v) × SpellsFirst (spelled order h) o.bytes o × Runs order h v s rest

abbrev pub FrontIs : Order → Params → List ℕ → Front → Type 0
FrontIs order h b (front.Sequence q) =
    (s : List Spelled) × IsSequence s × Runs order h b s (drop q.len b) × (q.len ≡ length (bytes_of s))
    × (q.address ≡ address_place h 0 s)
FrontIs order h b front.Open = (s : List Spelled) × NoEnd s × Runs order h b s []
FrontIs order h b front.Damaged =
    (s : List Spelled) × (rest : List ℕ) × NoEnd s × Runs order h b s rest × SpellsNowhere (spelled order h) rest
    × (rest ≢ [])

-- the place of the first address, with that of an operation that follows
abbrev pub with_address : Option ℕ → Operation → ℕ → Option ℕ
with_address (Some first) o place = Some first
with_address None o place = if is_address o then Some place else None

-- a place at an offset
abbrev pub place_from : ℕ → Option ℕ → Option ℕ
place_from offset None = None
place_from offset (Some at) = Some (offset + at)

-- a place in n bytes
abbrev pub PlaceWithin : ℕ → Option ℕ → Type 0
PlaceWithin n None = Unit {0}
PlaceWithin n (Some at) = at ≤ n

-- at least 3 bytes, of n, with the place in them
abbrev pub IsWithin : ℕ → Front → Type 0
IsWithin n (front.Sequence q) = (3 ≤ q.len) × (q.len ≤ n) × PlaceWithin q.len q.address
IsWithin n other = Unit {0}

-- the head of a unit at the front of b
abbrev pub KindIs : Dialect → List ℕ → Option HeaderData → Type 0
KindIs dialect head (Some h) = IsHeader dialect h head
KindIs dialect head None = IsUnread dialect head

pub record HeadIs (dialect : Dialect) (b : List ℕ) (u : UnitHead) : Type 0 where
  pub kind : KindIs dialect (take u.len b) u.header
  pub len : ℕ
  pub told : unit_len dialect (take u.len b) ≡ Some len
  pub unit : u.unit_len ≡ min len (length b)

abbrev pub HeadWithin : ℕ → Option UnitHead → Type 0
HeadWithin n None = Unit {0}
HeadWithin n (Some u) = (1 ≤ u.len) × (u.len ≤ u.unit_len) × (u.unit_len ≤ n)

-- what is left of a unit at an offset, whose head has `len` bytes
abbrev pub unit_kept : Order → List Placed → ℕ → ℕ → Option HeaderData → ℕ → List ℕ → List ℕ
unit_kept order places section offset None len unit = unit
unit_kept order places section offset (Some h) len unit =
    take len unit ++ program_kept order h.params places section (offset + len) (drop len unit)
