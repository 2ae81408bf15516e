-- What the call that tells a stretch of an index answers. l: a layout; b: the bytes of the index; k: the number of the stretch,
-- from 0.
use Rattle.std.specs.Prelude.{◌≡◌, ℕ, ◌+◌, ◌-◌, ◌^◌, ◌<◌, List, Option, None}
use Rattle.std.specs.Option.{option_map_or}
use Rattle.dl_buffers.specs.declared.status.Status.{Status}
use Rattle.dl_buffers.specs.declared.status.Status.TheVariants as status
use Rattle.dl_index.specs.Layout.{base_in, count_in, start_in}
use Rattle.dl_index.specs.LayoutOf.{IsLayoutOf}
use Rattle.dl_index.specs.Telling.{IsStart, told_in}
use Rattle.dl_index.specs.declared.layout.Layout.{Layout}
use Rattle.dl_index_buffers.specs.IndexRecords.{Answers}
use Rattle.dl_index_buffers.specs.declared.record.LocationRecord.{LocationRecord}

-- the last address of stretch k: the one before the next stretch, or of all
abbrev pub IsLast : List ℕ → ℕ → (last : ℕ) → Type 0
IsLast b k last =
    (next : Option ℕ) × IsStart b (k + 1) next × (last ≡ option_map_or (λ n. n - 1) next (2 ^ 64 - 1))

-- `stretch`: of its first address, its last one and a location, p, m and r before it, and q, n and s after it, only what the
-- status says is written. NoAnswer: there is no such stretch, or its first address isn't below 2^64
abbrev pub ListsStretch : (l : Layout) (b : List ℕ) (k : ℕ) (p q m n : ℕ) (r s : LocationRecord) → Status → Type 0
ListsStretch l b k p q m n r s status.Done =
    IsLayoutOf l b × (k < count_in b) × (q ≡ base_in b + start_in b k) × IsLast b k n × Answers b (told_in b k) s
ListsStretch l b k p q m n r s status.NoAnswer = IsLayoutOf l b × IsStart b k None × (q ≡ p) × (n ≡ m) × (s ≡ r)
ListsStretch l b k p q m n r s status.Fault = (IsLayoutOf l b → ⊥) × (q ≡ p) × (n ≡ m) × (s ≡ r)
ListsStretch l b k p q m n r s other = ⊥
