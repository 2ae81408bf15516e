use Rattle.std.proofs.Common.{◌+◌, ◌*◌, ◌<◌, ◌≤◌}
use Rattle.dl_elf.specs.Elf.{bytes_at}
use Rattle.dl_elf.specs.Source.{ForBytes}
use Rattle.dl_index.specs.Columns.{number_at, size_of}
use Rattle.dl_index_file.specs.Narrowed.{Narrowed}
use Rattle.dl_index_file.proofs.search.narrow.Given as goal

abbrev pub invariant-loop-left : goal.invariant-loop-left
invariant-loop-left g l =
    (0 < l.left) × (l.low + l.left ≤ l.count) × (1 ≤ l.most) × (l.most * l.size ≤ 4096)
    × ForBytes (g.S.ReadAt.all_bytes l.source) (λ b.
    Narrowed (number_at (size_of l.width) (bytes_at l.starts.offset l.starts.size b)) l.count l.x l.low l.left)

abbrev pub decreases-loop-left : goal.decreases-loop-left
decreases-loop-left g l = l.left
