use Rattle.std.proofs.Common.{◌≡◌, ◌+◌, ◌-◌, ◌≤◌, ◌⊎◌, ◌++◌, length, take, drop}
use Rattle.dl_elf.specs.Source.{ForBytes}
use Rattle.dl_index_file.proofs.text.read_range.Given as goal

abbrev pub invariant-loop-done : goal.invariant-loop-done
invariant-loop-done g l =
    (l.done ≤ l.range.size) × (length l.out.items ≡ length l.initial.out.items + l.done) × (take (length l.initial.out.items) l.out.items ≡ l.initial.out.items)
    × ForBytes (g.S.ReadAt.all_bytes l.source) (λ b.
    (l.out.items ≡ l.initial.out.items ++ take l.done (drop l.range.offset b))
    × ((l.done ≡ 0) ⊎ (l.range.offset + l.done ≤ length b)))

abbrev pub decreases-loop-done : goal.decreases-loop-done
decreases-loop-done g l = l.range.size - l.done
