-- The ranges of the sections so far, of which there are no more than these.
use Rattle.std.specs.Prelude.{◌≡◌, ◌≤◌, ◌-◌, length}
use Rattle.dl_elf.specs.Source.{ForBytes}
use Rattle.dl_elf.specs.Window.{Shows}
use Rattle.dl_file.specs.OneByOne.{ranges_upto}
use Rattle.dl_file.proofs.code.executable_ranges.Given as goal

abbrev pub invariant-loop-at : goal.invariant-loop-at
invariant-loop-at g l = (1 ≤ l.at) × (l.at - 1 ≤ l.elf.count - 1) × Shows (g.S.ReadAt.all_bytes l.source) l.window
    × ForBytes (g.S.ReadAt.all_bytes l.source) (λ f. l.ranges.items ≡ ranges_upto l.elf f (l.at - 1))
    × (length l.ranges.items ≤ l.at - 1)
