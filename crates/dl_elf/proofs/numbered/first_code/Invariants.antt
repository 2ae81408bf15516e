-- No section so far has instructions, and bytes where they are asked for.
use Rattle.std.proofs.Common.{◌≡◌, ◌-◌, ◌≤◌, ◌&&◌, ℕ, Option, None}
use Rattle.dl_elf.specs.Source.{ForBytes}
use Rattle.dl_elf.specs.Window.{Shows}
use Rattle.dl_elf.specs.Numbered.{first_upto, is_code_at, is_full_at}
use Rattle.dl_elf.proofs.numbered.first_code.Given as goal

abbrev pub invariant-loop-number : goal.invariant-loop-number
invariant-loop-number g l = record {
  headers : Shows (g.S.ReadAt.all_bytes l.source) l.headers;
  upto : l.number - 1 ≤ l.elf.count - 1;
  none : ForBytes (g.S.ReadAt.all_bytes l.source) (λ f.
      ◌≡◌ {A = Option ℕ} (first_upto (λ n. is_code_at l.elf f n && is_full_at l.elf f l.full n) (l.number - 1)) None);
}
