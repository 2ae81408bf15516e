-- No section so far has the name, and bytes where they are asked for.
use Rattle.std.proofs.Common.{◌≡◌, ◌-◌, ◌≤◌, ◌&&◌, ℕ, Option, None}
use Rattle.dl_elf.specs.Source.{ForBytes}
use Rattle.dl_elf.specs.Window.{Shows}
use Rattle.dl_elf.specs.Numbered.{first_upto, is_full_at, is_named_at}
use Rattle.dl_elf.proofs.numbered.first_named.Given as goal

abbrev pub invariant-loop-number : goal.invariant-loop-number
invariant-loop-number g l = record {
  headers : Shows (g.S.ReadAt.all_bytes l.source) l.headers;
  names : Shows (g.S.ReadAt.all_bytes l.source) l.names;
  upto : l.number - 1 ≤ l.elf.count - 1;
  none : ForBytes (g.S.ReadAt.all_bytes l.source) (λ f.
      ◌≡◌ {A = Option ℕ} (first_upto (λ n. is_named_at l.elf f l.name n && is_full_at l.elf f l.full n) (l.number - 1)) None);
}
