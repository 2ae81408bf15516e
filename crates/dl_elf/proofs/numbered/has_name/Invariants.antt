-- The bytes so far are those of the name.
use Rattle.std.proofs.Common.{◌≡◌, ◌+◌, ◌∷◌, [], ◌++◌, take, drop}
use Rattle.dl_elf.specs.Source.{ForBytes}
use Rattle.dl_elf.specs.Window.{Shows}
use Rattle.dl_elf.proofs.numbered.has_name.Given as goal

abbrev pub invariant-loop-index : goal.invariant-loop-index
invariant-loop-index g l = record {
  names : Shows (g.S.ReadAt.all_bytes l.source) l.names;
  same : ForBytes (g.S.ReadAt.all_bytes l.source) (λ f.
      take l.index (drop (l.elf.names.offset + l.section.name_offset) f) ≡ take l.index (l.name ++ 0 ∷ []));
}
