use Rattle.std.proofs.Common.{◌≡◌, ◌-◌, ◌++◌, length}
use Rattle.dl_info.specs.Abbreviations.{attributes_in}
use Rattle.dl_info.specs.Kept.{with_bytes}
use Rattle.dl_info.proofs.RemainLemmas.{Remain}
use Rattle.dl_info.proofs.abbreviations.with_bytes.Given as goal

abbrev pub invariant-loop : goal.invariant-loop
invariant-loop l =
    Remain (length l.declared - l.counter) l.left
    (λ attributes. l.kept.items ++ with_bytes attributes ≡ with_bytes (attributes_in l.declared))
