use Rattle.std.proofs.Common.{◌≡◌, ◌-◌, length}
use Rattle.dl_info.specs.Front.{seen}
use Rattle.dl_info.specs.Abbreviations.{attributes_at}
use Rattle.dl_info.proofs.abbreviation.after_attributes.Given as goal

abbrev pub invariant-loop : goal.invariant-loop
invariant-loop l =
    seen (λ x. x.1) (attributes_at (length l.bytes - l.counter) l.rest)
    ≡ seen (λ x. x.1) (attributes_at (length l.bytes) l.bytes)
