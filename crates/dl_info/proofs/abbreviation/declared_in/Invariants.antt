use Rattle.std.proofs.Common.{◌≡◌, ◌-◌, length}
use Rattle.dl_info.specs.Abbreviations.{declared_in}
use Rattle.dl_info.proofs.abbreviation.declared_in.Given as goal

abbrev pub invariant-loop : goal.invariant-loop
invariant-loop l = declared_in (length l.table - l.counter) l.code l.rest ≡ declared_in (length l.table) l.code l.table
