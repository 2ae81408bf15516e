use Rattle.std.proofs.Common.{rules, arith, ap, ◌∙◌, sym}
use Rattle.std.specs.List.{list_any}
use Rattle.std.proofs.lemmas.Bool.Decides.{nat_tests}
use Rattle.std.proofs.lemmas.List.Sorted.{list_any-IsPermutation}
use Rattle.dl_look.specs.Ranges.{no_range}
use Rattle.dl_look.proofs.RangeLemmas.{starts_rise}
use Rattle.dl_look.proofs.code_ranges.sorted.Goals as goal

pub returns-clause-rise : goal.returns-clause-rise
returns-clause-rise g c =
    starts_rise c.sort_unstable.new.self.items (λ k lt. (let h =
    c.sort_unstable.ensures.sorted k no_range (omega arith) lt in grind (arith, nat_tests)))

pub returns-clause-same : goal.returns-clause-same
returns-clause-same g c =
    λ p. sym (list_any-IsPermutation p c.extend_from_slice.new.list.items c.sort_unstable.new.self.items
    c.sort_unstable.ensures.permutation) ∙ ap (list_any p) (search rules)
