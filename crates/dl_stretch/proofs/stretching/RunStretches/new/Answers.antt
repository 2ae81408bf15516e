use Rattle.dl_stretch.proofs.CutPlaceLemmas.{cuts_stand}
use Rattle.dl_stretch.proofs.StretchCounts.{few_stretches}
use Rattle.dl_stretch.proofs.stretching.RunStretches.new.Goals as goal

pub invariant_of-result : goal.invariant_of-result
invariant_of-result g c = record { sound = c.requires; stand = cuts_stand c.args.spans.now c.in_ok-cuts.cuts.items c.in_ok-cuts.ensures.cuts }

pub returns-clause-few : goal.returns-clause-few
returns-clause-few g c list stands = few_stretches c.args.runs.now c.args.spans.now list stands.0 stands.1
