use Rattle.dl_pack.proofs.LawLemmas.{named_are_told, named_are_found}
use Rattle.dl_pack.proofs.laws.stretches_are_found.Goals as goal

pub returns : goal.returns
returns c = record { told = named_are_told; found = named_are_found }
