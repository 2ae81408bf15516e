use Rattle.dl_buffers.proofs.FaultLemmas as lemmas
use Rattle.dl_buffers.proofs.laws.faults_are_told.Goals as goal

pub returns : goal.returns
returns c = lemmas.faults_are_told
