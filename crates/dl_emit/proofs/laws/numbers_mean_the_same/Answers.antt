use Rattle.dl_emit.proofs.ConversionLaws.{numbers_mean_the_same}
use Rattle.dl_emit.proofs.ReadOlder.{read_is_older}
use Rattle.dl_emit.proofs.laws.numbers_mean_the_same.Goals as goal

pub returns-clause-same : goal.returns-clause-same
returns-clause-same c = numbers_mean_the_same

pub returns-clause-read : goal.returns-clause-read
returns-clause-read c = read_is_older
