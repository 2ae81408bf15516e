use Rattle.dl_cmd.proofs.WordLaws.{faultless_words_ask, faultless_words_stand}
use Rattle.dl_cmd.proofs.laws.faultless_words.Goals as goal

pub returns-clause-ask : goal.returns-clause-ask
returns-clause-ask c = faultless_words_ask

pub returns-clause-stand : goal.returns-clause-stand
returns-clause-stand c = faultless_words_stand
