use Rattle.dl_emit.proofs.ConversionLemmas.{all_text, found_text}
use Rattle.dl_emit.proofs.conversion.before_zero.Goals as goal

pub returns-in-Some-clause-text : goal.returns-in-Some-clause-text
returns-in-Some-clause-text c = found_text c.args.bytes.now c.in-Some.text.now c.in-Some.ensures

pub returns-in-None-clause-text : goal.returns-in-None-clause-text
returns-in-None-clause-text c = all_text c.args.bytes.now c.in-None.ensures
