use Rattle.std.proofs.Common.{arith}
use Rattle.dl_making.proofs.FewLemmas.{entries_few}
use Rattle.dl_sources.proofs.lister.Lister.add_table.Goals as goal

pub returns-clause-few : goal.returns-clause-few
returns-clause-few g c = omega (arith, entries_few c.args.header.now.files c.params-params.ensures.sound.files)
