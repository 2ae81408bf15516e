use Rattle.std.proofs.Common.{rules}
use Rattle.dl_info.specs.Kept.{kept_in}
use Rattle.dl_info.proofs.KeptLemmas.{kept_stands}
use Rattle.dl_info.proofs.abbreviations.Table.find.Goals as goal

pub returns-in-Some-clause-attributes : goal.returns-in-Some-clause-attributes
returns-in-Some-clause-attributes c =
    kept_stands c.as_slice.result c.args.offset c.args.code c.args.section.now (kept_in c.args.self.now c.args.code)
    (c.requires c.args.code)
    (search rules)
