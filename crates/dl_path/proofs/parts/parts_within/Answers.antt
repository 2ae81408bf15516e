use Rattle.dl_field.specs.HeaderData.{header_cells}
use Rattle.dl_path.proofs.HeaderTextLemmas.{alone_within}
use Rattle.dl_path.proofs.parts.parts_within.Goals as goal

pub returns-in_default-clause-within : goal.returns-in_default-clause-within
returns-in_default-clause-within c few =
    alone_within (header_cells c.args.header.now) c.alone.result c.args.name c.alone.ensures.base c.alone.ensures.directory
    c.alone.ensures.name few

pub returns-clause-within : goal.returns-clause-within
returns-clause-within c few =
    record { base = c.base_of.ensures.within; directory = c.in-Some.ensures.within; name = few }
