use Rattle.std.proofs.Common.{length}
use Rattle.dl_info.specs.Abbreviations.{attributes_at}
use Rattle.dl_info.proofs.AbbreviationLemmas.{has_after}
use Rattle.dl_info.proofs.abbreviation.declaration_at.Goals as goal

pub returns-clause-whole : goal.returns-clause-whole
returns-clause-whole c =
    let b = c.in_ok-attributes.attributes.now in
    has_after (attributes_at (length b) b) c.in_ok-rest-2.rest.now c.in_ok-rest-2.ensures
