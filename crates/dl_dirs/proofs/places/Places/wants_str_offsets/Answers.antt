use Rattle.dl_dirs.specs.Units.{entries, has_index}
use Rattle.dl_dirs.specs.declared.places.Section.TheVariants as section
use Rattle.dl_dirs.proofs.FoundLemmas.{index_same, is_wanted}
use Rattle.dl_dirs.proofs.places.Places.wants_str_offsets.Goals as goal

pub returns : goal.returns
returns c order abbreviations b are =
    is_wanted c.args.self.now (entries order abbreviations b) section.StrOffsets has_index index_same are.1 c.deref.result.now
    c.is_wanted.result c.deref.ensures.value c.is_wanted.ensures
