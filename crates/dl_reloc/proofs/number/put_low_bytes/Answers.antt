use Rattle.std.proofs.Common.{length, take, ◌∙◌, ap}
use Rattle.dl_reloc.proofs.NumberLemmas.{low_front}
use Rattle.dl_reloc.proofs.number.put_low_bytes.Goals as goal

pub returns-in_default : goal.returns-in_default
returns-in_default c =
    let size = length c.args.place.now in
    c.copy_from_slice-in_default.ensures.after
    ∙ (ap (take size) c.to_le_bytes-bytes.ensures ∙ low_front size c.args.number c.requires)
