use Rattle.std.proofs.Common.{◌∙◌, arith, refl}
use Rattle.dl_num.specs.Fixed.{little_bytes}
use Rattle.dl_pack.proofs.ItemLemmas.{size_is}
use Rattle.dl_pack.proofs.RegionLemmas.{there, put_in}
use Rattle.dl_pack.proofs.writer.put_sized.Goals as goal

pub returns-then-saturating_sub-size : goal.returns-then-saturating_sub-size
returns-then-saturating_sub-size c = λ before after part room is at less. (
    let a = c.args in
    let h = there before after part (little_bytes a.size a.number) room a.place a.size a.bytes.now is at
    (size_is a.size a.number) less in
    absurd (omega (arith, h, c.if-saturating_sub-size.true, c.saturating_sub.ensures)))

pub returns : goal.returns
returns c = λ before after part room is at less. (
    let a = c.args in (
      c.put_at.ensures
          ∙ put_in before after part (little_bytes a.size a.number) room a.place a.size a.bytes.now is at (size_is a.size a.number) less,
      refl,
    ))
