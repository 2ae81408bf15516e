use Rattle.std.proofs.Common.{refl, subst}
use Rattle.dl_index_buffers.specs.IndexRecords.{IsAbout}
use Rattle.dl_index_buffers.proofs.opening.open.Goals as goal

pub returns-in-Ok : goal.returns-in-Ok
returns-in-Ok c = (
  c.in-Ok.ensures.ok,
  subst (λ b. IsAbout b c.of.result) c.in-Ok.ensures.bytes c.of.ensures,
  refl,
)
