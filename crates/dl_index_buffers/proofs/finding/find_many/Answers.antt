use Rattle.std.proofs.Common.{get_or, subst}
use Rattle.dl_index_buffers.specs.IndexFindCalls.{Located}
use Rattle.dl_index_buffers.proofs.finding.find_many.Goals as goal

pub returns : goal.returns
returns c = (
  c.in-Some.ensures.laid_out,
  c.locate_all.ensures.len,
  λ i less d.
      subst
      (λ b. Located b (get_or c.args.addresses.now i 0) (get_or c.locate_all.new.locations i d))
      c.in-Some.ensures.bytes
      (c.locate_all.ensures.located i less d),
)
