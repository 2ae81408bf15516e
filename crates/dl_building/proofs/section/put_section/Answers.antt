use Rattle.std.proofs.Common.{ℕ, List, inl, subst}
use Rattle.dl_building.specs.Putting.{PutsIndex}
use Rattle.dl_building.proofs.section.put_section.Goals as goal

pub returns-in-Ok : goal.returns-in-Ok
returns-in-Ok g c =
    inl (
      c.in-Ok.made,
      c.in-Ok.ensures,
      subst
          (λ (v : List ℕ). PutsIndex v c.in-Ok.made.damaged c.args.room.now c.put.new.room c.put.new.len c.args.fault.now
          c.put.new.fault c.put.result)
          c.as_slice.ensures.value
          c.put.ensures,
    )
