use Rattle.std.proofs.Common.{ℕ, List, inl, subst}
use Rattle.dl_building.specs.Putting.{PutsIndex}
use Rattle.dl_building.proofs.file.build_file.Goals as goal

pub returns-in-Ok : goal.returns-in-Ok
returns-in-Ok g c =
    inl (
      c.in-Ok.built,
      c.in-Ok.ensures,
      subst
          (λ (v : List ℕ). PutsIndex v c.in-Ok.built.survey.damaged c.args.room.now c.put.new.room c.put.new.len c.args.fault.now
          c.put.new.fault c.put.result)
          c.as_slice.ensures.value
          c.put.ensures,
    )
