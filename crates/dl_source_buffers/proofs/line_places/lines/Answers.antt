use Rattle.std.proofs.Common.{List, refl, subst}
use Rattle.dl_lines.specs.declared.places.LinePlace.{LinePlace}
use Rattle.dl_source_buffers.specs.LineCalls.{TellsPlaces}
use Rattle.dl_source_buffers.proofs.line_places.lines.Goals as goal

pub returns : goal.returns
returns g c =
    rw (← c.goes_on.ensures, ← c.dialect_of.ensures) (
      _,
      record {
        wants_path = refl;
        wants_line = refl;
        says_exact = refl;
        code = refl;
        directories = λ unit. refl;
      },
      (
        c.found_in-found.result.places.items,
        c.found_in-found.result.end,
        c.found_in-found.ensures,
        subst
            (λ (v : List LinePlace). TellsPlaces v c.found_in-found.result.end c.args.places.now c.tell.new.places c.args.count.now
            c.tell.new.count c.args.fault.now c.tell.new.fault c.tell.result)
            c.as_slice.ensures.value
            c.tell.ensures,
      ),
    )
