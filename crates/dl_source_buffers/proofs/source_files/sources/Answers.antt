use Rattle.std.proofs.Common.{refl}
use Rattle.dl_sources.specs.SourceFiles.{files_held}
use Rattle.dl_source_buffers.proofs.source_files.sources.Goals as goal

pub returns : goal.returns
returns g c =
    rw (← c.goes_on.ensures, ← c.dialect_of.ensures) (
      _,
      record { code = refl; directories = λ unit. refl },
      (
        files_held c.found_in-found.result.table,
        c.found_in-found.result.end,
        c.found_in-found.ensures,
        c.tell.ensures,
      ),
    )
