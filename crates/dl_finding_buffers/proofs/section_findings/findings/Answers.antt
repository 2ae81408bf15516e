use Rattle.std.proofs.Common.{refl}
use Rattle.dl_finding_buffers.proofs.section_findings.findings.Goals as goal

pub returns : goal.returns
returns g c =
    rw (← c.goes_on.ensures, ← c.dialect_of.ensures) (
      _,
      record { rules = c.of_bits.ensures; form = refl; code = refl; ranges = refl },
      c.tell_section.ensures,
    )
